use Rattle.std.proofs.Common.{◌≡◌, List, ◌++◌, [], Ok, Err, IfOk, OnOk, ap, ◌∙◌}
use Rattle.std.specs.Result.{result_and}
use Rattle.sc_tree.specs.Plain as plain
use Rattle.sc_tree.specs.View.{class_of}
use Rattle.sc_class.specs.declared.class_tables.declared_names.DeclaredNames.{DeclaredNames}
use Rattle.sc_class.specs.Tables.Declared.{declared_feature_names, created_by}
use Rattle.sc_class.specs.Tables.Features.{redefined_by}
use Rattle.sc_class.specs.Internal.DeclaredNames.{names_of_class}
use Rattle.sc_class.proofs.class_tables.declared_names.declared_names_of.Goals as goal

-- the names of a class, behind none
are_of_class : (names : DeclaredNames) (c : plain.Class) → names.features ≡ [] ++ declared_feature_names c → names.redefined ≡ [] ++ redefined_by c →
    names.creators ≡ [] ++ created_by c → names ≡ names_of_class c
are_of_class names c f g h =
    ap (λ (xs : List plain.Name). record { features = xs; redefined = names.redefined; creators = names.creators }) f
    ∙ ap (λ (xs : List plain.Name). record { features = declared_feature_names c; redefined = xs; creators = names.creators }) g
    ∙ ap (λ (xs : List plain.Name). record { features = declared_feature_names c; redefined = redefined_by c; creators = xs }) h

pub returns : goal.returns
returns c =
    let k = class_of c.args.class.now in
    let names = c.add.new.self in
    rw c.and.ensures
    (elim c.add.result as (λ r. OnOk r (names.features ≡ c.new.result ++ declared_feature_names k) → OnOk r (names.redefined ≡ c.new-2.result ++ redefined_by k)
    → OnOk r (names.creators ≡ c.new-3.result ++ created_by k) → IfOk (result_and r (Ok names)) (λ names. names ≡ names_of_class k)) [
      | Ok u ↦ λ f g h. are_of_class names k (f ∙ ap (λ (ns : List plain.Name). ns ++ declared_feature_names k) c.new.ensures)
          (g ∙ ap (λ (ns : List plain.Name). ns ++ redefined_by k) c.new-2.ensures) (h ∙ ap (λ (ns : List plain.Name). ns ++ created_by k) c.new-3.ensures)
      | Err x ↦ λ f g h. tt
    ] c.add.ensures.features c.add.ensures.redefined c.add.ensures.creators)
