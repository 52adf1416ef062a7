use Rattle.std.proofs.Common.{◌++◌, ℕ, List, map, ap, ◌∙◌}
use Rattle.sc_tree.specs.declared.system.Feature as tree_feature
use Rattle.sc_tree.specs.Plain.{Name}
use Rattle.sc_tree.specs.View.{class_of, feature_of}
use Rattle.sc_class.specs.declared.class_tables.line.NamedFeatures.{NamedFeatures}
use Rattle.sc_class.specs.Tables.Declared.{declared_feature_names}
use Rattle.sc_class.specs.Tables.Features.{redefined_by}
use Rattle.sc_class.specs.Internal.Lines.{changes_of, known_by, said_of}
use Rattle.sc_class.proofs.Lines.{said_both}
use Rattle.sc_class.proofs.class_tables.line.Line.known_above.Goals as goal

pub returns : goal.returns
unfolding class_of
returns c =
    let known : List ℕ → NamedFeatures = λ x. known_by x c.args.self.now.known in
    let class = class_of c.args.class.now in
    said_both known (declared_feature_names class) (redefined_by class) (changes_of c.new-changes.result.items) (changes_of c.add_features.new.changes.items) (changes_of c.add_names.new.changes.items) (ap changes_of c.new-changes.ensures.items)
    (c.in_ok-add_features.ensures ∙ ap (λ (fs : List tree_feature.Feature). changes_of c.new-changes.result.items ++ said_of known (map (λ f. f.name) (map feature_of fs))) c.deref.ensures.value)
    (c.in_ok-add_names.ensures ∙ ap (λ (ns : List Name). changes_of c.add_features.new.changes.items ++ said_of known ns) c.redefined_in.ensures)
