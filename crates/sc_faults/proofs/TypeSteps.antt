-- What is listed of declared types, from what is listed of their parts, and whether a tag may name a formal.
use Rattle.std.proofs.Common.{◌≡◌, ℕ, ◌+◌, Bool, true, false, List, ◌∷◌, ◌++◌, Option, Some, None, Result, refl, ap, sym, ◌∙◌}
use Rattle.std.specs.Prelude.{OnOk, is_some, bytes_eq, if◌then◌else◌}
use Rattle.std.specs.Option.{option_map}
use Rattle.std.specs.declared.alloc.AllocError.{AllocError}
use Rattle.sc_tree.specs.declared.declaration.DeclaredType.{DeclaredType}
use Rattle.sc_tree.specs.Plain.{System, Declaration, HandlerOf, Name}
use Rattle.sc_tree.specs.View.{type_if_any, type_of}
use Rattle.sc_rules.specs.declared.fault.Fault.{Fault}
use Rattle.sc_rules.specs.declared.entity_types.tag.Reserved.TheVariants.{Formal}
use Rattle.sc_rules.specs.declared.entity_types.tag.Tag.TheVariants as tag
use Rattle.sc_rules.specs.Types.{declared_tag, is_nameable, number_of_named}
use Rattle.sc_faults.specs.Internal.Listing.{faults_of_type, faults_of_type_if_any}
use Rattle.sc_faults.proofs.Adding.{named_if_ok, nothing_added}

some_later : (o : Option ℕ) → is_some (option_map (λ i. i + 1) o) ≡ is_some o
some_later None = refl
some_later (Some i) = refl

some_first : (b : Bool) → is_some {T = ℕ} (if b then Some 0 else None) ≡ b
some_first true = refl
some_first false = refl

-- the first formal has the name
pub named_first : (x : List ℕ) (d : Declaration) (ds : List Declaration) → bytes_eq d.name.text x ≡ true →
    is_some (number_of_named x (d ∷ ds)) ≡ is_nameable d
named_first x d ds e =
    ap (λ b. is_some (if b then (if is_nameable d then Some 0 else None) else option_map (λ i. i + 1) (number_of_named x ds))) e
    ∙ some_first (is_nameable d)

-- it hasn't
pub named_later : (x : List ℕ) (d : Declaration) (ds : List Declaration) → bytes_eq d.name.text x ≡ false →
    is_some (number_of_named x (d ∷ ds)) ≡ is_some (number_of_named x ds)
named_later x d ds e =
    ap (λ b. is_some (if b then (if is_nameable d then Some 0 else None) else option_map (λ i. i + 1) (number_of_named x ds))) e
    ∙ some_later (number_of_named x ds)

module _ (s : System) (formals : List Declaration) (o : Option DeclaredType) (r : Result Unit AllocError) (old new : List Fault) where
  pub no_type_added : o ≡ None → old ≡ old ++ faults_of_type_if_any s formals (type_if_any o)
  no_type_added q =
      nothing_added old old refl
      ∙ ap (λ fs. old ++ fs) (sym (ap (λ (o : Option DeclaredType). faults_of_type_if_any s formals (type_if_any o)) q))

  pub type_if_any_added : (d : DeclaredType) → o ≡ Some d → OnOk r (new ≡ old ++ faults_of_type s formals (type_of d)) →
      OnOk r (new ≡ old ++ faults_of_type_if_any s formals (type_if_any o))
  type_if_any_added d q p =
      named_if_ok r old new (faults_of_type s formals (type_of d)) (faults_of_type_if_any s formals (type_if_any o))
      (sym (ap (λ (o : Option DeclaredType). faults_of_type_if_any s formals (type_if_any o)) q)) p

-- a tag that names a formal is known if one that it may name has the name
pub tag_known : (formals : List Declaration) (x : Name) → is_some (number_of_named x.text formals) ≡ is_some (declared_tag formals (HandlerOf x))
tag_known formals x = by (number_of_named x.text formals)
  where
    by : (o : Option ℕ) → is_some o ≡ is_some (option_map (λ i. tag.With (Formal i)) o)
    by None = refl
    by (Some i) = refl
