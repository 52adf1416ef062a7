-- What is read as one feature declaration has the export list that it is read under.
use Rattle.std.proofs.Common.{◌≡◌, ℕ, Bool, true, false, List, [], ◌∷◌, Option, Some, None, Result, Ok, Err, map, refl}
use Rattle.std.specs.Prelude.{if◌then◌else◌}
use Rattle.sc_text.specs.declared.token.Terminal.TheVariants as terminal
use Rattle.sc_tree.specs.Plain.{Name, DeclaredType, Declaration, Feature}
use Rattle.sc_tree.specs.Grammar.Classes.{attribute_of}
use Rattle.sc_tree.specs.Internal.Reading.Looks.{Fault, ◌>>=◌}
use Rattle.sc_parse.specs.Reading.Looks.{Ahead, Read, sees, expect, skip, name, left}
use Rattle.sc_parse.specs.Reading.Types.{more_names, declared_type}
use Rattle.sc_parse.specs.Reading.Assertions.{assertion}
use Rattle.sc_parse.specs.Reading.Instructions.{instrs}
use Rattle.sc_parse.specs.Reading.Classes.{locals, formals, result_type, begins_routine, routine, attribute_or_routine, attributes, feature}

-- Each of these features has the export list.
abbrev pub AllExported : List Name → List Feature → Type 0
AllExported es [] = Unit {0}
AllExported es (f ∷ fs) = (f.exports ≡ es) × AllExported es fs

attributes_exported : (es : List Name) (t : DeclaredType) (ns : List Name) → AllExported es (map (attribute_of es t) ns)
attributes_exported es t [] = tt
attributes_exported es t (n ∷ ns) = (refl, attributes_exported es t ns)

-- Where features are read, each has the export list.
abbrev pub Exports : List Name → Read (List Feature) → Type 0
Exports es (Ok r) = AllExported es r.0
Exports es (Err e) = Unit {0}

behind : {A : Type 0} (es : List Name) (a : Result A Fault) (f : A → Read (List Feature)) → ((x : A) → Exports es (f x)) → Exports es (a >>= f)
behind es (Ok x) f each = each x
behind es (Err e) f each = tt

module _ (room : ℕ) (es : List Name) where
  routine_exports : (x : Name) (fs : List Declaration) (t : Option DeclaredType) (ts : Ahead) → Exports es (routine room es x fs t ts)
  unfolding routine
  routine_exports x fs t ts =
      behind es (assertion room terminal.Require (skip terminal.Is ts)) _ λ pre.
      behind es (locals pre.2) _ λ ls.
      behind es (expect terminal.Do ls.1) _ λ r.
      behind es (instrs room r) _ λ b.
      behind es (assertion room terminal.Ensure b.2) _ λ post.
      behind es (expect terminal.End post.2) _ λ rest. (refl, tt)

  either_exports : (x : Name) (t : DeclaredType) (ts : Ahead) (b : Bool) →
      Exports es (if b then routine room es x [] (Some t) ts else Ok (attribute_of es t x ∷ [], 0, ts))
  either_exports x t ts true = routine_exports x [] (Some t) ts
  either_exports x t ts false = (refl, tt)

  attribute_or_routine_exports : (x : Name) (fs : List Declaration) (t : Option DeclaredType) (ts : Ahead) → Exports es (attribute_or_routine room es x fs t ts)
  attribute_or_routine_exports x fs None ts = routine_exports x fs None ts
  attribute_or_routine_exports x [] (Some t) ts = either_exports x t ts (begins_routine ts)
  attribute_or_routine_exports x (f ∷ fs) (Some t) ts = routine_exports x (f ∷ fs) (Some t) ts

  attributes_exports : (x : Name) (ts : Ahead) → Exports es (attributes room es x ts)
  unfolding attributes
  attributes_exports x ts =
      behind es (more_names (left ts) (x ∷ []) ts) _ λ ns.
      behind es (expect terminal.Colon ns.1) _ λ s.
      behind es (declared_type s) _ λ t. attributes_exported es t.0 ns.0

  chosen_exports : (x : Name) (ts : Ahead) (b : Bool) →
      Exports es (if b then attributes room es x ts else (formals ts >>= λ fs. result_type fs.1 >>= λ t. attribute_or_routine room es x fs.0 t.0 t.1))
  chosen_exports x ts true = attributes_exports x ts
  chosen_exports x ts false =
      behind es (formals ts) _ λ fs.
      behind es (result_type fs.1) _ λ t. attribute_or_routine_exports x fs.0 t.0 t.1

  -- The features of one declaration are exported as those around them.
  pub feature_exports : (ts : Ahead) → Exports es (feature room es ts)
  unfolding feature
  feature_exports ts = behind es (name ts) _ λ x. chosen_exports x.0 x.1 (sees terminal.Comma x.1)
