-- What the tests of a system are.
use Rattle.std.specs.Prelude.{ℕ, ◌≡◌, ◌&&◌, ◌⊎◌, Bool, true, if◌then◌else◌, List, [], ◌∷◌, Option, Some, None, bytes_eq, codes, eqb, flat_map, map}
use Rattle.std.specs.List.{starts_with}
use Rattle.std.specs.Char.{to_ascii_lowercase}
use Rattle.sc_tree.specs.Plain.{Class, Name, System}
use Rattle.sc_class.specs.declared.fault.ClassFault.{ClassFault}
use Rattle.sc_class.specs.declared.fault.ClassFault.TheVariants as fault
use Rattle.sc_class.specs.ClassNames.{Root}
use Rattle.sc_class.specs.Faults.ClassRules.{Fails, has_root}
use Rattle.sc_frontend.specs.Texts.{IsNotRunFor, IsRead}
use Rattle.sc_frontend.specs.declared.rejection.Rejection.{Rejection}

-- the root of a class and one of its creation procedures
abbrev pub root_at : Class → Name → Root
root_at c x = record { class = c.name.text; procedure = x.text }

-- A name under `create` is that of a test if it begins with `test` and the system can be run from it: it is that of a
-- procedure without formals, the class's own or an inherited one.
abbrev pub is_test : System → Class → Name → Bool
is_test s c x = starts_with eqb x.text (codes "test") && has_root s (root_at c x)

abbrev pub test_if_any : System → Class → Name → List Root
test_if_any s c x = if is_test s c x then root_at c x ∷ [] else []

-- the tests of a class, in the order in which it lists them under `create`
abbrev pub tests_of_class : System → Class → List Root
tests_of_class s c = flat_map (test_if_any s c) c.creators

-- the class has the name that is chosen, in any letter case, or none is chosen
abbrev pub is_chosen : Option (List ℕ) → Class → Bool
is_chosen None c = true
is_chosen (Some name) c = bytes_eq (map to_ascii_lowercase name) c.name.text

abbrev pub tests_if_chosen : System → Option (List ℕ) → Class → List Root
tests_if_chosen s chosen c = if is_chosen chosen c then tests_of_class s c else []

-- the tests of the chosen classes, class after class
abbrev pub tests_of : System → Option (List ℕ) → List Root
tests_of s chosen = flat_map (tests_if_chosen s chosen) s.classes

-- These are the tests of the system that the text spells.
pub record AreTestsOf (text : List ℕ) (chosen : Option (List ℕ)) (tests : List Root) : Type 0 where
  pub system : System
  pub read : IsRead text system
  pub listed : tests ≡ tests_of system chosen

-- The fault is in the system if it is run from some root, or memory ran out.
abbrev pub IsAtFaultFor : System → ClassFault → Type 0
IsAtFaultFor s f = (f ≡ fault.OutOfMemory) ⊎ ((root : Root) × Fails s root f)

-- The text isn't run from some root for this reason, which is true of it.
abbrev pub IsRefusedFor : List ℕ → Rejection → Type 0
IsRefusedFor text why = (root : Root) × IsNotRunFor text root why
