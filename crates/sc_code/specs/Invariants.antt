-- The invariants of classes in flat code (ECMA-367, 8.9.16).
use Rattle.std.specs.Prelude.{◌≡◌, ◌<◌, ℕ, Bool, List, Some, length}
use Rattle.sc_tree.specs.Plain.{System}
use Rattle.sc_class.specs.ClassNames.{Root}
use Rattle.sc_class.specs.Faults.ClassRules.{IsFaultless}
use Rattle.sc_rules.specs.Names.{RoutineName}
use Rattle.sc_rules.specs.Purity.{IsPurity}
use Rattle.sc_rules.specs.SystemRules.{WellFormed}
use Rattle.sc_model.specs.Invariants.{formulas_of}
use Rattle.sc_code.specs.Attributes.{known_formulas}
use Rattle.sc_code.specs.Programs.{class_codes_of}
use Rattle.sc_code.specs.JoinedInvariants.{joined_invariant}

-- In an accepted system the clauses of the joined invariant of a class are formulas.
abbrev pub InvariantsAreKnown : Type 0
InvariantsAreKnown =
    (s : System) (root : Root) (pure : RoutineName → Bool) → IsFaultless s root → WellFormed s → IsPurity s pure →
    (j : ℕ) → formulas_of s j ≡ Some (known_formulas (formulas_of s j))

-- In an accepted system the formulas that a class and its ancestors have in flat code make up its joined invariant,
-- though each has its own clauses alone.
abbrev pub InvariantsAreJoined : Type 0
InvariantsAreJoined =
    (s : System) (root : Root) (pure : RoutineName → Bool) → IsFaultless s root → WellFormed s → IsPurity s pure →
    (names : List (List ℕ)) (j : ℕ) → j < length s.classes →
    joined_invariant (class_codes_of s names) j ≡ known_formulas (formulas_of s j)
