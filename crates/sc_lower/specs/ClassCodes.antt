-- To which classes those of a system conform.
use Rattle.std.specs.Prelude.{ℕ, Bool, List, length, map}
use Rattle.std.specs.List.{range_with_len}
use Rattle.sc_tree.specs.Plain.{System}
use Rattle.sc_class.specs.declared.identity.ClassId.TheVariants.{Declared}
use Rattle.sc_class.specs.Tables.Conformance.{class_conforms}

-- to which classes the one at the number conforms
abbrev pub conforming : System → ℕ → List Bool
conforming s k = map (λ j. class_conforms s (Declared k) (Declared j)) (range_with_len 0 (length s.classes))
