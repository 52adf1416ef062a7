-- The features of a system by number, in the order of the text, and marks of them.
use Rattle.std.specs.Prelude.{ℕ, Bool, true, false, not, List, Option, Some, None, slice_get, unwrap_or}
use Rattle.sc_tree.specs.Plain.{System}
use Rattle.sc_rules.specs.Names.{RoutineName}
pub use Rattle.sc_rules.specs.FeatureNumbers.{features_from, all_features, start, feature_number}

-- Marks tell the pure functions: those of declared features that aren't marked as impure.
abbrev pub unmarked : List Bool → Option ℕ → Bool
unmarked impure None = false
unmarked impure (Some i) = not (unwrap_or (slice_get impure i) true)

abbrev pub pure_by : System → List Bool → RoutineName → Bool
pure_by s impure f = unmarked impure (feature_number s f)
