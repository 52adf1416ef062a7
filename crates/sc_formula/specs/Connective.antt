-- The operators on two truth values (ECMA-367, 8.28: and, or, implies and their semistrict forms).
use Rattle.std.specs.Prelude.{Bool, true, false, not, ◌&&◌, ◌||◌, Option, Some, None}
use Rattle.std.specs.Option.{option_map}
use Rattle.sc_formula.specs.declared.connective.Connective.{Connective}
use Rattle.sc_formula.specs.declared.connective.Connective.TheVariants.{And, AndThen, Or, OrElse, Xor, Implies, Equal, NotEqual}

-- exactly one of the two
abbrev pub either : Bool → Bool → Bool
either false b = b
either true b = not b

-- what the operator makes of two truth values
abbrev pub truth_table : Connective → Bool → Bool → Bool
truth_table And a b = a && b
truth_table AndThen a b = a && b
truth_table Or a b = a || b
truth_table OrElse a b = a || b
truth_table Xor a b = either a b
truth_table Implies a b = not a || b
truth_table Equal a b = not (either a b)
truth_table NotEqual a b = either a b

-- What the left side decides alone: only the semistrict operators leave the right side unevaluated, if it can't
-- matter.
abbrev pub decision_of : Connective → Bool → Option Bool
decision_of AndThen false = Some false
decision_of OrElse true = Some true
decision_of Implies false = Some true
decision_of _ _ = None

-- what a decision is, or else what both sides make
abbrev pub decision_or : Option Bool → Option Bool → Option Bool
decision_or (Some b) other = Some b
decision_or None other = other

-- The truth of two sides joined. A side may have no truth: the left one always counts, the right one if it is
-- evaluated.
abbrev pub connection_of : Connective → Option Bool → Option Bool → Option Bool
connection_of c None right = None
connection_of c (Some a) right = decision_or (decision_of c a) (option_map (truth_table c a) right)
