use Rattle.sc_formula.proofs.Division.{outcomes_divide}
use Rattle.sc_formula.proofs.laws.division_rounds_toward_zero.Goals as goal

pub returns : goal.returns
returns c =
    outcomes_divide c.args.dividend c.args.divisor c.args.quotient c.args.remainder c.requires.quotient c.requires.remainder
