use Rattle.std.specs.Prelude.{[]}
use Rattle.sc_formula.specs.Fit.{IsFit}
use Rattle.sc_formula.specs.Plain.{plain_formula}
use Rattle.sc_tests.proofs.formulas.nested.Given as goal

abbrev pub invariant-loop : goal.invariant-loop
invariant-loop l = IsFit (plain_formula l.formula) []
