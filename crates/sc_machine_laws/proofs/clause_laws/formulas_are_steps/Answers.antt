use Rattle.sc_machine_laws.proofs.FormulaSteps.{formulas_are_steps}
use Rattle.sc_machine_laws.proofs.clause_laws.formulas_are_steps.Goals as goal

pub returns : goal.returns
returns c = formulas_are_steps
