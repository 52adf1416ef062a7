use Rattle.sc_machine_laws.proofs.InvariantSteps.{invariants_are_steps}
use Rattle.sc_machine_laws.proofs.clause_laws.invariants_are_steps.Goals as goal

pub returns : goal.returns
returns c = invariants_are_steps
