use Rattle.sc_machine_laws.proofs.PointsReached.{pure_moves}
use Rattle.sc_machine_laws.proofs.precondition_laws.pure_functions_move.Goals as goal

pub returns : goal.returns
returns c = pure_moves
