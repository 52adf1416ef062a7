-- In each state that an accepted system reaches, a body starts where the clauses of its precondition hold.
use Rattle.sc_machine_laws.proofs.Unused.{new_is_idle}
use Rattle.sc_machine_laws.specs.Starting.{BodiesStartWhereTheyHold}
use Rattle.sc_machine_laws.proofs.OthersFollow.{others_follow}
use Rattle.sc_machine_laws.proofs.OwnFollows.{own_follows}
use Rattle.sc_machine_laws.proofs.PointsReached.{clause_moves}
use Rattle.sc_machine_laws.proofs.Verdicts.{bodies_start}

pub bodies_start_where_they_hold : BodiesStartWhereTheyHold
bodies_start_where_they_hold = bodies_start clause_moves own_follows others_follow new_is_idle
