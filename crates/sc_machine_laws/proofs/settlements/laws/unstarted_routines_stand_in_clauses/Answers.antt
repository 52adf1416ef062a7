use Rattle.sc_machine_laws.proofs.settlements.Unstarted.{each_stands}
use Rattle.sc_machine_laws.proofs.settlements.laws.unstarted_routines_stand_in_clauses.Goals as goal

pub returns : goal.returns
returns c = each_stands
