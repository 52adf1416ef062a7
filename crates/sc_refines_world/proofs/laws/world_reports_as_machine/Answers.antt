use Rattle.sc_refines_world.proofs.Reports.{world_reports_as_machine}
use Rattle.sc_refines_world.proofs.laws.world_reports_as_machine.Goals as goal

pub returns : goal.returns
returns c = world_reports_as_machine c.core_picks_where_the_machine_turns.ensures
