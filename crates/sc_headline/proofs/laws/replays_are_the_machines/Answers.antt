use Rattle.sc_headline.proofs.Headed.{replayed}
use Rattle.sc_headline.proofs.laws.replays_are_the_machines.Goals as goal

pub returns : goal.returns
returns c = replayed c.world_runs_as_machine.ensures c.standing_world_is_near.ensures c.world_reports_as_machine.ensures
