use Rattle.sc_headline.proofs.Headed.{ran}
use Rattle.sc_headline.proofs.laws.runs_are_the_machines.Goals as goal

pub returns : goal.returns
returns c =
    ran c.world_runs_as_machine.ensures c.core_picks_where_the_machine_turns.ensures c.idle_world_is_idle.ensures c.standing_world_is_near.ensures
    c.world_reports_as_machine.ensures
