use Rattle.sc_headline.proofs.SearchLaws.{found}
use Rattle.sc_headline.proofs.laws.found_orders_are_the_machines.Goals as goal

pub returns : goal.returns
returns c = found c.anew_runs_as_machine.ensures c.kept_alike_read_alike.ensures c.standing_world_is_near.ensures c.world_reports_as_machine.ensures
