use Rattle.sc_headline.proofs.TurnsMade.{threads_make_turns}
use Rattle.sc_headline.proofs.laws.threads_make_turns.Goals as goal

pub returns : goal.returns
returns c = threads_make_turns c.world_runs_as_machine.ensures c.core_picks_where_the_machine_turns.ensures c.runs_are_one_threads.ensures
