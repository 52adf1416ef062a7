use Rattle.sc_headline.proofs.Threaded.{threads_reported}
use Rattle.sc_headline.proofs.laws.threads_report_as_machine.Goals as goal

pub returns : goal.returns
returns c = threads_reported c.replays_are_the_machines.ensures c.runs_are_one_threads.ensures
