use Rattle.sc_worklog.proofs.ReplayedTurns.{unrefused_replays_are_turns}
use Rattle.sc_worklog.proofs.laws.unrefused_replays_are_turns.Goals as goal

pub returns : goal.returns
returns c = unrefused_replays_are_turns
