use Rattle.sc_worklog.proofs.ReplayedTurns.{turns_replay}
use Rattle.sc_worklog.proofs.laws.turns_replay.Goals as goal

pub returns : goal.returns
returns c = turns_replay
