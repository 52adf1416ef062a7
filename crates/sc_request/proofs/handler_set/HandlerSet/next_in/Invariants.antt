use Rattle.std.proofs.Common.{◌*◌, ◌≤◌}
use Rattle.sc_request.specs.Candidates.{HasNoneIn}
use Rattle.sc_request.proofs.handler_set.HandlerSet.next_in.Given as goal

abbrev pub invariant-loop-word : goal.invariant-loop-word
invariant-loop-word l = record {
  from : l.from ≤ l.at;
  words : l._word * 64 ≤ l.at;
  none : HasNoneIn l.self.words l.from l.at;
}
