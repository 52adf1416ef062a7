use Rattle.std.proofs.Common.{◌≡◌, ◌≤◌, length}
use Rattle.sc_search.specs.Memory.{bytes_of}
use Rattle.sc_search.specs.Stops.{HasReached}
use Rattle.sc_search.specs.Views.{met_of, states_of}
use Rattle.sc_search.proofs.TriedTurns.{ClosesBelow}
use Rattle.sc_search.proofs.closing.play_all.Given as goal

-- the states before are done
abbrev pub invariant-loop : goal.invariant-loop
invariant-loop g l = record {
  count : l.number ≡ l.counter;
  there : l.number ≤ length (states_of l.progress);
  closes : ClosesBelow l.subject.program.now.image l.subject.version l.subject.aim l.joined (met_of l.progress) l.number;
  reached : HasReached l.subject.program.now.image l.subject.version l.subject.aim l.progress;
  within : bytes_of l.progress ≤ l.limits.bytes;
}
