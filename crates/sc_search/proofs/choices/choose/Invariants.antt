use Rattle.std.proofs.Common.{◌≤◌, length}
use Rattle.sc_search.specs.Stops.{HasReached}
use Rattle.sc_search.specs.Views.{states_of}
use Rattle.sc_search.proofs.choices.choose.Given as goal

-- orders led to the states so far, and those that were met before stay
abbrev pub invariant-loop-handler : goal.invariant-loop-handler
invariant-loop-handler l = record {
  reached : HasReached l.subject.program.now.image l.subject.version l.subject.aim l.progress;
  more : length (states_of l.fn.progress) ≤ length (states_of l.progress);
}
