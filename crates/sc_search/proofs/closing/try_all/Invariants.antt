use Rattle.sc_search.specs.Stops.{HasReached}
use Rattle.sc_search.specs.Views.{met_of}
use Rattle.sc_search.proofs.TriedTurns.{TriesBelow}
use Rattle.sc_search.proofs.closing.try_all.Given as goal

-- the turns of those before are tried
abbrev pub invariant-loop-handler : goal.invariant-loop-handler
invariant-loop-handler l = record {
  tries : TriesBelow l.subject.program.now.image l.subject.version l.subject.aim l.joined (met_of l.fn.progress) (met_of l.progress) l.number l.handler;
  reached : HasReached l.subject.program.now.image l.subject.version l.subject.aim l.progress;
}
