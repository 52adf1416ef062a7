use Rattle.std.proofs.Common.{◌≡◌}
use Rattle.sc_search.specs.Stops.{HasReached}
use Rattle.sc_search.proofs.movers.play_movers.Given as goal

-- what is kept stays
abbrev pub invariant-loop : goal.invariant-loop
invariant-loop l = record {
  store : l.progress.store ≡ l.fn.progress.store;
  edges : l.progress.edges ≡ l.fn.progress.edges;
  reached : HasReached l.subject.program.now.image l.subject.version l.subject.aim l.progress;
}
