use Rattle.std.proofs.Common.{◌≡◌, ◌-◌, ◌≤◌}
use Rattle.sc_request.specs.Candidates.{AreCandidates}
use Rattle.sc_request.specs.Crowds.{AreCrowds}
use Rattle.sc_request.specs.Places.{center_at, plain}
use Rattle.sc_request.specs.Logs.{numbers_from, first_with_job}
use Rattle.sc_request.proofs.state.State.first_in.Given as goal

abbrev pub invariant-loop-turn : goal.invariant-loop-turn
invariant-loop-turn l = record {
  ahead : l._turn ≤ l.at;
  first : first_with_job (numbers_from l.from (l.to - l.from)) (center_at 0 l.self) ≡ first_with_job (numbers_from l.at (l.to - l.at)) (center_at 0 l.self);
  tried : AreCandidates l.candidates.words (center_at 0 l.self);
  crowds : AreCrowds l.crowds.items l.self.count (plain l.self).handlers;
}
