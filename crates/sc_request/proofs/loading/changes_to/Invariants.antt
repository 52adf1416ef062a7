use Rattle.std.proofs.Common.{◌<◌}
use Rattle.std.specs.List.{All}
use Rattle.sc_request.specs.declared.loading.Change.{Change}
use Rattle.sc_request.specs.Loading.{HaveParts, changed}
use Rattle.sc_request.proofs.loading.changes_to.Given as goal

abbrev pub invariant-loop-place : goal.invariant-loop-place
invariant-loop-place l = record {
  have : HaveParts l.place l.parts l.numbers (changed l.changes.items l.handlers);
  below : All (λ (c : Change). c.place < l.place) l.changes.items;
}
