use Rattle.std.proofs.Common.{◌≡◌, ◌<◌, vec_len}
use Rattle.std.specs.List.{All}
use Rattle.sc_request.specs.declared.loading.Change.{Change}
use Rattle.sc_request.specs.Loading.{changed}
use Rattle.sc_request.proofs.loading.make_changes.Given as goal

abbrev pub invariant-loop-change : goal.invariant-loop-change
invariant-loop-change l = record {
  len : vec_len l.places ≡ vec_len l.initial.places;
  below : All (λ (c : Change). c.place < vec_len l.places) l.changes.items;
  left : changed l.changes.items l.places.items ≡ changed l.initial.changes.items l.initial.places.items;
}

abbrev pub decreases-loop-change : goal.decreases-loop-change
decreases-loop-change l = vec_len l.changes
