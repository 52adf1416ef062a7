use Rattle.std.proofs.Common.{◌≡◌, ◌≤◌, Option, length, ap, sym, ◌∙◌, arith}
use Rattle.std.specs.Prelude.{is_some}
use Rattle.sc_region.specs.declared.job.Job.{Job}
use Rattle.sc_lockpass.specs.Versions.{most_handlers}
use Rattle.sc_request.specs.Cores.{center_of}
use Rattle.sc_request.specs.Logs.{pick_for, picked}
use Rattle.std.proofs.lemmas.Option.{slice_get_read}
use Rattle.sc_world.proofs.FreeHandlers.{linked_still, played_linked}
use Rattle.sc_world.proofs.Outs.{err-at, none-job, ok-at, some-of, picked-out, turn-none, turn-some, refused-some, none-picked, some-picked, world-is, moved-by, nothing-by, makes, held-up, on-err}
use Rattle.sc_world.proofs.UnusedHandlers.{unused_back, unused_settled, unused_still}
use Rattle.sc_world.proofs.configuration.Configuration.turn.Goals as goal

pub play-requires-clause-out : goal.play-requires-clause-out
play-requires-clause-out c =
    let found = some-of (pick_for c.args.handler (center_of c.make_room.new.self)) (sym c.pick_at.ensures.picked ∙ c.if-pick_at.true) in
    let j = found.0 in
    let job = sym found.1 in
    ap (λ (o : Option Job). is_some o) (picked-out c.args.handler j (center_of c.make_room.new.self) (center_of c.pick_at.new.self)
    (some-picked c.args.handler j (center_of c.make_room.new.self) (center_of c.pick_at.new.self) job c.pick_at.ensures.center))

pub play-requires-clause-room : goal.play-requires-clause-room
play-requires-clause-room c = c.pick_at.ensures.room 0 c.in_ok-make_room.ensures.room

pub returns-in_err-play-clause-err : goal.returns-in_err-play-clause-err
returns-in_err-play-clause-err c =
    let room = c.in_ok-make_room.ensures.center in
    let found = some-of (pick_for c.args.handler (center_of c.make_room.new.self)) (sym c.pick_at.ensures.picked ∙ c.if-pick_at.true) in
    let j = found.0 in
    let job = sym found.1 in
    let out = some-picked c.args.handler j (center_of c.make_room.new.self) (center_of c.pick_at.new.self) job c.pick_at.ensures.center in
    let is_out = picked-out c.args.handler j (center_of c.make_room.new.self) (center_of c.pick_at.new.self)
    (some-picked c.args.handler j (center_of c.make_room.new.self) (center_of c.pick_at.new.self) job c.pick_at.ensures.center) in
    let count : 512 ≡ length c.args.self.now.regions.items = omega (arith, c.args.self.now.places, c.args.self.now.regions.ok.0) in
    let stands = slice_get_read c.args.self.now.regions.items 512 c.args.handler c.index_mut-region.result.now count (c.pick_at.ensures.below c.if-pick_at.true) c.index_mut-region.ensures.value in
    let version = c.pick_at.ensures.version ∙ c.in_ok-make_room.ensures.version in
    on-err c.from_residual-in_err-play.result _
    (refused-some c.args.handler j _ _ (job ∙ ap (pick_for c.args.handler) room)
    (held-up c.args.handler j _ _ _ _ _ _ _ _ stands (ap most_handlers (c.in_err-play.ensures.version ∙ version))
    (out ∙ ap (picked c.args.handler j) room) (c.in_err-play.ensures.err j is_out)))

pub returns-in_ok-play-clause-ok : goal.returns-in_ok-play-clause-ok
returns-in_ok-play-clause-ok c =
    let room = c.in_ok-make_room.ensures.center in
    let found = some-of (pick_for c.args.handler (center_of c.make_room.new.self)) (sym c.pick_at.ensures.picked ∙ c.if-pick_at.true) in
    let j = found.0 in
    let job = sym found.1 in
    let out = some-picked c.args.handler j (center_of c.make_room.new.self) (center_of c.pick_at.new.self) job c.pick_at.ensures.center in
    let is_out = picked-out c.args.handler j (center_of c.make_room.new.self) (center_of c.pick_at.new.self)
    (some-picked c.args.handler j (center_of c.make_room.new.self) (center_of c.pick_at.new.self) job c.pick_at.ensures.center) in
    let count : 512 ≡ length c.args.self.now.regions.items = omega (arith, c.args.self.now.places, c.args.self.now.regions.ok.0) in
    let stands = slice_get_read c.args.self.now.regions.items 512 c.args.handler c.index_mut-region.result.now count (c.pick_at.ensures.below c.if-pick_at.true) c.index_mut-region.ensures.value in
    let version = c.pick_at.ensures.version ∙ c.in_ok-make_room.ensures.version in
    turn-some c.args.handler j _ _ (job ∙ ap (pick_for c.args.handler) room)
    (makes c.args.handler j _ _ _ _ _ _ _ _ _ _ stands (ap most_handlers version)
    (ap most_handlers (c.in_ok-play.ensures.version ∙ version)) (out ∙ ap (picked c.args.handler j) room)
    (c.in_ok-play.ensures.ok j is_out).settles)

pub returns-in_ok-play-clause-turned : goal.returns-in_ok-play-clause-turned
returns-in_ok-play-clause-turned c =
    let found = some-of (pick_for c.args.handler (center_of c.make_room.new.self)) (sym c.pick_at.ensures.picked ∙ c.if-pick_at.true) in
    let j = found.0 in
    let job = sym found.1 in
    moved-by _ j (job ∙ ap (pick_for c.args.handler) c.in_ok-make_room.ensures.center)

pub returns-else-pick_at-clause-ok : goal.returns-else-pick_at-clause-ok
returns-else-pick_at-clause-ok c =
    let room = c.in_ok-make_room.ensures.center in
    let none = none-job (pick_for c.args.handler (center_of c.make_room.new.self)) (sym c.pick_at.ensures.picked ∙ c.if-pick_at.false) in
    let kept = none-picked c.args.handler (center_of c.make_room.new.self) (center_of c.pick_at.new.self) none c.pick_at.ensures.center in
    turn-none c.args.handler _ _ (none ∙ ap (pick_for c.args.handler) room)
    (world-is _ _ _ _ _ (ap most_handlers (c.pick_at.ensures.version ∙ c.in_ok-make_room.ensures.version)) (kept ∙ room))

pub returns-else-pick_at-clause-turned : goal.returns-else-pick_at-clause-turned
returns-else-pick_at-clause-turned c =
    nothing-by _ (none-job (pick_for c.args.handler (center_of c.make_room.new.self)) (sym c.pick_at.ensures.picked ∙ c.if-pick_at.false) ∙ ap (pick_for c.args.handler) c.in_ok-make_room.ensures.center)

pub invariant_of-self : goal.invariant_of-self
invariant_of-self c = record {
  places = c.args.self.now.places;
  few = c.args.self.now.few;
  unused = unused_still c.args.self.now.used _ _ _ c.make_room.ensures.center c.args.self.now.unused;
  linked = linked_still _ _ _ c.make_room.ensures.center c.args.self.now.linked;
}

pub invariant_of-self-else-pick_at-clause-linked : goal.invariant_of-self-else-pick_at-clause-linked
invariant_of-self-else-pick_at-clause-linked c =
    let none = none-job (pick_for c.args.handler (center_of c.make_room.new.self)) (sym c.pick_at.ensures.picked ∙ c.if-pick_at.false) in
    let kept = none-picked c.args.handler (center_of c.make_room.new.self) (center_of c.pick_at.new.self) none c.pick_at.ensures.center in
    linked_still _ _ _ (kept ∙ c.in_ok-make_room.ensures.center) c.args.self.now.linked

pub invariant_of-self-then-pick_at-clause-linked : goal.invariant_of-self-then-pick_at-clause-linked
invariant_of-self-then-pick_at-clause-linked c =
    let h = c.args.handler in
    let room = c.in_ok-make_room.ensures.center in
    let found = some-of (pick_for c.args.handler (center_of c.make_room.new.self)) (sym c.pick_at.ensures.picked ∙ c.if-pick_at.true) in
    let j = found.0 in
    let job = sym found.1 in
    let out = some-picked h j (center_of c.make_room.new.self) (center_of c.pick_at.new.self) job c.pick_at.ensures.center ∙ ap (picked h j) room in
    let is_out = picked-out c.args.handler j (center_of c.make_room.new.self) (center_of c.pick_at.new.self)
    (some-picked c.args.handler j (center_of c.make_room.new.self) (center_of c.pick_at.new.self) job c.pick_at.ensures.center) in
    let count : 512 ≡ length c.args.self.now.regions.items = omega (arith, c.args.self.now.places, c.args.self.now.regions.ok.0) in
    let stands = slice_get_read c.args.self.now.regions.items 512 h c.index_mut-region.result.now count (c.pick_at.ensures.below c.if-pick_at.true) c.index_mut-region.ensures.value in
    played_linked 1 h j _ (center_of c.args.self.now.core) _ _ c.args.self.now.regions.items _ _ c.play.result c.args.self.now.linked
    (sym (job ∙ ap (pick_for h) room)) stands out
    (ok-at c.play.result ((center_of c.pick_at.new.self).out h) _ j is_out c.play.ensures.ok)
    (err-at c.play.result ((center_of c.pick_at.new.self).out h) _ j is_out c.play.ensures.err)

pub invariant_of-self-else-pick_at-clause-unused : goal.invariant_of-self-else-pick_at-clause-unused
invariant_of-self-else-pick_at-clause-unused c =
    let none = none-job (pick_for c.args.handler (center_of c.make_room.new.self)) (sym c.pick_at.ensures.picked ∙ c.if-pick_at.false) in
    let kept = none-picked c.args.handler (center_of c.make_room.new.self) (center_of c.pick_at.new.self) none c.pick_at.ensures.center in
    unused_still c.args.self.now.used _ _ _ (kept ∙ c.in_ok-make_room.ensures.center) c.args.self.now.unused

pub invariant_of-self-then-pick_at-clause-unused : goal.invariant_of-self-then-pick_at-clause-unused
invariant_of-self-then-pick_at-clause-unused c =
    let h = c.args.handler in
    let room = c.in_ok-make_room.ensures.center in
    let found = some-of (pick_for h (center_of c.make_room.new.self)) (sym c.pick_at.ensures.picked ∙ c.if-pick_at.true) in
    let j = found.0 in
    let picks = some-picked h j (center_of c.make_room.new.self) (center_of c.pick_at.new.self) (sym found.1) c.pick_at.ensures.center in
    let is_out = picked-out h j (center_of c.make_room.new.self) (center_of c.pick_at.new.self) picks in
    let more : c.args.self.now.used ≤ c.max-self.result = omega (arith, c.max-self.ensures) in
    let reached : c.strangers_from.result ≤ c.max-self.result = omega (arith, c.max-self.ensures) in
    unused_settled h j c.args.self.now.used c.max-self.result (center_of c.args.self.now.core) (center_of c.pick_at.new.self) (center_of c.play.new.core)
    c.args.self.now.regions.items c.play.new.region (c.pick_at.ensures.below c.if-pick_at.true) more c.args.self.now.unused (picks ∙ ap (picked h j) room)
    (λ k far below. c.strangers_from.ensures.strangers k (omega (arith, far, reached)) below) _ _ c.play.new.asked c.used_after-self.result
    c.used_after-self.ensures.not_below (c.in_ok-play.ensures.asked j is_out) c.used_after-self.ensures.spared

pub invariant_of-self-in-Break-branch-2 : goal.invariant_of-self-in-Break-branch-2
invariant_of-self-in-Break-branch-2 c =
    let h = c.args.handler in
    let room = c.in_ok-make_room.ensures.center in
    let found = some-of (pick_for h (center_of c.make_room.new.self)) (sym c.pick_at.ensures.picked ∙ c.if-pick_at.true) in
    let j = found.0 in
    let job = sym found.1 in
    let picks = some-picked h j (center_of c.make_room.new.self) (center_of c.pick_at.new.self) job c.pick_at.ensures.center in
    let is_out = picked-out h j (center_of c.make_room.new.self) (center_of c.pick_at.new.self) picks in
    let out = picks ∙ ap (picked h j) room in
    let below = c.pick_at.ensures.below c.if-pick_at.true in
    let count : 512 ≡ length c.args.self.now.regions.items = omega (arith, c.args.self.now.places, c.args.self.now.regions.ok.0) in
    let stands = slice_get_read c.args.self.now.regions.items 512 h c.index_mut-region.result.now count below c.index_mut-region.ensures.value in
    let more : c.args.self.now.used ≤ c.max-self.result = omega (arith, c.max-self.ensures) in
    let reached : c.strangers_from.result ≤ c.max-self.result = omega (arith, c.max-self.ensures) in
    record {
      places = c.args.self.now.places;
      few = omega (arith, c.max-self.ensures, c.args.self.now.few, c.strangers_from.ensures.few);
      unused = unused_back h j c.args.self.now.used c.max-self.result (center_of c.args.self.now.core) (center_of c.pick_at.new.self) (center_of c.play.new.core)
          c.args.self.now.regions.items c.play.new.region below more c.args.self.now.unused out
          (λ k far under. c.strangers_from.ensures.strangers k (omega (arith, far, reached)) under) (c.in_err-play.ensures.err j is_out).center;
      linked = played_linked 1 h j _ (center_of c.args.self.now.core) _ _ c.args.self.now.regions.items _ _ c.play.result c.args.self.now.linked
          (sym (job ∙ ap (pick_for h) room)) stands out (ok-at c.play.result ((center_of c.pick_at.new.self).out h) _ j is_out c.play.ensures.ok)
          (err-at c.play.result ((center_of c.pick_at.new.self).out h) _ j is_out c.play.ensures.err);
    }
