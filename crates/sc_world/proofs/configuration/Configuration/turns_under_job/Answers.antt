use Rattle.std.proofs.Common.{◌≡◌, inl, Option, length, refl, ap, sym, ◌∙◌, arith}
use Rattle.std.proofs.lemmas.Option.{slice_get_read}
use Rattle.std.specs.Prelude.{is_some}
use Rattle.sc_region.specs.declared.job.Job.{Job}
use Rattle.sc_lockpass.specs.Versions.{most_handlers}
use Rattle.sc_request.specs.Cores.{center_of}
use Rattle.sc_request.specs.Logs.{pick_for, picked}
use Rattle.sc_world.proofs.AtOnce.{all_told, none_told, refused_told, some_told}
use Rattle.sc_world.proofs.FreeHandlers.{linked_still, played_linked}
use Rattle.sc_world.proofs.Outs.{err-at, held-up, none-job, none-picked, ok-at, on-err, picked-out, refused-some, some-of, some-picked, world-is}
use Rattle.sc_world.proofs.UnderJob.{makes-all, makes-some}
use Rattle.sc_world.proofs.UnusedHandlers.{unused_all, unused_still}
use Rattle.sc_world.proofs.configuration.Configuration.turns_under_job.Goals as goal

pub play-requires-clause-out : goal.play-requires-clause-out
play-requires-clause-out c =
    let found = some-of (pick_for c.args.handler (center_of c.make_room.new.self)) (sym c.pick_at.ensures.picked ∙ c.if-pick_at.true) in
    let j = found.0 in
    let job = sym found.1 in
    ap (λ (o : Option Job). is_some o) (picked-out c.args.handler j (center_of c.make_room.new.self) (center_of c.pick_at.new.self)
    (some-picked c.args.handler j (center_of c.make_room.new.self) (center_of c.pick_at.new.self) job c.pick_at.ensures.center))

pub play-requires-clause-room : goal.play-requires-clause-room
play-requires-clause-room c = c.pick_at.ensures.room 0 c.in_ok-make_room.ensures.room

pub returns-in_err-make_room-clause-err : goal.returns-in_err-make_room-clause-err
returns-in_err-make_room-clause-err c =
    on-err c.from_residual.result _
    (refused_told c.args.limit c.args.handler _ _ c.requires
    (inl (world-is _ _ _ _ _ (ap most_handlers c.in_err-make_room.ensures.version) c.in_err-make_room.ensures.center)))

pub returns-else-cut_short-clause-ok : goal.returns-else-cut_short-clause-ok
returns-else-cut_short-clause-ok c =
    let h = c.args.handler in
    let found = some-of (pick_for h (center_of c.make_room.new.self)) (sym c.pick_at.ensures.picked ∙ c.if-pick_at.true) in
    let j = found.0 in
    let room = c.in_ok-make_room.ensures.center in
    let job = sym found.1 in
    let out = some-picked h j (center_of c.make_room.new.self) (center_of c.pick_at.new.self) job c.pick_at.ensures.center in
    let is_out = picked-out h j (center_of c.make_room.new.self) (center_of c.pick_at.new.self) out in
    let count : 512 ≡ length c.args.self.now.regions.items = omega (arith, c.args.self.now.places, c.args.self.now.regions.ok.0) in
    let stands = slice_get_read c.args.self.now.regions.items 512 h c.index_mut-region.result.now count (c.pick_at.ensures.below c.if-pick_at.true) c.index_mut-region.ensures.value in
    let version = c.pick_at.ensures.version ∙ c.in_ok-make_room.ensures.version in
    let turns = c.in_ok-turns.turns in
    all_told c.args.limit h j turns _ _ (job ∙ ap (pick_for h) room)
    (makes-all c.args.limit _ h j turns _ _ _ _ _ _ _ _ _ c.in_ok-turns.cut_short refl stands (ap most_handlers version)
    (ap most_handlers (c.in_ok-turns.ensures.version ∙ version)) (out ∙ ap (picked h j) room) (c.in_ok-turns.ensures.ok j is_out) c.if-cut_short.false)

pub returns-then-cut_short-clause-err : goal.returns-then-cut_short-clause-err
returns-then-cut_short-clause-err c =
    let h = c.args.handler in
    let found = some-of (pick_for h (center_of c.make_room.new.self)) (sym c.pick_at.ensures.picked ∙ c.if-pick_at.true) in
    let j = found.0 in
    let room = c.in_ok-make_room.ensures.center in
    let job = sym found.1 in
    let out = some-picked h j (center_of c.make_room.new.self) (center_of c.pick_at.new.self) job c.pick_at.ensures.center in
    let is_out = picked-out h j (center_of c.make_room.new.self) (center_of c.pick_at.new.self) out in
    let count : 512 ≡ length c.args.self.now.regions.items = omega (arith, c.args.self.now.places, c.args.self.now.regions.ok.0) in
    let stands = slice_get_read c.args.self.now.regions.items 512 h c.index_mut-region.result.now count (c.pick_at.ensures.below c.if-pick_at.true) c.index_mut-region.ensures.value in
    let version = c.pick_at.ensures.version ∙ c.in_ok-make_room.ensures.version in
    let turns = c.in_ok-turns.turns in
    some_told c.args.limit h j turns _ _ (job ∙ ap (pick_for h) room)
    (makes-some c.args.limit _ h j turns _ _ _ _ _ _ _ _ _ c.in_ok-turns.cut_short refl stands (ap most_handlers version)
    (ap most_handlers (c.in_ok-turns.ensures.version ∙ version)) (out ∙ ap (picked h j) room) (c.in_ok-turns.ensures.ok j is_out) c.if-cut_short.true)

pub returns-in_err-turns-clause-err : goal.returns-in_err-turns-clause-err
returns-in_err-turns-clause-err c =
    let h = c.args.handler in
    let found = some-of (pick_for h (center_of c.make_room.new.self)) (sym c.pick_at.ensures.picked ∙ c.if-pick_at.true) in
    let j = found.0 in
    let room = c.in_ok-make_room.ensures.center in
    let job = sym found.1 in
    let out = some-picked h j (center_of c.make_room.new.self) (center_of c.pick_at.new.self) job c.pick_at.ensures.center in
    let is_out = picked-out h j (center_of c.make_room.new.self) (center_of c.pick_at.new.self) out in
    let count : 512 ≡ length c.args.self.now.regions.items = omega (arith, c.args.self.now.places, c.args.self.now.regions.ok.0) in
    let stands = slice_get_read c.args.self.now.regions.items 512 h c.index_mut-region.result.now count (c.pick_at.ensures.below c.if-pick_at.true) c.index_mut-region.ensures.value in
    let version = c.pick_at.ensures.version ∙ c.in_ok-make_room.ensures.version in
    on-err c.from_residual-in_err-turns.result _
    (refused_told c.args.limit h _ _ c.requires
    (refused-some h j _ _ (job ∙ ap (pick_for h) room)
    (held-up h j _ _ _ _ _ _ _ _ stands (ap most_handlers (c.in_err-turns.ensures.version ∙ version)) (out ∙ ap (picked h j) room) (c.in_err-turns.ensures.err j is_out))))

pub returns-else-pick_at-clause-ok : goal.returns-else-pick_at-clause-ok
returns-else-pick_at-clause-ok c =
    let room = c.in_ok-make_room.ensures.center in
    let none = none-job (pick_for c.args.handler (center_of c.make_room.new.self)) (sym c.pick_at.ensures.picked ∙ c.if-pick_at.false) in
    let kept = none-picked c.args.handler (center_of c.make_room.new.self) (center_of c.pick_at.new.self) none c.pick_at.ensures.center in
    none_told c.args.limit c.args.handler _ _ (none ∙ ap (pick_for c.args.handler) room)
    (world-is _ _ _ _ _ (ap most_handlers (c.pick_at.ensures.version ∙ c.in_ok-make_room.ensures.version)) (kept ∙ room))

pub invariant_of-self : goal.invariant_of-self
invariant_of-self c = record {
  places = c.args.self.now.places;
  few = c.args.self.now.few;
  unused = unused_still c.args.self.now.used _ _ _ c.make_room.ensures.center c.args.self.now.unused;
  linked = linked_still _ _ _ c.make_room.ensures.center c.args.self.now.linked;
}

pub invariant_of-self-else-pick_at-clause-linked : goal.invariant_of-self-else-pick_at-clause-linked
invariant_of-self-else-pick_at-clause-linked c =
    let none = none-job (pick_for c.args.handler (center_of c.make_room.new.self)) (sym c.pick_at.ensures.picked ∙ c.if-pick_at.false) in
    let kept = none-picked c.args.handler (center_of c.make_room.new.self) (center_of c.pick_at.new.self) none c.pick_at.ensures.center in
    linked_still _ _ _ (kept ∙ c.in_ok-make_room.ensures.center) c.args.self.now.linked

pub invariant_of-self-then-pick_at-clause-linked : goal.invariant_of-self-then-pick_at-clause-linked
invariant_of-self-then-pick_at-clause-linked c =
    let h = c.args.handler in
    let room = c.in_ok-make_room.ensures.center in
    let found = some-of (pick_for c.args.handler (center_of c.make_room.new.self)) (sym c.pick_at.ensures.picked ∙ c.if-pick_at.true) in
    let j = found.0 in
    let job = sym found.1 in
    let out = some-picked h j (center_of c.make_room.new.self) (center_of c.pick_at.new.self) job c.pick_at.ensures.center in
    let is_out = picked-out h j (center_of c.make_room.new.self) (center_of c.pick_at.new.self) out in
    let count : 512 ≡ length c.args.self.now.regions.items = omega (arith, c.args.self.now.places, c.args.self.now.regions.ok.0) in
    let stands = slice_get_read c.args.self.now.regions.items 512 h c.index_mut-region.result.now count (c.pick_at.ensures.below c.if-pick_at.true) c.index_mut-region.ensures.value in
    played_linked c.args.limit h j _ (center_of c.args.self.now.core) _ _ c.args.self.now.regions.items _ _ c.play.result c.args.self.now.linked
    (sym (job ∙ ap (pick_for h) room)) stands (out ∙ ap (picked h j) room)
    (ok-at c.play.result ((center_of c.pick_at.new.self).out h) _ j is_out c.play.ensures.ok)
    (err-at c.play.result ((center_of c.pick_at.new.self).out h) _ j is_out c.play.ensures.err)

pub invariant_of-self-else-pick_at-clause-unused : goal.invariant_of-self-else-pick_at-clause-unused
invariant_of-self-else-pick_at-clause-unused c =
    let none = none-job (pick_for c.args.handler (center_of c.make_room.new.self)) (sym c.pick_at.ensures.picked ∙ c.if-pick_at.false) in
    let kept = none-picked c.args.handler (center_of c.make_room.new.self) (center_of c.pick_at.new.self) none c.pick_at.ensures.center in
    unused_still c.args.self.now.used _ _ _ (kept ∙ c.in_ok-make_room.ensures.center) c.args.self.now.unused

pub invariant_of-self-then-pick_at-clause-unused : goal.invariant_of-self-then-pick_at-clause-unused
invariant_of-self-then-pick_at-clause-unused c = unused_all _ _
