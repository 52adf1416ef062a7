use Rattle.std.proofs.Common.{◌<◌, ◌-◌, ◌++◌, ◌∷◌, [], List, inl, inr, refl, sym, ap, ◌∙◌, arith}
use Rattle.std.proofs.lemmas.Option.{slice_get_read}
use Rattle.sc_audit.specs.declared.line.RecordLine.{RecordLine}
use Rattle.sc_world.proofs.Outs.{on-err}
use Rattle.sc_plant.proofs.OnWay.{advances, err_goes, goes_on, goes_stopped, if_ok_goes, ok_goes, put_back_stopped, stays_on, way_stopped}
use Rattle.sc_recording.proofs.Dues.{is_out, none_next, picked_next}
use Rattle.sc_recording.proofs.PuttingBack.{put_back_out, put_back_state}
use Rattle.sc_plant.proofs.Ordered.{goes_in_order, stays_in_order}
use Rattle.sc_plant.proofs.alone.play_next.Goals as goal

pub play_picked-requires-clause-out : goal.play_picked-requires-clause-out
play_picked-requires-clause-out g c = λ κs within.
    is_out c.in-Some.handler c.args.left.now.core c.pick_with_room.new.core
    (picked_next c.in-Some.handler c.args.left.now.core c.pick_with_room.new.core (sym c.in-Some.is ∙ c.in_ok-handler.ensures.handler)
    c.in_ok-handler.ensures.center)

pub play_picked-requires-clause-version : goal.play_picked-requires-clause-version
play_picked-requires-clause-version g c = λ κs within. c.pick_with_room.ensures.version ∙ c.requires.version

pub returns-in_err-handler-clause-err : goal.returns-in_err-handler-clause-err
returns-in_err-handler-clause-err g c =
    on-err c.from_residual.result _
    (λ p way. way_stopped p _ (stays_on p c.args.left.now _ c.in_err-handler.ensures.err c.pick_with_room.ensures.log refl
    c.pick_with_room.ensures.lines refl c.pick_with_room.ensures.version way))

pub returns-in_default-clause-on : goal.returns-in_default-clause-on
returns-in_default-clause-on g c = λ p way.
    stays_on p c.args.left.now _
    (none_next c.args.left.now.core c.pick_with_room.new.core (sym c.in_default.is ∙ c.in_ok-handler.ensures.handler)
    c.in_ok-handler.ensures.center) c.pick_with_room.ensures.log refl c.pick_with_room.ensures.lines refl c.pick_with_room.ensures.version way

pub returns-clause-on : goal.returns-clause-on
returns-clause-on g c =
    ok_goes c.play_picked.result _ _ _ c.play_picked.ensures.ok c.play_picked.ensures.whole
    (λ turns made whole p way.
    let h = c.in-Some.handler in
    let goes = picked_next h c.args.left.now.core c.pick_with_room.new.core (sym c.in-Some.is ∙ c.in_ok-handler.ensures.handler)
    c.in_ok-handler.ensures.center in
    let below : h < 512 = rw c.in-Some.is at c.in_ok-handler.ensures.below in
    let at = slice_get_read c.args.left.now.regions.items 512 h c.index_mut-region.result.now (sym c.requires.count) below c.index_mut-region.ensures.value in
    let line : RecordLine = record { handler = h; turns = turns } in
    let go = advances c.args.limit h turns c.play_picked.new.asked c.args.left.now.core c.args.left.now.core c.pick_with_room.new.core c.play_picked.new.core
    c.index_mut-region.result.now c.play_picked.new.region below refl refl goes c.pick_with_room.ensures.log made.played in
    goes_on p c.args.left.now _ h turns c.args.limit c.play_picked.new.asked c.index_mut-region.result.now c.play_picked.new.region go at refl
    (made.line ∙ ap (λ (ls : List RecordLine). ls ++ line ∷ []) c.pick_with_room.ensures.lines) refl way c.play_picked.ensures.version whole)

pub returns-clause-err : goal.returns-clause-err
returns-clause-err g c =
    err_goes c.play_picked.result _ _ c.play_picked.ensures.err
    (λ cut p way.
    let h = c.in-Some.handler in
    let goes = picked_next h c.args.left.now.core c.pick_with_room.new.core (sym c.in-Some.is ∙ c.in_ok-handler.ensures.handler)
    c.in_ok-handler.ensures.center in
    let below : h < 512 = rw c.in-Some.is at c.in_ok-handler.ensures.below in
    let at = slice_get_read c.args.left.now.regions.items 512 h c.index_mut-region.result.now (sym c.requires.count) below c.index_mut-region.ensures.value in
    elim cut [
      | inl back ↦
          put_back_stopped p c.args.left.now _ h back.0.job c.index_mut-region.result.now c.play_picked.new.region
          (record {
            state = put_back_state h c.args.left.now.core c.pick_with_room.new.core c.play_picked.new.core goes back.0.center;
            log = back.0.log ∙ c.pick_with_room.ensures.log;
          })
          (put_back_out h c.args.left.now.core c.pick_with_room.new.core c.play_picked.new.core goes back.0.center) at refl back.0.refused
          (back.1 ∙ c.pick_with_room.ensures.lines) refl way
      | inr made ↦
          let line : RecordLine = record { handler = h; turns = made.0 } in
          let go = advances c.args.limit h made.0 c.play_picked.new.asked c.args.left.now.core c.args.left.now.core c.pick_with_room.new.core c.play_picked.new.core
          c.index_mut-region.result.now c.play_picked.new.region below refl refl goes c.pick_with_room.ensures.log made.1.played in
          goes_stopped p c.args.left.now _ h made.0 c.args.limit c.play_picked.new.asked c.index_mut-region.result.now c.play_picked.new.region go at refl
          (made.1.line ∙ ap (λ (ls : List RecordLine). ls ++ line ∷ []) c.pick_with_room.ensures.lines) refl way
    ])

pub returns-in_default-clause-order : goal.returns-in_default-clause-order
returns-in_default-clause-order g c = λ p n m within most fewer.
    stays_in_order p n m c.args.left.now.core c.pick_with_room.new.core (omega (arith, fewer))
    (none_next c.args.left.now.core c.pick_with_room.new.core (sym c.in_default.is ∙ c.in_ok-handler.ensures.handler)
    c.in_ok-handler.ensures.center) c.pick_with_room.ensures.log

pub returns-clause-order : goal.returns-clause-order
returns-clause-order g c =
    if_ok_goes c.play_picked.result _ _ _ c.play_picked.ensures.ok c.play_picked.ensures.whole
    (λ turns made whole p n m within most fewer.
    goes_in_order p n m c.args.left.now.core c.pick_with_room.new.core c.play_picked.new.core c.in-Some.handler turns c.args.limit
    c.play_picked.new.asked c.index_mut-region.result.now c.play_picked.new.region c.requires.few within most fewer whole
    (sym c.in-Some.is ∙ c.in_ok-handler.ensures.handler) c.in_ok-handler.ensures.center c.pick_with_room.ensures.log made.played)
