use Rattle.std.proofs.Common.{length, refl, arith, []}
use Rattle.std.proofs.lemmas.Option.{slice_get_read}
use Rattle.sc_handler.specs.Handlers.{Handler, Reserves}
use Rattle.sc_handler.specs.declared.handler.HandlerStage.TheVariants as stage
use Rattle.sc_request.proofs.ChangedTables.{changed, outs_kept, reserves_next}
use Rattle.sc_request.proofs.state.State.reserve_next.Goals as goal

pub returns-clause-plain : goal.returns-clause-plain
returns-clause-plain c =
    let s = c.args.self.now in
    let xs = s.handlers.items in
    let h = c.args.handler in
    let x = c.index_mut-place.result.now in
    let below = c.requires in
    let own = s.handlers.ok.0 in
    let all = s.places in
    let e = slice_get_read xs (length xs) h x refl (omega (arith, below, own, all)) c.index_mut-place.ensures.value in
    changed s.count xs s.sessions.items s.rights h x (record x { stage = stage.Reserves; entry = c.copy_handlers-place.result; mark = c.new-place.result }) (λ (z : Handler). record z { stage = Reserves c.args.entry.now.items []; entry = c.args.entry.now.items }) e (reserves_next x _ _ _ c.copy_handlers-place.ensures c.new-place.ensures)

pub returns-clause-outs : goal.returns-clause-outs
returns-clause-outs c =
    let s = c.args.self.now in
    let xs = s.handlers.items in
    let h = c.args.handler in
    let x = c.index_mut-place.result.now in
    let below = c.requires in
    let own = s.handlers.ok.0 in
    let all = s.places in
    let e = slice_get_read xs (length xs) h x refl (omega (arith, below, own, all)) c.index_mut-place.ensures.value in
    outs_kept xs h x (record x { stage = stage.Reserves; entry = c.copy_handlers-place.result; mark = c.new-place.result }) e refl
