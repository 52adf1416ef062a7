use Rattle.std.proofs.Common.{length, refl, arith, []}
use Rattle.std.proofs.lemmas.Option.{slice_get_read}
use Rattle.sc_handler.specs.Handlers.{Handler}
use Rattle.sc_handler.specs.InMemory.{stage_of}
use Rattle.sc_request.proofs.ChangedTables.{changed, outs_kept, stands}
use Rattle.sc_request.proofs.state.State.stand.Goals as goal

pub returns-clause-plain : goal.returns-clause-plain
returns-clause-plain c =
    let s = c.args.self.now in
    let xs = s.handlers.items in
    let h = c.args.handler in
    let x = c.index_mut.result.now in
    let below = c.requires.there in
    let own = s.handlers.ok.0 in
    let all = s.places in
    let e = slice_get_read xs (length xs) h x refl (omega (arith, below, own, all)) c.index_mut.ensures.value in
    changed s.count xs s.sessions.items s.rights h x (record x { stage = c.args.stage }) (λ (z : Handler). record z { stage = stage_of [] [] c.args.stage }) e (stands c.args.stage x c.requires.kind)

pub returns-clause-outs : goal.returns-clause-outs
returns-clause-outs c =
    let s = c.args.self.now in
    let xs = s.handlers.items in
    let h = c.args.handler in
    let x = c.index_mut.result.now in
    let below = c.requires.there in
    let own = s.handlers.ok.0 in
    let all = s.places in
    let e = slice_get_read xs (length xs) h x refl (omega (arith, below, own, all)) c.index_mut.ensures.value in
    outs_kept xs h x (record x { stage = c.args.stage }) e refl
