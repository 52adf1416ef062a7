use Rattle.std.proofs.Common.{length, refl, arith}
use Rattle.std.proofs.lemmas.Option.{slice_get_read}
use Rattle.sc_handler.specs.Handlers.{Handler}
use Rattle.sc_handler.specs.Changes.{placed}
use Rattle.sc_handler.specs.InMemory.{posting_of, sent}
use Rattle.sc_request.proofs.ChangedTables.{changed, outs_kept}
use Rattle.sc_request.proofs.state.State.place_at.Goals as goal

pub returns-clause-plain : goal.returns-clause-plain
returns-clause-plain c =
    let s = c.args.self.now in
    let xs = s.handlers.items in
    let h = c.args.handler in
    let x = c.index_mut.result.now in
    let below = c.requires.there in
    let own = s.handlers.ok.0 in
    let all = s.places in
    let e = slice_get_read xs (length xs) h x refl (omega (arith, below, own, all)) c.index_mut.ensures.value in
    changed s.count xs s.sessions.items s.rights h x c.place.new.self (λ (z : Handler). placed c.args.is_callback (posting_of (sent c.args.request.now c.args.is_waited c.args.passed.now)) z) e (c.place.ensures.handler)

pub returns-clause-outs : goal.returns-clause-outs
returns-clause-outs c =
    let s = c.args.self.now in
    let xs = s.handlers.items in
    let h = c.args.handler in
    let x = c.index_mut.result.now in
    let below = c.requires.there in
    let own = s.handlers.ok.0 in
    let all = s.places in
    let e = slice_get_read xs (length xs) h x refl (omega (arith, below, own, all)) c.index_mut.ensures.value in
    outs_kept xs h x c.place.new.self e c.place.ensures.out
