use Rattle.std.proofs.Common.{length, refl, arith}
use Rattle.std.proofs.lemmas.Option.{slice_get_read}
use Rattle.sc_handler.specs.Handlers.{Handler}
use Rattle.sc_handler.specs.Changes.{takes_answer}
use Rattle.sc_request.proofs.ChangedTables.{changed, outs_kept}
use Rattle.sc_request.proofs.state.State.take_answer_at.Goals as goal

pub returns-clause-plain : goal.returns-clause-plain
returns-clause-plain c =
    let s = c.args.self.now in
    let xs = s.handlers.items in
    let h = c.args.handler in
    let x = c.index_mut.result.now in
    let below = c.requires in
    let own = s.handlers.ok.0 in
    let all = s.places in
    let e = slice_get_read xs (length xs) h x refl (omega (arith, below, own, all)) c.index_mut.ensures.value in
    changed s.count xs s.sessions.items s.rights h x c.take_answer.new.self (λ (z : Handler). takes_answer z) e (c.take_answer.ensures.handler)

pub returns-clause-outs : goal.returns-clause-outs
returns-clause-outs c =
    let s = c.args.self.now in
    let xs = s.handlers.items in
    let h = c.args.handler in
    let x = c.index_mut.result.now in
    let below = c.requires in
    let own = s.handlers.ok.0 in
    let all = s.places in
    let e = slice_get_read xs (length xs) h x refl (omega (arith, below, own, all)) c.index_mut.ensures.value in
    outs_kept xs h x c.take_answer.new.self e c.take_answer.ensures.out
