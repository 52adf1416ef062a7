use Rattle.std.specs.Prelude.{List, Option, map}
use Rattle.sc_handler.specs.declared.handler.Handler as coded
use Rattle.sc_handler.specs.declared.handler.Posting.{Posting}
use Rattle.sc_handler.specs.Handlers.{Service, Handler}
use Rattle.sc_handler.specs.InMemory.{posting_of}
use Rattle.sc_handler.specs.Changes.{fallen}
use Rattle.sc_request.specs.Tables.{handler_in}
use Rattle.sc_request.proofs.Fallen.{postings_served}
use Rattle.std.proofs.Common.{length, refl, arith, ◌∙◌, ap, sym}
use Rattle.std.proofs.lemmas.Option.{slice_get_read}
use Rattle.sc_request.proofs.ChangedTables.{changed, outs_kept}
use Rattle.sc_request.proofs.state.State.fall_at.Goals as goal

pub returns-clause-plain : goal.returns-clause-plain
returns-clause-plain c =
    let s = c.args.self.now in
    let xs = s.handlers.items in
    let h = c.args.handler in
    let x = c.index_mut.result.now in
    let below = c.requires in
    let own = s.handlers.ok.0 in
    let all = s.places in
    let e = slice_get_read xs (length xs) h x refl (omega (arith, below, own, all)) c.index_mut.ensures.value in
    changed s.count xs s.sessions.items s.rights h x c.fall.new.self (λ (z : Handler). fallen c.args.why z) e (c.fall.ensures.handler)

pub returns-clause-outs : goal.returns-clause-outs
returns-clause-outs c =
    let s = c.args.self.now in
    let xs = s.handlers.items in
    let h = c.args.handler in
    let x = c.index_mut.result.now in
    let below = c.requires in
    let own = s.handlers.ok.0 in
    let all = s.places in
    let e = slice_get_read xs (length xs) h x refl (omega (arith, below, own, all)) c.index_mut.ensures.value in
    outs_kept xs h x c.fall.new.self e c.fall.ensures.out

pub returns-clause-services : goal.returns-clause-services
returns-clause-services c =
    let s = c.args.self.now in
    let xs = s.handlers.items in
    let h = c.args.handler in
    let x = c.index_mut.result.now in
    let below = c.requires in
    let own = s.handlers.ok.0 in
    let all = s.places in
    let e = slice_get_read xs (length xs) h x refl (omega (arith, below, own, all)) c.index_mut.ensures.value in
    ap (λ (ps : List Posting). map posting_of ps) c.fall.ensures.services ∙ postings_served x.services
    ∙ ap (λ (o : Option coded.Handler). map (λ (v : Service). v.posted) (handler_in o).services) (sym e)
