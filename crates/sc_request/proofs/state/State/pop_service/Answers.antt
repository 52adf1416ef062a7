use Rattle.std.proofs.Common.{List, Option, length, refl, arith, ◌∙◌, ap, subst, sym}
use Rattle.std.proofs.lemmas.Option.{slice_get_read}
use Rattle.std.specs.Prelude.{map}
use Rattle.sc_handler.specs.declared.handler.Handler as coded
use Rattle.sc_handler.specs.declared.handler.Posting.{Posting}
use Rattle.sc_handler.specs.Handlers.{Handler}
use Rattle.sc_handler.specs.Changes.{first_of, without_first}
use Rattle.sc_handler.specs.InMemory.{service_of}
use Rattle.sc_request.specs.Tables.{handler_in}
use Rattle.sc_request.specs.Sound.{AreServed}
use Rattle.sc_request.proofs.Ended.{first_taken, stands_over}
use Rattle.sc_request.proofs.ChangedTables.{changed, outs_kept}
use Rattle.sc_request.proofs.state.State.pop_service.Goals as goal

pub pop_service-requires-clause-over : goal.pop_service-requires-clause-over
pop_service-requires-clause-over c =
    let s = c.args.self.now in
    let xs = s.handlers.items in
    let h = c.args.handler in
    let x = c.index_mut.result.now in
    let below = c.requires.there in
    let own = s.handlers.ok.0 in
    let all = s.places in
    let e = slice_get_read xs (length xs) h x refl (omega (arith, below, own, all)) c.index_mut.ensures.value in
    stands_over x.services (subst (λ (o : Option coded.Handler). AreServed (handler_in o).services) e (c.requires.sound.handlers h).services)

pub returns-clause-service : goal.returns-clause-service
returns-clause-service c =
    let s = c.args.self.now in
    let xs = s.handlers.items in
    let h = c.args.handler in
    let x = c.index_mut.result.now in
    let below = c.requires.there in
    let own = s.handlers.ok.0 in
    let all = s.places in
    let e = slice_get_read xs (length xs) h x refl (omega (arith, below, own, all)) c.index_mut.ensures.value in
    ap (λ (ps : List Posting). first_of (map service_of ps)) c.pop_service.ensures.service
    ∙ first_taken x.services
    ∙ ap (λ (o : Option coded.Handler). first_of (handler_in o).services) (sym e)

pub returns-clause-plain : goal.returns-clause-plain
returns-clause-plain c =
    let s = c.args.self.now in
    let xs = s.handlers.items in
    let h = c.args.handler in
    let x = c.index_mut.result.now in
    let below = c.requires.there in
    let own = s.handlers.ok.0 in
    let all = s.places in
    let e = slice_get_read xs (length xs) h x refl (omega (arith, below, own, all)) c.index_mut.ensures.value in
    changed s.count xs s.sessions.items s.rights h x c.pop_service.new.self (λ (z : Handler). without_first c.args.refused z.services z) e c.pop_service.ensures.handler

pub returns-clause-outs : goal.returns-clause-outs
returns-clause-outs c =
    let s = c.args.self.now in
    let xs = s.handlers.items in
    let h = c.args.handler in
    let x = c.index_mut.result.now in
    let below = c.requires.there in
    let own = s.handlers.ok.0 in
    let all = s.places in
    let e = slice_get_read xs (length xs) h x refl (omega (arith, below, own, all)) c.index_mut.ensures.value in
    outs_kept xs h x c.pop_service.new.self e c.pop_service.ensures.out
