use Rattle.std.proofs.Common.{◌∙◌, Option, ap, sym, refl, length, arith}
use Rattle.std.proofs.lemmas.Option.{slice_get_read}
use Rattle.std.specs.Prelude.{slice_index}
use Rattle.sc_region.specs.declared.job.Job.{Job}
use Rattle.sc_handler.specs.declared.handler.Handler as coded
use Rattle.sc_handler.specs.Picking.{job_at}
use Rattle.sc_handler.specs.InMemory.{handler_with}
use Rattle.sc_request.specs.Places.{plain}
use Rattle.sc_request.proofs.Outs.{some_is, stands_out, stands_reserving, with_job}
use Rattle.sc_request.proofs.state.State.set_reserving.Goals as goal

pub returns-clause-handlers : goal.returns-clause-handlers
returns-clause-handlers c = λ x e.
    let s = c.args.self.now in
    let xs = s.handlers.items in
    let h = c.args.handler in
    let y = c.index_mut.result.now in
    let below = c.requires.there in
    let own = s.handlers.ok.0 in
    let all = s.places in
    let there = slice_get_read xs (length xs) h y refl (omega (arith, below, own, all)) c.index_mut.ensures.value in
    let read = slice_get_read xs (length xs) h c.index.result.now refl (omega (arith, below, own, all)) c.index.ensures in
    let same = some_is c.index.result.now y (sym read ∙ there) in
    stands_out xs s.sessions.items h x y (with_job c.put.new.self y) (plain s) e there
    (ap (λ (o : Option Job). with_job o y)
    (c.put.ensures
    ∙ c.job_for_entry-job.ensures
    ∙ stands_reserving xs s.sessions.items h c.index.result.now (plain s) read c.requires.reserves
    ∙ ap (λ (v : coded.Handler). job_at h (handler_with (slice_index s.sessions.items h) v).stage (handler_with (slice_index s.sessions.items h) v) (plain s)) same))
