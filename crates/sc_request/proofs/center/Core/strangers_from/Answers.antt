use Rattle.std.proofs.Common.{length, refl, arith}
use Rattle.std.proofs.lemmas.Option.{slice_get_read}
use Rattle.sc_request.proofs.Posters.{hears_from_none}
use Rattle.sc_request.proofs.center.Core.strangers_from.Goals as goal

pub returns-clause-strangers : goal.returns-clause-strangers
returns-clause-strangers c = λ k far below.
    let s = c.args.self.now.state in
    let xs = s.handlers.items in
    let h = c.args.handler in
    let x = c.index-place.result.now in
    let own = s.handlers.ok.0 in
    let e = slice_get_read xs (length xs) h x refl (omega (arith, c.requires, own, s.places)) c.index-place.ensures in
    let callback = c.past_poster.ensures in
    let queue = c.past_poster-from-2.ensures in
    let services = c.past_poster-from.ensures in
    let count = c.past-from.ensures in
    let past_callback = callback.not_below in
    let past_queue = queue.not_below in
    let past_services = services.not_below in
    let past_count = count.not_below in
    record {
      other = c.past.ensures.past k (omega (arith, far, past_callback, past_queue, past_services, past_count)) below;
      later = count.past k (omega (arith, far, past_callback, past_queue, past_services)) below;
      silent = hears_from_none x xs s.sessions.items h k e (callback.past k far below) (queue.past k (omega (arith, far, past_callback)) below)
          (services.past k (omega (arith, far, past_callback, past_queue)) below);
    }
