use Rattle.std.proofs.Common.{◌≡◌, ◌∙◌, ap, false, slice_index, sym}
use Rattle.sc_lockpass.specs.wait_conditions.Reservations.{mark_allows, mark_of}
use Rattle.sc_handler.specs.Canonical.{marked_in}
use Rattle.sc_handler.proofs.ReadAlike.{unmarked}
use Rattle.sc_handler.proofs.wait_mark.WaitMark.read_by.Goals as goal

pub returns : goal.returns
returns c =
    let isnt : false ≡ mark_allows (slice_index c.args.sessions.now) c.args.self.now = sym c.if-allows.false ∙ c.allows.ensures in
    let marked : c.self.inside.handlers.items ≡ marked_in c.args.self.now = let m = c.self.inside.marked in let v = c.self.view_is in cc in
    c.uncounted.ensures ∙ ap (mark_of (λ k. 0)) c.as_slice.ensures.value
    ∙ unmarked (slice_index c.args.sessions.now) c.args.self.now c.self.inside.handlers.items isnt marked
