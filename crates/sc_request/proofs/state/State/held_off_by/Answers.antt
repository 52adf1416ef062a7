use Rattle.std.proofs.Common.{◌∙◌, sym}
use Rattle.std.proofs.lemmas.Option.{slice_get-get_or}
use Rattle.sc_request.specs.Places.{plain}
use Rattle.sc_request.proofs.Waiters.{held_off}
use Rattle.sc_request.proofs.state.State.held_off_by.Goals as goal

pub returns-then-not-held : goal.returns-then-not-held
returns-then-not-held c =
    let ks = c.reserved_by-reserved.result.now in
    let i = c.loop-at.at in
    held_off (plain c.args.self.now).handlers ks c.args.handler i _ c.reserved_by-reserved.ensures (sym c.is_any_failed.ensures ∙ c.if-is_any_failed.false)
    (slice_get-get_or ks i 0 c.loop-at-test.true)
