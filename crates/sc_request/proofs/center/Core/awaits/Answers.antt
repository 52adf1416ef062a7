use Rattle.std.proofs.Common.{ap, sym, ◌∙◌}
use Rattle.sc_request.specs.Places.{awaited}
use Rattle.sc_request.proofs.Lookups.{none_awaited, stage_found}
use Rattle.sc_request.proofs.center.Core.awaits.Goals as goal

pub returns-in_default : goal.returns-in_default
returns-in_default c =
    let x = c.in_ok-supplier.field-0.now in
    sym (ap awaited (stage_found c.deref.result.now c.args.self.now.state.handlers.items c.args.handler x c.deref.ensures.value c.in_ok-supplier.ensures.lookup.0 c.in_ok-supplier.ensures.lookup.1)
    ∙ none_awaited x.entry.items x.mark x.stage c.in_default.not-Awaits)
