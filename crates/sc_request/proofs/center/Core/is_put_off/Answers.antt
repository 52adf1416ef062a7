use Rattle.std.proofs.Common.{ℕ, ap, sym, ◌∙◌}
use Rattle.sc_request.specs.Cores.{state_of}
use Rattle.sc_request.specs.Waiting.{is_put_off}
use Rattle.sc_request.proofs.Lookups.{none_put_off, stage_found}
use Rattle.sc_request.proofs.center.Core.is_put_off.Goals as goal

pub returns-in_default : goal.returns-in_default
returns-in_default c =
    let f = λ (k : ℕ). ((state_of c.args.self.now).handlers k).sessions in
    let x = c.in-Some.place.now in
    sym (ap (is_put_off f) (stage_found c.deref.result.now c.args.self.now.state.handlers.items c.args.handler x c.deref.ensures.value c.in-Some.ensures.lookup.0 c.in-Some.ensures.lookup.1)
    ∙ none_put_off x.entry.items x.mark f x.stage c.in_default.not-Reserves)
