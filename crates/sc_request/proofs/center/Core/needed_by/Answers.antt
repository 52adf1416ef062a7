use Rattle.std.proofs.Common.{ap, sym, ◌∙◌}
use Rattle.sc_lockpass.specs.Tables.{rights_of}
use Rattle.sc_request.specs.Waiting.{needed_at}
use Rattle.sc_request.proofs.Lookups.{none_needed, stage_found}
use Rattle.sc_request.proofs.center.Core.needed_by.Goals as goal

pub returns-in_default : goal.returns-in_default
returns-in_default c =
    let h = c.args.handler in
    let r = rights_of c.args.self.now.state.rights in
    let x = c.in-Some.place.now in
    c.new.ensures
    ∙ sym (ap (needed_at h r) (stage_found c.deref.result.now c.args.self.now.state.handlers.items h x c.deref.ensures.value c.in-Some.ensures.lookup.0 c.in-Some.ensures.lookup.1)
    ∙ none_needed x.entry.items x.mark h r x.stage c.in_default.not-Reserves)
