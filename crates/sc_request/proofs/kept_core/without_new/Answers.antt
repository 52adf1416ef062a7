use Rattle.std.proofs.Common.{◌∙◌}
use Rattle.sc_request.proofs.KeptCores.{same_without_new}
use Rattle.sc_request.proofs.kept_core.without_new.Goals as goal

pub returns : goal.returns
returns c =
    same_without_new c.args.handlers.items c.deref.result.now c.args.sessions.items c.deref-2.result.now c.used-count.result
    c.shrink_to_fit.new.self.items c.shrink_to_fit-2.new.self.items c.deref.ensures.value c.deref-2.ensures.value
    (c.shrink_to_fit.ensures.items ∙ c.truncate.ensures.items) (c.shrink_to_fit-2.ensures.items ∙ c.truncate-2.ensures.items) c.used-count.ensures
