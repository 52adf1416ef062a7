use Rattle.std.proofs.Common.{◌∙◌, arith}
use Rattle.sc_world.proofs.KeptWorlds.{new_past, same_without_new}
use Rattle.sc_world.proofs.kept_world.without_new.Goals as goal

pub used-count-requires-clause-new : goal.used-count-requires-clause-new
used-count-requires-clause-new c = λ h past. new_past c.deref.result.now h (omega (arith, past))

pub returns-clause-same : goal.returns-clause-same
returns-clause-same c =
    same_without_new c.args.regions.items c.deref.result.now c.used-count.result c.shrink_to_fit.new.self.items c.deref.ensures.value
    (c.shrink_to_fit.ensures.items ∙ c.truncate.ensures.items) c.used-count.ensures.new
