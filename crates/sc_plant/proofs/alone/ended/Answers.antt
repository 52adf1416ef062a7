use Rattle.std.proofs.Common.{◌∙◌}
use Rattle.sc_plant.proofs.alone.ended.Goals as goal

pub returns-clause-count : goal.returns-clause-count
returns-clause-count c = c.cut_short.ensures.count ∙ c.is_over.ensures.count

pub returns-clause-version : goal.returns-clause-version
returns-clause-version c = c.cut_short.ensures.version ∙ c.is_over.ensures.version

pub returns-clause-on : goal.returns-clause-on
returns-clause-on c = λ p way. c.cut_short.ensures.on p (c.is_over.ensures.on p way)

pub returns-clause-order : goal.returns-clause-order
returns-clause-order c = λ p n comes. c.cut_short.ensures.order p n (c.is_over.ensures.order p n comes)
