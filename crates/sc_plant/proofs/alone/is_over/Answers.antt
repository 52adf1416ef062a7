use Rattle.std.proofs.Common.{refl, arith}
use Rattle.sc_plant.proofs.OnWay.{stays_on}
use Rattle.sc_plant.proofs.Ordered.{stays_in_order}
use Rattle.sc_plant.proofs.alone.is_over.Goals as goal

pub returns-clause-on : goal.returns-clause-on
returns-clause-on c = λ p.
    stays_on p c.args.left.now _ c.is_idle_or_full.ensures.center c.is_idle_or_full.ensures.log refl refl refl c.is_idle_or_full.ensures.version

pub returns-clause-order : goal.returns-clause-order
returns-clause-order c = λ p n.
    stays_in_order p n n c.args.left.now.core c.is_idle_or_full.new.core (omega arith) c.is_idle_or_full.ensures.center c.is_idle_or_full.ensures.log
