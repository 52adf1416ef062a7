use Rattle.std.proofs.Common.{sym, subst}
use Rattle.sc_region.specs.Stores.{SettledObjectsMeet}
use Rattle.sc_region.specs.States.{state_of}
use Rattle.sc_region.proofs.SettledObjects.{left_keeps}
use Rattle.sc_region.proofs.store.Store.pop.Goals as goal

pub invariant_of-self : goal.invariant_of-self
invariant_of-self c = subst SettledObjectsMeet (sym c.leave.ensures) (left_keeps (state_of c.self.inside.state) c.self.invariant)
