use Rattle.std.proofs.Common.{sym, subst}
use Rattle.sc_region.specs.Stores.{SettledObjectsMeet}
use Rattle.sc_region.specs.States.{state_of}
use Rattle.sc_region.proofs.SettledObjects.{written_keeps}
use Rattle.sc_region.proofs.store.Store.write_current.Goals as goal

pub invariant_of-self : goal.invariant_of-self
invariant_of-self c =
    subst SettledObjectsMeet (sym c.write_current.ensures) (written_keeps c.args.slot c.args.value (state_of c.self.inside.state) c.self.invariant)
