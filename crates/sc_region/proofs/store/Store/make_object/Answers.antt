use Rattle.sc_region.specs.Stores.{made}
use Rattle.sc_region.specs.States.{state_of}
use Rattle.sc_region.proofs.SettledObjects.{either_keeps, made_keeps}
use Rattle.sc_region.proofs.store.Store.make_object.Goals as goal

pub invariant_of-self : goal.invariant_of-self
invariant_of-self c =
    let before = state_of c.self.inside.state in
    either_keeps c.make.result (state_of c.make.new.state) (made c.args.class before) before c.make.ensures.ok c.make.ensures.err
    (made_keeps c.args.class before c.self.invariant) c.self.invariant
