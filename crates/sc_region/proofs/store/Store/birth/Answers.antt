use Rattle.sc_region.specs.Stores.{born}
use Rattle.sc_region.specs.States.{state_of}
use Rattle.sc_region.proofs.SettledObjects.{either_keeps, born_keeps}
use Rattle.sc_region.proofs.store.Store.birth.Goals as goal

pub invariant_of-self : goal.invariant_of-self
invariant_of-self c =
    let before = state_of c.self.inside.state in
    either_keeps c.bear.result (state_of c.bear.new.state) (born c.args.class before) before c.bear.ensures.ok c.bear.ensures.err
    (born_keeps c.args.class before c.self.invariant) c.self.invariant
