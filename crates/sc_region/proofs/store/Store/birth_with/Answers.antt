use Rattle.sc_region.specs.Stores.{born_for}
use Rattle.sc_region.specs.States.{state_of}
use Rattle.sc_region.specs.declared.frame.Origin.TheVariants as origin
use Rattle.sc_region.proofs.SettledObjects.{either_keeps, born_for_keeps}
use Rattle.sc_region.proofs.store.Store.birth_with.Goals as goal

pub invariant_of-self : goal.invariant_of-self
invariant_of-self c =
    let before = state_of c.self.inside.state in
    either_keeps c.bear_for.result (state_of c.bear_for.new.state) (born_for c.args.target c.args.routine origin.RequestedCreation c.args.actuals.now before) before c.bear_for.ensures.ok c.bear_for.ensures.err
    (born_for_keeps c.args.target c.args.routine origin.RequestedCreation c.args.actuals.now before c.self.invariant) c.self.invariant
