use Rattle.sc_region.specs.Stores.{made_for}
use Rattle.sc_region.specs.States.{state_of}
use Rattle.sc_region.proofs.SettledObjects.{either_keeps, made_for_keeps}
use Rattle.sc_region.proofs.store.Store.make_object_with.Goals as goal

pub invariant_of-self : goal.invariant_of-self
invariant_of-self c =
    let before = state_of c.self.inside.state in
    either_keeps c.make_for.result (state_of c.make_for.new.state) (made_for c.args.handler c.args.class c.args.routine c.args.actuals.now before) before c.make_for.ensures.ok c.make_for.ensures.err
    (made_for_keeps c.args.handler c.args.class c.args.routine c.args.actuals.now before c.self.invariant) c.self.invariant
