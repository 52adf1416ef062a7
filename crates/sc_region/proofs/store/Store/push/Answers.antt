use Rattle.sc_region.specs.Stores.{entered}
use Rattle.sc_region.specs.States.{state_of}
use Rattle.sc_region.proofs.SettledObjects.{either_keeps, entered_keeps}
use Rattle.sc_region.proofs.store.Store.push.Goals as goal

pub invariant_of-self : goal.invariant_of-self
invariant_of-self c =
    let before = state_of c.self.inside.state in
    either_keeps c.enter.result (state_of c.enter.new.state) (entered c.args.current c.args.routine c.args.origin c.args.actuals.now before) before c.enter.ensures.ok c.enter.ensures.err
    (entered_keeps c.args.current c.args.routine c.args.origin c.args.actuals.now before c.self.invariant) c.self.invariant
