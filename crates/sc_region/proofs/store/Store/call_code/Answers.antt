use Rattle.sc_region.specs.Calls.{calls}
use Rattle.sc_region.specs.States.{state_of}
use Rattle.sc_region.proofs.SettledObjects.{either_keeps, calls_keeps}
use Rattle.sc_region.proofs.store.Store.call_code.Goals as goal

pub invariant_of-self : goal.invariant_of-self
invariant_of-self c =
    let before = state_of c.self.inside.state in
    either_keeps c.call_code.result (state_of c.call_code.new.state) (calls c.args.current c.args.routine c.args.call before) before c.call_code.ensures.ok c.call_code.ensures.err
    (calls_keeps c.args.current c.args.routine c.args.call before c.self.invariant) c.self.invariant
