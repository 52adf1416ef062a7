use Rattle.std.proofs.Common.{arith}
use Rattle.sc_orders.proofs.Ways.{all_so}
use Rattle.sc_orders.proofs.length.all_go_on.Goals as goal

pub returns : goal.returns
returns c = λ is.
    all_so c.args.left.now c.args.followed.now c.args.met.now c.loop-state.state c.loop-state.some c.is_some.result c.is_some.ensures is c.loop-state.invariant.some
    (omega (arith, c.loop-state-test.false)) c.loop-state.invariant.followed_all c.loop-state.invariant.met_all
