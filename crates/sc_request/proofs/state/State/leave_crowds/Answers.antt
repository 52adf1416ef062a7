use Rattle.sc_request.specs.Places.{plain}
use Rattle.sc_request.proofs.Waiters.{left_crowds}
use Rattle.sc_request.proofs.state.State.leave_crowds.Goals as goal

pub returns : goal.returns
returns c =
    let s = c.args.self.now in
    left_crowds c.args.crowds.now.items c.leave_each.new.crowds.items s.count (plain s).handlers c.args.handler c.reserved_by.result.now c.requires.crowds
    c.reserved_by.ensures c.leave_each.ensures
