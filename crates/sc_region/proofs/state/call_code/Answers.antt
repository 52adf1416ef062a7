use Rattle.std.proofs.Common.{sym}
use Rattle.sc_region.specs.Calls.{called_on}
use Rattle.sc_region.specs.States.{state_of}
use Rattle.sc_region.proofs.OwnCalls.{calls_made, frames_are}
use Rattle.sc_region.proofs.state.call_code.Goals as goal

pub returns-clause-ok : goal.returns-clause-ok
returns-clause-ok c =
    let x = state_of c.args.state.now in
    frames_are c.call.result x _ c.call.new.self (called_on c.args.current c.args.routine c.args.code.now c.args.call c.args.state.now.stack) c.call.ensures.ok
    (sym (calls_made c.args.current c.args.routine c.args.call x c.args.code.now c.requires.actuals c.requires.code c.requires.formals c.requires.room))
