use Rattle.std.proofs.Common.{sym}
use Rattle.sc_request.specs.Cores.{center_of}
use Rattle.sc_test_cases.proofs.DoneHandlers.{one_undone}
use Rattle.sc_test_cases.proofs.passing.passes.Goals as goal

-- this one isn't done
pub returns-then-not-is_done : goal.returns-then-not-is_done
returns-then-not-is_done c =
    sym (one_undone (center_of c.args.core.now) c.loop-handler.handler (center_of c.args.core.now).state.count
    (rw c.handler_count-handler-end.ensures.count at c.loop-handler-test.true) (sym c.if-not-is_done.ensures))
