use Rattle.std.proofs.Common.{◌≡◌, true}
use Rattle.sc_request.specs.Cores.{center_of}
use Rattle.sc_test_cases.specs.Passing.{are_done}
use Rattle.sc_test_cases.proofs.passing.passes.Given as goal

-- the handlers before are done
abbrev pub invariant-loop-handler : goal.invariant-loop-handler
invariant-loop-handler l = are_done l.handler (center_of l.core) ≡ true
