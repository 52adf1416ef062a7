use Rattle.std.proofs.Common.{◌≡◌, take}
use Rattle.sc_rules.specs.Typing.{known_handlers}
use Rattle.sc_typing.specs.Views.{types_in}
use Rattle.sc_faults.proofs.passing.known_handlers.Given as goal

abbrev pub invariant-loop-actual : goal.invariant-loop-actual
invariant-loop-actual l = l.known.items ≡ known_handlers (types_in (take l.actual-index l.found))
