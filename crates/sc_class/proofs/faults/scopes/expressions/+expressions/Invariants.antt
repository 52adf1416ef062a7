use Rattle.std.proofs.Common.{◌≡◌, drop}
use Rattle.sc_tree.specs.View.{exprs_of}
use Rattle.sc_class.specs.Internal.Places.{union}
use Rattle.sc_class.specs.Internal.ScopeSearch.{exprs_clash}
use Rattle.sc_class.proofs.faults.scopes.expressions.+expressions.Given as goal

abbrev pub invariant-in_expressions-loop-expression : goal.invariant-in_expressions-loop-expression
invariant-in_expressions-loop-expression l =
    union l.fn.found (exprs_clash l.features l.known (exprs_of l.expressions)) ≡ union l.found (exprs_clash l.features l.known (exprs_of (drop l.expression-index l.expressions)))
