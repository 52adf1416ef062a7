use Rattle.std.proofs.Common.{◌≡◌, drop, map}
use Rattle.sc_tree.specs.View.{head_of}
use Rattle.sc_class.specs.Internal.Places.{union}
use Rattle.sc_class.specs.Internal.ScopeSearch.{values_clash}
use Rattle.sc_class.proofs.faults.scopes.expressions.in_values.Given as goal

abbrev pub invariant-loop-head : goal.invariant-loop-head
invariant-loop-head l =
    union l.fn.found (values_clash l.features l.known (map head_of l.heads)) ≡ union l.found (values_clash l.features l.known (map head_of (drop l.head-index l.heads)))
