use Rattle.std.proofs.Common.{◌≡◌, ◌++◌, drop, map}
use Rattle.sc_tree.specs.View.{head_of}
use Rattle.sc_class.specs.Faults.Scopes.{head_names}
use Rattle.sc_class.specs.Internal.Places.{union}
use Rattle.sc_class.specs.Internal.ScopeSearch.{names_clash}
use Rattle.sc_class.proofs.faults.scopes.names.declare_heads.Given as goal

abbrev pub invariant-loop-head : goal.invariant-loop-head
invariant-loop-head l = record {
  known : l.fn.known ++ head_names (map head_of l.heads) ≡ l.known ++ head_names (map head_of (drop l.head-index l.heads));
  found : union l.fn.found (names_clash l.features l.fn.known (head_names (map head_of l.heads))) ≡ union l.found (names_clash l.features l.known (head_names (map head_of (drop l.head-index l.heads))));
}
