use Rattle.std.proofs.Common.{◌≡◌, ◌++◌, drop, map}
use Rattle.sc_tree.specs.View.{declaration_of}
use Rattle.sc_class.specs.Faults.Scopes.{entity_names}
use Rattle.sc_class.specs.Internal.Places.{union}
use Rattle.sc_class.specs.Internal.ScopeSearch.{names_clash}
use Rattle.sc_class.proofs.faults.scopes.names.declare_entities.Given as goal

abbrev pub invariant-loop-declaration : goal.invariant-loop-declaration
invariant-loop-declaration l = record {
  known : l.fn.known ++ entity_names (map declaration_of l.declarations) ≡ l.known ++ entity_names (map declaration_of (drop l.declaration-index l.declarations));
  found : union l.fn.found (names_clash l.features l.fn.known (entity_names (map declaration_of l.declarations))) ≡ union l.found (names_clash l.features l.known (entity_names (map declaration_of (drop l.declaration-index l.declarations))));
}
