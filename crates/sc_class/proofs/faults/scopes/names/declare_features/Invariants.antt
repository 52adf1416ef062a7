use Rattle.std.proofs.Common.{◌≡◌, drop, map}
use Rattle.sc_tree.specs.View.{feature_of}
use Rattle.sc_class.specs.Internal.Places.{union}
use Rattle.sc_class.specs.Internal.ScopeSearch.{names_clash}
use Rattle.sc_class.proofs.faults.scopes.names.declare_features.Given as goal

abbrev pub invariant-loop-feature : goal.invariant-loop-feature
invariant-loop-feature l =
    union l.fn.found (names_clash l.features l.fn.known (map (λ f. f.name) (map feature_of l.declared))) ≡ union l.found (names_clash l.features l.known (map (λ f. f.name) (map feature_of (drop l.feature-index l.declared))))
