use Rattle.std.proofs.Common.{◌≡◌, drop, map}
use Rattle.sc_tree.specs.View.{feature_of}
use Rattle.sc_class.specs.Internal.Places.{union}
use Rattle.sc_class.specs.Internal.ScopeSearch.{kinds_clash}
use Rattle.sc_class.proofs.faults.class_clashes.in_features.Given as goal

abbrev pub invariant-loop-feature : goal.invariant-loop-feature
invariant-loop-feature l =
    union l.fn.found (kinds_clash l.features (map feature_of l.declared)) ≡ union l.found (kinds_clash l.features (map feature_of (drop l.feature-index l.declared)))
