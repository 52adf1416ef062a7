use Rattle.std.proofs.Common.{◌≡◌, ◌++◌, map, take}
use Rattle.std.specs.List.{flat_map}
use Rattle.sc_tree.specs.View.{feature_of}
use Rattle.sc_warnings.specs.Warnings.{warnings_of_feature}
use Rattle.sc_warnings.specs.Views.{site_of}
use Rattle.sc_warnings.proofs.listing.add_features.Given as goal

abbrev pub invariant-loop-feature : goal.invariant-loop-feature
invariant-loop-feature l =
    l.warnings.items ≡ l.initial.warnings.items ++ flat_map (λ x. warnings_of_feature (map site_of l.calls) (feature_of x)) (take l.feature-index l.features)
