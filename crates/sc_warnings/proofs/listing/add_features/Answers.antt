use Rattle.std.proofs.Common.{map}
use Rattle.std.specs.List.{flat_map}
use Rattle.std.proofs.lemmas.List.Folds.{flat_map-map}
use Rattle.sc_tree.specs.declared.system.Feature.{Feature}
use Rattle.sc_tree.specs.View.{feature_of}
use Rattle.sc_warnings.specs.Warnings.{warnings_of_feature}
use Rattle.sc_warnings.specs.Views.{site_of}
use Rattle.sc_warnings.proofs.Added.{all_given, next_given}
use Rattle.sc_warnings.proofs.listing.add_features.Goals as goal

pub loop-feature-preserved : goal.loop-feature-preserved
loop-feature-preserved c =
    next_given (λ (x : Feature). warnings_of_feature (map site_of c.args.calls.now) (feature_of x)) c.args.features.now c.loop-feature.feature-index c.feature-item.result
    c.args.warnings.now.items c.loop-feature.warnings.items c.add_feature.new.warnings.items
    c.loop-feature-test.true c.feature-item.is c.loop-feature.invariant c.in_ok-add_feature.ensures

pub returns : goal.returns
returns c =
    let f = warnings_of_feature (map site_of c.args.calls.now) in
    all_given (λ (x : Feature). f (feature_of x)) c.args.features.now c.loop-feature.feature-index c.args.warnings.now.items
    c.loop-feature.warnings.items (flat_map f (map feature_of c.args.features.now)) c.loop-feature-test.false (flat_map-map f feature_of c.args.features.now)
    c.loop-feature.invariant
