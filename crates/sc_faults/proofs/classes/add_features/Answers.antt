use Rattle.std.proofs.Common.{map, ◌++◌}
use Rattle.sc_tree.specs.View.{feature_of}
use Rattle.sc_class.specs.SystemIn.{system_in}
use Rattle.sc_typing.specs.Marks.{is_marked}
use Rattle.sc_faults.specs.Internal.Listing.{faults_of_features}
use Rattle.sc_faults.proofs.Steps.{features_next, features_end}
use Rattle.sc_faults.proofs.classes.add_features.Goals as goal

pub loop-feature-preserved : goal.loop-feature-preserved
loop-feature-preserved c =
    let s = system_in c.args.class.now.tables.now in
    let pure = is_marked c.args.class.now.purity.now in
    let k = c.args.class.now.class in
    features_next s pure k c.args.features.now c.loop-feature.feature-index c.feature-item.result
    (c.args.faults.now.items ++ faults_of_features s pure k (map feature_of c.args.features.now)) c.loop-feature.faults.items c.add_feature.new.faults.items
    c.loop-feature-test.true c.feature-item.is c.loop-feature.invariant c.in_ok-add_feature.ensures

pub returns : goal.returns
returns c =
    let s = system_in c.args.class.now.tables.now in
    let pure = is_marked c.args.class.now.purity.now in
    let k = c.args.class.now.class in
    features_end s pure k c.args.features.now c.loop-feature.feature-index
    (c.args.faults.now.items ++ faults_of_features s pure k (map feature_of c.args.features.now)) c.loop-feature.faults.items
    c.loop-feature-test.false c.loop-feature.invariant
