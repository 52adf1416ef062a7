use Rattle.std.proofs.Common.{map}
use Rattle.std.specs.List.{flat_map}
use Rattle.std.proofs.lemmas.List.Folds.{flat_map-map}
use Rattle.sc_tree.specs.declared.system.Feature.{Feature}
use Rattle.sc_tree.specs.View.{feature_of}
use Rattle.sc_class.specs.SystemIn.{system_in}
use Rattle.sc_symbols.specs.Internal.{judged}
use Rattle.sc_symbols.specs.Mentions.{mentions_in_feature}
use Rattle.sc_symbols.proofs.Added.{all_given, next_given}
use Rattle.sc_symbols.proofs.classes.add_features.Goals as goal

pub loop-feature-preserved : goal.loop-feature-preserved
loop-feature-preserved c =
    next_given (λ (x : Feature). mentions_in_feature judged (system_in c.args.tables.now) c.args.class (feature_of x)) c.args.features.now c.loop-feature.feature-index c.feature-item.result
    c.args.mentions.now.items c.loop-feature.mentions.items c.add_feature.new.mentions.items
    c.loop-feature-test.true c.feature-item.is c.loop-feature.invariant c.in_ok-add_feature.ensures

pub returns : goal.returns
returns c =
    let f = mentions_in_feature judged (system_in c.args.tables.now) c.args.class in
    all_given (λ (x : Feature). f (feature_of x)) c.args.features.now c.loop-feature.feature-index c.args.mentions.now.items
    c.loop-feature.mentions.items (flat_map f (map feature_of c.args.features.now)) c.loop-feature-test.false (flat_map-map f feature_of c.args.features.now)
    c.loop-feature.invariant
