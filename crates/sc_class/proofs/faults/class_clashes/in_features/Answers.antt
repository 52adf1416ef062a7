use Rattle.std.proofs.Common.{List, map, refl}
use Rattle.sc_tree.specs.declared.system.Feature.{Feature}
use Rattle.sc_tree.specs.View.{feature_of, kind_of}
use Rattle.sc_class.specs.Internal.Places.{union}
use Rattle.sc_class.specs.Internal.ScopeSearch.{kind_clash, kinds_clash}
use Rattle.sc_class.proofs.ScopeSteps.{search_more, search_end}
use Rattle.sc_class.proofs.faults.class_clashes.in_features.Goals as goal

pub loop-feature-preserved : goal.loop-feature-preserved
unfolding feature_of kinds_clash
loop-feature-preserved c =
    search_more (λ (fs : List Feature). kinds_clash c.args.features.now (map feature_of fs)) (λ (f : Feature). kind_clash c.args.features.now (kind_of f.kind)) c.args.declared.now (λ f fs. refl)
    (union c.args.found.now (kinds_clash c.args.features.now (map feature_of c.args.declared.now))) c.loop-feature.found c.in_feature.new.found c.loop-feature.feature-index c.feature-item.result c.loop-feature.invariant c.loop-feature-test.true c.feature-item.is c.in_ok-in_feature.ensures

pub returns : goal.returns
unfolding feature_of kinds_clash
returns c =
    search_end (λ (fs : List Feature). kinds_clash c.args.features.now (map feature_of fs)) (λ (f : Feature). kind_clash c.args.features.now (kind_of f.kind)) c.args.declared.now refl
    (union c.args.found.now (kinds_clash c.args.features.now (map feature_of c.args.declared.now))) c.loop-feature.found c.loop-feature.feature-index c.loop-feature.invariant c.loop-feature-test.false
