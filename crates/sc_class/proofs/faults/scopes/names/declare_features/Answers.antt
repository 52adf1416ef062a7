use Rattle.std.proofs.Common.{refl, List, map}
use Rattle.sc_tree.specs.declared.system.Feature.{Feature}
use Rattle.sc_tree.specs.View.{name_of, feature_of}
use Rattle.sc_class.specs.Internal.Places.{union}
use Rattle.sc_class.specs.Internal.ScopeSearch.{names_clash}
use Rattle.sc_class.proofs.ScopeSteps.{names_more, names_end}
use Rattle.sc_class.proofs.faults.scopes.names.declare_features.Goals as goal

pub loop-feature-preserved : goal.loop-feature-preserved
unfolding feature_of
loop-feature-preserved c =
    names_more (λ (xs : List Feature). map (λ f. f.name) (map feature_of xs)) (λ (x : Feature). name_of x.name) c.args.declared.now c.args.features.now (λ x xs. refl)
    (union c.args.found.now (names_clash c.args.features.now c.args.known.now (map (λ f. f.name) (map feature_of c.args.declared.now)))) c.loop-feature.found c.declare.new.found c.loop-feature.known c.declare.new.known c.loop-feature.feature-index c.feature-item.result c.loop-feature.invariant c.loop-feature-test.true c.feature-item.is
    c.in_ok-declare.ensures.found c.in_ok-declare.ensures.added

pub returns : goal.returns
unfolding feature_of
returns c =
    names_end (λ (xs : List Feature). map (λ f. f.name) (map feature_of xs)) (λ (x : Feature). name_of x.name) c.args.declared.now c.args.features.now refl
    (union c.args.found.now (names_clash c.args.features.now c.args.known.now (map (λ f. f.name) (map feature_of c.args.declared.now)))) c.loop-feature.found c.loop-feature.known c.loop-feature.feature-index c.loop-feature.invariant c.loop-feature-test.false
