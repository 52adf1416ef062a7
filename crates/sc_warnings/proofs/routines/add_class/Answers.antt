use Rattle.std.proofs.Common.{map}
use Rattle.std.proofs.lemmas.List.Folds.{flat_map-map}
use Rattle.sc_tree.specs.declared.system.Feature.{Feature}
use Rattle.sc_tree.specs.View.{class_of, feature_of, kind_of}
use Rattle.sc_warnings.specs.Warnings.{sites_of_class, sites_of_kind}
use Rattle.sc_warnings.specs.Views.{site_of}
use Rattle.sc_warnings.proofs.Added.{all_given, next_borrowed}
use Rattle.sc_tree.specs.Plain as plain
use Rattle.sc_warnings.proofs.routines.add_class.Goals as goal

pub loop-feature-preserved : goal.loop-feature-preserved
loop-feature-preserved c =
    next_borrowed (λ (x : Feature). sites_of_kind (kind_of x.kind)) c.args.class.now.features.items c.deref-feature-items.result.now c.loop-feature.feature-index c.feature-item.result
    (map site_of c.args.sites.now.items) (map site_of c.loop-feature.sites.items) (map site_of c.add_kind.new.sites.items)
    c.deref-feature-items.ensures.value c.loop-feature-test.true c.feature-item.is c.loop-feature.invariant c.in_ok-add_kind.ensures

pub returns : goal.returns
unfolding class_of feature_of
returns c =
    all_given (λ (x : Feature). sites_of_kind (kind_of x.kind)) c.args.class.now.features.items c.loop-feature.feature-index (map site_of c.args.sites.now.items)
    (map site_of c.loop-feature.sites.items) (sites_of_class (class_of c.args.class.now)) (rw c.deref-feature-items.ensures.value at c.loop-feature-test.false)
    (flat_map-map (λ (f : plain.Feature). sites_of_kind f.kind) feature_of c.args.class.now.features.items) c.loop-feature.invariant
