use Rattle.std.proofs.Common.{ap, refl, sym, subst, ◌∙◌, ◌≡◌, ◌+◌, ◌++◌, map, drop}
use Rattle.sc_tree.specs.View.{feature_of}
use Rattle.sc_class.specs.Tables.Features.{declared_in, not_redefined}
use Rattle.sc_class.specs.View.{entry_of}
use Rattle.sc_class.proofs.FeatureLemmas.{declared_added, redefined_passed}
use Rattle.sc_class.proofs.class_tables.outline.Outline.add_declared.Goals as goal
use Rattle.sc_class.proofs.class_tables.outline.Outline.add_declared.Goals.{then-not-contains+in_ok-push, else-not-contains}

pub loop-feature-preserved : goal.loop-feature-preserved
loop-feature-preserved c =
    let total = map entry_of c.args.features.now.items ++ not_redefined c.args.redefined.now (map (declared_in c.args.class) (map feature_of c.deref-feature-items.result.now)) in
    elim c.if-not-contains.branch [
      | then-not-contains+in_ok-push w ↦
          declared_added c.args.redefined.now c.args.class c.deref-feature-items.result.now c.loop-feature.feature-index c.feature-item.result c.loop-feature-test.true c.feature-item.is total c.as_str.result.now c.as_str.ensures.value c.contains.result c.contains.ensures
          c.loop-feature.features.items c.if-not-contains.features.items _ w.if-not-contains.true (ap (λ v. v.items) w.features-is ∙ w.in_ok-push.ensures.items) refl c.loop-feature.invariant
      | else-not-contains w ↦
          subst (λ v. map entry_of v.items ++ not_redefined c.args.redefined.now (map (declared_in c.args.class) (map feature_of (drop (c.loop-feature.feature-index + 1) c.deref-feature-items.result.now))) ≡ total) (sym w.features-is)
          (redefined_passed c.args.redefined.now c.args.class c.deref-feature-items.result.now c.loop-feature.feature-index c.feature-item.result c.loop-feature-test.true c.feature-item.is total c.as_str.result.now c.as_str.ensures.value c.contains.result c.contains.ensures
          c.loop-feature.features.items w.if-not-contains.false c.loop-feature.invariant)
    ]
