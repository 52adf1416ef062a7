use Rattle.std.proofs.Common.{◌≡◌, true, false, sym, ◌∙◌}
use Rattle.sc_tree.specs.Plain.{Feature}
use Rattle.sc_tree.specs.View.{feature_of}
use Rattle.sc_class.specs.Faults.Limits.{is_large}
use Rattle.sc_class.proofs.LimitLemmas.{any_at, none_more, none_at_all}
use Rattle.sc_class.proofs.Decisions.{holds, holds_not}
use Rattle.sc_class.proofs.faults.routine_limits.has_large_among.Goals as goal

pub returns-then-is_large : goal.returns-then-is_large
unfolding feature_of
returns-then-is_large c =
    holds (any_at (λ (f : Feature). is_large f.kind ≡ true) feature_of c.args.features.now c.loop-feature.feature-index c.feature-item.result c.loop-feature-test.true c.feature-item.is (sym c.is_large.ensures ∙ c.if-is_large.true))

pub loop-feature-preserved : goal.loop-feature-preserved
unfolding feature_of
loop-feature-preserved c =
    none_more (λ (f : Feature). is_large f.kind ≡ true) feature_of c.args.features.now c.loop-feature.feature-index c.feature-item.result c.loop-feature-test.true c.feature-item.is c.loop-feature.invariant
    (λ e. let q : true ≡ false = sym e ∙ sym c.is_large.ensures ∙ c.if-is_large.false in cc)

pub returns : goal.returns
returns c = holds_not (none_at_all (λ (f : Feature). is_large f.kind ≡ true) feature_of c.args.features.now c.loop-feature.feature-index c.loop-feature-test.false c.loop-feature.invariant)
