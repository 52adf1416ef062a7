use Rattle.std.proofs.Common.{◌≡◌, true, List, map, subst, sym}
use Rattle.std.specs.Prelude.{Any}
use Rattle.std.proofs.lemmas.Bool.{iff_false}
use Rattle.sc_tree.specs.declared.system.Feature as tree
use Rattle.sc_tree.specs.Plain.{Class, Feature}
use Rattle.sc_tree.specs.View.{class_of, feature_of}
use Rattle.sc_class.specs.Faults.Limits.{is_large}
use Rattle.sc_class.proofs.LimitLemmas.{any_at, none_more, none_at_all}
use Rattle.sc_class.proofs.Decisions.{holds, holds_not}
use Rattle.sc_class.proofs.faults.routine_limits.has_large_routine.Goals as goal

abbrev IsLarge : Feature → Type 0
IsLarge f = is_large f.kind ≡ true

abbrev HasLarge : Class → Type 0
HasLarge c = Any IsLarge c.features

pub returns-then-has_large_among : goal.returns-then-has_large_among
unfolding class_of
returns-then-has_large_among c =
    let large : Any IsLarge (map feature_of c.deref.result.now) = c.has_large_among.ensures.0 c.if-has_large_among.true in
    holds (subst (λ (cs : List Class). Any HasLarge cs) c.classes-classes.ensures
    (any_at HasLarge class_of c.classes-classes.result.now c.loop-class.class-index c.class-item.result c.loop-class-test.true c.class-item.is (subst (λ (fs : List tree.Feature). Any IsLarge (map feature_of fs)) c.deref.ensures.value large)))

pub loop-class-preserved : goal.loop-class-preserved
unfolding class_of
loop-class-preserved c =
    let none : Any IsLarge (map feature_of c.deref.result.now) → ⊥ = iff_false c.has_large_among.ensures c.if-has_large_among.false in
    none_more HasLarge class_of c.classes-classes.result.now c.loop-class.class-index c.class-item.result c.loop-class-test.true c.class-item.is c.loop-class.invariant (λ a. none (subst (λ (fs : List tree.Feature). Any IsLarge (map feature_of fs)) (sym c.deref.ensures.value) a))

pub returns : goal.returns
returns c =
    holds_not (subst (λ (cs : List Class). Any HasLarge cs → ⊥) c.classes-classes.ensures (none_at_all HasLarge class_of c.classes-classes.result.now c.loop-class.class-index c.loop-class-test.false c.loop-class.invariant))
