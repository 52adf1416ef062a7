use Rattle.std.proofs.Common.{List, map, subst}
use Rattle.std.specs.Prelude.{Any}
use Rattle.sc_text.specs.declared.token.Span.{Span}
use Rattle.sc_tree.specs.Plain.{Class}
use Rattle.sc_tree.specs.View.{class_of, parent_of, system_of}
use Rattle.sc_class.specs.Tables.Ancestors.{UnknownParentAt}
use Rattle.sc_class.specs.Internal.Places.{Gains}
use Rattle.sc_class.proofs.PlaceLists.{gains_begin, gains_more, gains_all}
use Rattle.sc_class.proofs.faults.parents.find_unknown.Goals as goal

pub loop-class-init : goal.loop-class-init
loop-class-init c =
    gains_begin (λ (k : Class) (p : Span). Any (λ q. UnknownParentAt (system_of c.args.hierarchy.now.system.now) q p) k.parents) class_of c.classes-classes.result.now c.args.found.now

pub loop-class-preserved : goal.loop-class-preserved
unfolding class_of
loop-class-preserved c =
    gains_more (λ (k : Class) (p : Span). Any (λ q. UnknownParentAt (system_of c.args.hierarchy.now.system.now) q p) k.parents) class_of c.classes-classes.result.now c.loop-class.class-index c.class-item.result
    c.args.found.now c.loop-class.found c.find_unknown_among.new.found c.loop-class-test.true c.class-item.is c.loop-class.invariant
    (subst (λ (ps : List _). Gains (λ p. Any (λ q. UnknownParentAt (system_of c.args.hierarchy.now.system.now) q p) (map parent_of ps)) c.loop-class.found c.find_unknown_among.new.found) c.deref.ensures.value c.in_ok-find_unknown_among.ensures)

pub returns : goal.returns
returns c =
    let P = λ (k : Class) (p : Span). Any (λ q. UnknownParentAt (system_of c.args.hierarchy.now.system.now) q p) k.parents in
    subst (λ (cs : List Class). Gains (λ p. Any (λ k. P k p) cs) c.args.found.now c.loop-class.found) c.classes-classes.ensures
    (gains_all P class_of c.classes-classes.result.now c.loop-class.class-index c.args.found.now c.loop-class.found c.loop-class-test.false c.loop-class.invariant)
