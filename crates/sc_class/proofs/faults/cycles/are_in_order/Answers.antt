use Rattle.std.proofs.Common.{ℕ, List, ◌≡◌, Some, map, subst}
use Rattle.std.specs.Prelude.{slice_get}
use Rattle.sc_tree.specs.Plain.{Class}
use Rattle.sc_tree.specs.View.{class_of, parent_of, system_of}
use Rattle.sc_class.specs.Internal.Search.{IsBelowNone}
use Rattle.sc_class.proofs.Items.{items_more, items_all}
use Rattle.sc_class.proofs.faults.cycles.are_in_order.Goals as goal

pub loop-number-preserved : goal.loop-number-preserved
unfolding class_of
loop-number-preserved c =
    items_more class_of c.classes-classes.result.now (λ k (cl : Class). IsBelowNone (system_of c.args.hierarchy.now.system.now) c.args.ranks.now k cl.parents) c.loop-number.number c.index-classes-number.result c.loop-number-test.true
    c.index-classes-number.is c.loop-number.invariant
    (subst (λ (ps : List _). IsBelowNone (system_of c.args.hierarchy.now.system.now) c.args.ranks.now c.loop-number.number (map parent_of ps)) c.deref.ensures.value c.if-not-is_below_none.ensures)

pub returns : goal.returns
returns c =
    subst (λ (cs : List Class). (k : ℕ) (cl : Class) → slice_get cs k ≡ Some cl → IsBelowNone (system_of c.args.hierarchy.now.system.now) c.args.ranks.now k cl.parents) c.classes-classes.ensures
    (items_all class_of c.classes-classes.result.now (λ k (cl : Class). IsBelowNone (system_of c.args.hierarchy.now.system.now) c.args.ranks.now k cl.parents) c.loop-number.number c.loop-number-test.false c.loop-number.invariant)
