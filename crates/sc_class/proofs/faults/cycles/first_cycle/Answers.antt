use Rattle.std.proofs.Common.{below_more, sym, ◌∙◌}
use Rattle.sc_tree.specs.View.{system_of}
use Rattle.sc_class.specs.Tables.Ancestors.{IsCyclic}
use Rattle.sc_class.proofs.CycleLemmas.{back_at, not_back, none_cyclic}
use Rattle.sc_class.proofs.faults.cycles.first_cycle.Goals as goal

pub returns-then-is_some : goal.returns-then-is_some
returns-then-is_some c =
    back_at (system_of c.args.hierarchy.now.system.now) c.classes-classes.result.now c.classes-classes.ensures c.loop-number.number c.index-classes-number.result c.loop-number-test.true c.index-classes-number.is
    c.deref.result.now c.deref.ensures.value c.loop-number.invariant c.in_ok-way_back.way_back (sym c.is_some.ensures ∙ c.if-is_some.true) c.in_ok-way_back.ensures

pub loop-number-preserved : goal.loop-number-preserved
loop-number-preserved c =
    below_more (λ k. IsCyclic (system_of c.args.hierarchy.now.system.now) k → ⊥) c.loop-number.number c.loop-number.invariant
    (not_back (system_of c.args.hierarchy.now.system.now) c.classes-classes.result.now c.classes-classes.ensures c.loop-number.number c.index-classes-number.result c.loop-number-test.true c.index-classes-number.is
    c.deref.result.now c.deref.ensures.value c.loop-number.invariant c.in_ok-way_back.way_back (sym c.is_some.ensures ∙ c.if-is_some.false) c.in_ok-way_back.ensures)

pub returns : goal.returns
returns c = none_cyclic (system_of c.args.hierarchy.now.system.now) c.classes-classes.result.now c.classes-classes.ensures c.loop-number.number c.loop-number-test.false c.loop-number.invariant
