use Rattle.sc_tree.specs.View.{parent_of, system_of}
use Rattle.sc_class.specs.Tables.Ancestors.{UnknownParentAt}
use Rattle.sc_class.specs.Internal.Places.{if_any}
use Rattle.sc_class.proofs.PlaceLists.{gains_begin, gains_more, gains_all, gains_union, only}
use Rattle.sc_class.proofs.faults.parents.find_unknown_among.Goals as goal

pub loop-parent-init : goal.loop-parent-init
loop-parent-init c = gains_begin (UnknownParentAt (system_of c.args.hierarchy.now.system.now)) parent_of c.args.parents.now c.args.found.now

pub loop-parent-preserved : goal.loop-parent-preserved
loop-parent-preserved c =
    let P = UnknownParentAt (system_of c.args.hierarchy.now.system.now) in
    gains_more P parent_of c.args.parents.now c.loop-parent.parent-index c.parent-item.result c.args.found.now c.loop-parent.found c.insert_if_any.new.self c.loop-parent-test.true c.parent-item.is c.loop-parent.invariant
    (gains_union c.loop-parent.found (if_any c.unknown.result) c.insert_if_any.new.self (only (P (parent_of c.parent-item.result)) c.unknown.result c.unknown.ensures) c.in_ok-insert_if_any.ensures)

pub returns : goal.returns
returns c = gains_all (UnknownParentAt (system_of c.args.hierarchy.now.system.now)) parent_of c.args.parents.now c.loop-parent.parent-index c.args.found.now c.loop-parent.found c.loop-parent-test.false c.loop-parent.invariant
