use Rattle.std.proofs.Common.{List, subst}
use Rattle.std.specs.Prelude.{Any}
use Rattle.sc_tree.specs.Plain.{Name}
use Rattle.sc_tree.specs.View.{name_of, system_of}
use Rattle.sc_class.specs.Faults.Redefinition.{NameBadlyRedefined}
use Rattle.sc_class.specs.Internal.Places.{Gains, if_any}
use Rattle.sc_class.proofs.PlaceLists.{gains_begin, gains_more, gains_all, gains_union, only}
use Rattle.sc_class.proofs.faults.redefinition.find_bad_redefinitions.Goals as goal

pub loop-name-init : goal.loop-name-init
loop-name-init c = gains_begin (NameBadlyRedefined (system_of c.args.outline.now.hierarchy.system.now) c.args.number) name_of c.redefined_in-redefined.result.now c.args.found.now

pub loop-name-preserved : goal.loop-name-preserved
loop-name-preserved c =
    let P = NameBadlyRedefined (system_of c.args.outline.now.hierarchy.system.now) c.args.number in
    gains_more P name_of c.redefined_in-redefined.result.now c.loop-name.name-index c.name-item.result c.args.found.now c.loop-name.found c.insert_if_any.new.self c.loop-name-test.true c.name-item.is c.loop-name.invariant
    (gains_union c.loop-name.found (if_any c.badly_redefined.result) c.insert_if_any.new.self (only (P (name_of c.name-item.result)) c.badly_redefined.result c.badly_redefined.ensures) c.in_ok-insert_if_any.ensures)

pub returns : goal.returns
returns c =
    let P = NameBadlyRedefined (system_of c.args.outline.now.hierarchy.system.now) c.args.number in
    subst (λ (ns : List Name). Gains (λ p. Any (λ n. P n p) ns) c.args.found.now c.loop-name.found) c.redefined_in-redefined.ensures
    (gains_all P name_of c.redefined_in-redefined.result.now c.loop-name.name-index c.args.found.now c.loop-name.found c.loop-name-test.false c.loop-name.invariant)
