use Rattle.std.proofs.Common.{List, subst}
use Rattle.std.specs.Prelude.{Any}
use Rattle.sc_tree.specs.Plain.{Class}
use Rattle.sc_tree.specs.View.{class_of}
use Rattle.sc_class.specs.Faults.LeftOut.{ClassLeftOut}
use Rattle.sc_class.specs.Internal.Places.{Gains}
use Rattle.sc_class.proofs.PlaceLists.{gains_begin, gains_more, gains_all}
use Rattle.sc_class.proofs.faults.left_out.find_left_out.Goals as goal

pub loop-class-init : goal.loop-class-init
loop-class-init c = gains_begin ClassLeftOut class_of c.classes-classes.result.now c.args.found.now.items

pub loop-class-preserved : goal.loop-class-preserved
loop-class-preserved c =
    gains_more ClassLeftOut class_of c.classes-classes.result.now c.loop-class.class-index c.class-item.result c.args.found.now.items c.loop-class.found.items c.find_in_class.new.found.items
    c.loop-class-test.true c.class-item.is c.loop-class.invariant c.in_ok-find_in_class.ensures

pub returns : goal.returns
returns c =
    subst (λ (cs : List Class). Gains (λ x. Any (λ k. ClassLeftOut k x) cs) c.args.found.now.items c.loop-class.found.items) c.classes-classes.ensures
    (gains_all ClassLeftOut class_of c.classes-classes.result.now c.loop-class.class-index c.args.found.now.items c.loop-class.found.items c.loop-class-test.false c.loop-class.invariant)
