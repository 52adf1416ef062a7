use Rattle.std.proofs.Common.{ap, sym, ◌++◌, arith}
use Rattle.sc_class.specs.SystemIn.{system_in}
use Rattle.sc_typing.specs.Marks.{is_marked}
use Rattle.sc_faults.specs.Internal.Listing.{faults_of_classes, faults_of_system}
use Rattle.sc_faults.proofs.Steps.{classes_next, classes_end}
use Rattle.sc_faults.proofs.classes.add_classes.Goals as goal

-- the classes of the tables are those of the system
pub loop-class-init : goal.loop-class-init
loop-class-init c =
    sym (ap (λ cs. c.args.faults.now.items ++ faults_of_classes (system_in c.args.tables.now)
    (is_marked c.args.purity.now) 0 cs) c.classes-classes.ensures)

pub loop-class-preserved : goal.loop-class-preserved
loop-class-preserved c =
    let s = system_in c.args.tables.now in
    let pure = is_marked c.args.purity.now in
    classes_next s pure c.classes-classes.result.now c.loop-class.class c.index-classes-class.result
    (c.args.faults.now.items ++ faults_of_system s pure) c.loop-class.faults.items c.add_class.new.faults.items
    c.loop-class-test.true c.index-classes-class.is c.loop-class.invariant c.in_ok-add_class.ensures

pub returns : goal.returns
returns c =
    let s = system_in c.args.tables.now in
    let pure = is_marked c.args.purity.now in
    classes_end s pure c.classes-classes.result.now c.loop-class.class (c.args.faults.now.items ++ faults_of_system s pure) c.loop-class.faults.items
    (omega (arith, c.loop-class-test.false)) c.loop-class.invariant
