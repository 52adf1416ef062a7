use Rattle.std.proofs.Common.{ap, sym, arith}
use Rattle.std.proofs.lemmas.Result.{err_from_is_err_and}
use Rattle.sc_rules.specs.JudgingSystem.{judge_classes}
use Rattle.sc_class.specs.SystemIn.{system_in}
use Rattle.sc_typing.specs.Marks.{is_marked}
use Rattle.sc_check.proofs.ClassSteps.{class_fails, class_passes, classes_pass}
use Rattle.sc_check.proofs.checked.checking.judge_classes.Goals as goal

-- the classes of the tables are those of the system
pub loop-class-init : goal.loop-class-init
loop-class-init c =
    sym (ap (judge_classes (system_in c.args.tables.now) (is_marked c.args.purity.now) 0) c.classes-classes.ensures)

pub returns-in_err-judge_class : goal.returns-in_err-judge_class
returns-in_err-judge_class c =
    let q = err_from_is_err_and c.from_residual.result c.from_residual.ensures.1 in
    rw (q.1, q.2) (class_fails (system_in c.args.tables.now) (is_marked c.args.purity.now) c.classes-classes.result.now c.loop-class.class c.index-classes-class.result _
    c.loop-class-test.true c.index-classes-class.is c.loop-class.invariant _ c.in_err-judge_class.ensures)

pub loop-class-preserved : goal.loop-class-preserved
loop-class-preserved c =
    class_passes (system_in c.args.tables.now) (is_marked c.args.purity.now) c.classes-classes.result.now c.loop-class.class c.index-classes-class.result _
    c.loop-class-test.true c.index-classes-class.is c.loop-class.invariant c.in_ok-judge_class.ensures

pub returns : goal.returns
returns c =
    classes_pass (system_in c.args.tables.now) (is_marked c.args.purity.now) c.classes-classes.result.now c.loop-class.class _ c.loop-class.invariant
    (omega (arith, c.loop-class-test.false))
