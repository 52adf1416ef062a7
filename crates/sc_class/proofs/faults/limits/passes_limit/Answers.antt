use Rattle.std.proofs.Common.{◌≤◌, arith, length}
use Rattle.sc_tree.specs.View.{system_of}
use Rattle.sc_class.proofs.SizeLemmas.{size_answered, classes_counted}
use Rattle.sc_class.proofs.faults.limits.passes_limit.Goals as goal

pub returns : goal.returns
returns c =
    let s = system_of c.args.outline.now.hierarchy.system.now in
    let few : length c.classes-classes.result.now ≤ 256 = omega arith in
    size_answered s (length c.classes-classes.result.now) (classes_counted s c.classes-classes.result.now c.classes-classes.ensures) few c.has_large_routine.result c.has_large_routine.ensures c.if-has_large_routine.false c.has_large_class.result c.has_large_class.ensures
