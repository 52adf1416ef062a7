use Rattle.std.proofs.Common.{true, false}
use Rattle.sc_code.specs.Machine.{binds_if}
use Rattle.sc_region.specs.Frames.{activation_of}
use Rattle.sc_interp.specs.Values.{value_of}
use Rattle.sc_interp.proofs.SilentSteps.{done_stepped, passes_stepped}
use Rattle.sc_interp.proofs.Tests.{bind_by}
use Rattle.sc_interp.proofs.testing.bind_if.Goals as goal

pub returns-then-is_tested-clause-passes : goal.returns-then-is_tested-clause-passes
returns-then-is_tested-clause-passes c =
    bind_by c.args.count c.args.slot c.args.value c.args.is_tested true c.bind.result (activation_of c.args.activation.now) (activation_of c.bind.new.activation)
    c.if-is_tested.true c.bind.ensures.passes

pub returns-else-is_tested-clause-passes : goal.returns-else-is_tested-clause-passes
returns-else-is_tested-clause-passes c =
    let a = activation_of c.args.activation.now in
    let b = activation_of c.put_past.new.activation in
    bind_by c.args.count c.args.slot c.args.value c.args.is_tested false c.stepped.result a b c.if-is_tested.false
    (passes_stepped c.args.count (λ k f. binds_if false k c.args.slot (value_of c.args.value) f) c.put_past.result c.stepped.result a b c.stepped.ensures c.put_past.ensures.passes)

pub returns-else-is_tested-clause-done : goal.returns-else-is_tested-clause-done
returns-else-is_tested-clause-done c = done_stepped c.put_past.result c.stepped.result c.stepped.ensures
