use Rattle.std.proofs.Common.{ap, ◌∙◌}
use Rattle.sc_code.specs.declared.program.ConstantPool.{ConstantPool}
use Rattle.sc_acts.proofs.Slices.{copied_at}
use Rattle.sc_interp.proofs.testing.test_at.Goals as goal

pub returns : goal.returns
returns c =
    copied_at c.deref.result.now c.args.program.now.image.pool.tests.items c.args.number c.get.result c.copied.result c.get.ensures.lookup
    (c.deref.ensures.value ∙ ap (λ (q : ConstantPool). q.tests.items) c.pool.ensures) c.copied.ensures
