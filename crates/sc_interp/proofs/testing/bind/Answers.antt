use Rattle.std.proofs.Common.{ap, true}
use Rattle.sc_code.specs.Machine.{stores}
use Rattle.sc_region.specs.OperandList.{OperandList}
use Rattle.sc_region.specs.Frames.{activation_of}
use Rattle.sc_region.specs.declared.value.Value.TheVariants.{Boolean}
use Rattle.sc_interp.specs.Values.{value_of}
use Rattle.sc_interp.proofs.SilentSteps.{done_stepped, passes_stepped}
use Rattle.sc_interp.proofs.Tests.{put_first}
use Rattle.sc_interp.proofs.testing.bind.Goals as goal

pub returns-clause-passes : goal.returns-clause-passes
returns-clause-passes c =
    let a = activation_of c.args.activation.now in
    let pushed = record a { operands = c.push.new.self } in
    let b = activation_of c.store.new.activation in
    put_first c.args.count (Boolean true) (λ k f. stores k c.args.slot (value_of c.args.value) f) c.stepped.result a pushed b
    (ap (λ (o : OperandList). record a { operands = o }) c.push.ensures)
    (passes_stepped c.args.count (λ k f. stores k c.args.slot (value_of c.args.value) f) c.store.result c.stepped.result pushed b c.stepped.ensures c.store.ensures.passes)

pub returns-clause-done : goal.returns-clause-done
returns-clause-done c = done_stepped c.store.result c.stepped.result c.stepped.ensures
