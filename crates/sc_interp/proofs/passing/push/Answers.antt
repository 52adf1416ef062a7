use Rattle.std.proofs.Common.{ap, arith}
use Rattle.sc_region.specs.OperandList.{OperandList}
use Rattle.sc_region.specs.Frames.{activation_of}
use Rattle.sc_interp.specs.Standing.{stepped}
use Rattle.sc_interp.proofs.GoingOn.{pushed}
use Rattle.sc_interp.proofs.passing.push.Goals as goal

pub returns-clause-passes : goal.returns-clause-passes
returns-clause-passes c =
    let a = activation_of c.args.activation.now in
    pushed c.args.count c.args.value (stepped c.skip.result) a _ (activation_of c.skip.new.activation)
    (ap (λ (o : OperandList). record a { operands = o }) c.push.ensures)
    (grind (arith, c.is_full.ensures, c.if-is_full.false)) c.skip.ensures.passes
