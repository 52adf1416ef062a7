use Rattle.std.proofs.Common.{ap}
use Rattle.sc_region.specs.OperandList.{OperandList}
use Rattle.sc_region.specs.Frames.{activation_of}
use Rattle.sc_interp.specs.Standing.{stepped}
use Rattle.sc_interp.proofs.GoingOn.{put_on}
use Rattle.sc_interp.proofs.passing.put_past.Goals as goal

pub returns-clause-passes : goal.returns-clause-passes
returns-clause-passes c =
    let a = activation_of c.args.activation.now in
    put_on c.args.count c.args.passed c.args.value (stepped c.skip.result) a _ (activation_of c.skip.new.activation)
    (ap (λ (o : OperandList). record a { operands = o }) c.push.ensures) c.skip.ensures.passes
