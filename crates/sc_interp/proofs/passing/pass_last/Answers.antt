use Rattle.std.proofs.Common.{ap}
use Rattle.sc_code.specs.Machine.{goes_on}
use Rattle.sc_region.specs.OperandList.{OperandList}
use Rattle.sc_region.specs.Frames.{activation_of}
use Rattle.sc_interp.specs.Standing.{stepped}
use Rattle.sc_interp.proofs.Operands.{dropped_first}
use Rattle.sc_interp.proofs.passing.pass_last.Goals as goal

pub returns-clause-passes : goal.returns-clause-passes
returns-clause-passes c =
    let a = activation_of c.args.activation.now in
    dropped_first c.args.count 1 goes_on (stepped c.skip.result) a _ (activation_of c.skip.new.activation)
    (ap (λ (o : OperandList). record a { operands = o }) c.drop_last.ensures) c.skip.ensures.passes
