use Rattle.std.proofs.Common.{refl, arith}
use Rattle.sc_region.specs.Frames.{activation_of}
use Rattle.sc_interp.specs.Standing.{stepped}
use Rattle.sc_interp.proofs.GoingOn.{stored}
use Rattle.sc_interp.proofs.passing.store.Goals as goal

pub returns-clause-passes : goal.returns-clause-passes
returns-clause-passes c =
    let a = activation_of c.args.activation.now in
    stored c.args.count c.args.slot c.args.value (stepped c.skip.result) a _ (activation_of c.skip.new.activation) refl
    (omega (arith, c.if-slot-len.false, c.len.ensures)) c.skip.ensures.passes
