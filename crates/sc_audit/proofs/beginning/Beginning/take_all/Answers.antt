use Rattle.std.proofs.Common.{arith}
use Rattle.sc_audit.proofs.StepLemmas.{misfit-in, takes-err}
use Rattle.sc_audit.proofs.beginning.Beginning.take_all.Goals as goal

pub returns-in_err-take : goal.returns-in_err-take
returns-in_err-take c =
    takes-err c.args.self.now c.take.new.self c.args.bytes.now c.from_residual.result c.in_err-take.field-0.0 c.from_residual.ensures.1
    (misfit-in c.args.self.now c.loop-byte.self c.args.bytes.now c.loop-byte.byte-index c.in_err-take.field-0.0 c.loop-byte.invariant.kept
    c.loop-byte.invariant.text (omega arith) c.in_err-take.ensures)
