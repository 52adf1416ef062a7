use Rattle.std.proofs.Common.{arith}
use Rattle.sc_request.proofs.Bits.{is_member-without_bit}
use Rattle.sc_request.proofs.handler_set.HandlerSet.remove.Goals as goal

pub returns : goal.returns
returns c = λ k. is_member-without_bit c.args.self.now.words c.args.handler k (omega arith)
