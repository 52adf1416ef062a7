use Rattle.std.proofs.Common.{arith}
use Rattle.sc_lockpass.proofs.Members.{is_member-with_bit}
use Rattle.sc_request.proofs.handler_set.HandlerSet.insert.Goals as goal

pub returns : goal.returns
returns c = λ k. is_member-with_bit c.args.self.now.words c.args.handler k (omega arith)
