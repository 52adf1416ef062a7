use Rattle.std.proofs.Common.{arith}
use Rattle.sc_request.proofs.Sames.{nothing_kept}
use Rattle.sc_request.proofs.kept_core.used.Goals as goal

pub loop-count-init : goal.loop-count-init
loop-count-init c = λ k past. nothing_kept c.args.handlers.now c.args.sessions.now k (omega (arith, past, c.max-count.ensures)) (omega (arith, past, c.max-count.ensures))
