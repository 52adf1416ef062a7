use Rattle.std.proofs.Common.{ℕ, refl, ap, arith}
use Rattle.sc_handler.specs.Handlers.{Handler}
use Rattle.sc_request.proofs.KeptCores.{differs, read_everywhere}
use Rattle.sc_request.proofs.kept_core.are_read_alike.Goals as goal

pub returns-then-not-are_read_alike_at : goal.returns-then-not-are_read_alike_at
returns-then-not-are_read_alike_at c =
    differs c.are_read_alike_at.result c.if-not-are_read_alike_at.true c.are_read_alike_at.ensures (λ e. ap (λ (f : ℕ → Handler). f c.loop-place.place) e)

pub returns : goal.returns
returns c = (
  λ yes. read_everywhere c.args.handlers.now c.args.others.now c.args.sessions.now c.args.their_sessions.now c.max-most.result (omega arith) (omega arith)
      (λ k below. c.loop-place.invariant k (omega (arith, below, c.loop-place-test.false))),
  λ same. refl,
)
