use Rattle.std.proofs.Common.{ℕ, refl, ap, arith}
use Rattle.sc_play.specs.Contents.{Contents}
use Rattle.sc_world.proofs.KeptWorlds.{differs, same_everywhere}
use Rattle.sc_world.proofs.kept_world.same_regions.Goals as goal

pub returns-then-not-same_at : goal.returns-then-not-same_at
returns-then-not-same_at c = differs c.same_at.result c.if-not-same_at.true c.same_at.ensures (λ e. ap (λ (f : ℕ → Contents). f c.loop-handler.handler) e)

pub returns : goal.returns
returns c = (
  λ yes. same_everywhere c.args.regions.now c.args.others.now 512 c.requires.few c.requires.few_others
      (λ h below. c.loop-handler.invariant h (omega (arith, below, c.loop-handler-test.false))),
  λ same. refl,
)
