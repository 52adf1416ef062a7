use Rattle.std.proofs.Common.{rules, ◌≡◌, ◌∙◌, true, false, sym, arith}
use Rattle.std.proofs.lemmas.Grind.{common_steps}
use Rattle.std.specs.Prelude.{IsTrue}
use Rattle.sc_world.specs.Views.{world_of}
use Rattle.sc_recording.specs.Same.{world_in}
use Rattle.sc_recording.proofs.SameHandlers.{same-more}
use Rattle.sc_recording.proofs.same.first_that_differs.Goals as goal

pub loop-handler-preserved : goal.loop-handler-preserved
loop-handler-preserved c =
    let yes : IsTrue c.is_same_at.result = first_of (search rules, grind (arith, common_steps)) in
    λ most. same-more c.loop-handler.handler (world_of c.args.world.now) (world_in most c.args.core.now c.args.regions.now)
    (c.loop-handler.invariant most) ((c.is_same_at.ensures most).0 yes)

pub returns-then-not-is_same_at-clause-some : goal.returns-then-not-is_same_at-clause-some
returns-then-not-is_same_at-clause-some c =
    λ most. record {
      there = omega (arith, c.loop-handler-test.true);
      differs = λ same. let no : true ≡ false = sym ((c.is_same_at.ensures most).1 same) ∙ c.if-not-is_same_at.true in cc;
      same_below = c.loop-handler.invariant most;
    }
