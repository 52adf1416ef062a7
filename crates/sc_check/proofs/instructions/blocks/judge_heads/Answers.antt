use Rattle.std.proofs.Common.{ap, sym, ◌∙◌, ◌+◌, ◌∷◌, [], drop, take, map, arith}
use Rattle.std.proofs.lemmas.List.{map-append}
use Rattle.std.proofs.lemmas.Grind.{common_steps}
use Rattle.sc_tree.specs.View.{head_of}
use Rattle.sc_rules.specs.Names.{blocks}
use Rattle.sc_rules.specs.JudgingText.{judge_heads}
use Rattle.sc_typing.specs.Views.{routine_in, entity_of}
use Rattle.sc_check.proofs.BlockSteps.{head_known}
use Rattle.sc_check.proofs.instructions.blocks.judge_heads.Goals as goal

-- The scope of the head's value is the first `known` entities, which `kept` says are those that the block stands in.
pub loop-head-preserved : goal.loop-head-preserved
loop-head-preserved c = record {
  behind = grind (arith, common_steps, c.in_ok-push.ensures.items, c.loop-head.invariant.behind);
  kept = grind (arith, common_steps, c.in_ok-push.ensures.items, c.loop-head.invariant.kept, c.loop-head.invariant.behind);
  judged =
      head_known (routine_in c.args.routine.now) (map entity_of c.args.names.now.items) (map entity_of c.loop-head.names.items) c.args.heads.now
      c.loop-head.head-index c.head-item.result _ c.loop-head-test.true c.head-item.is c.loop-head.invariant.judged c.blocks-in-loop-head.result
      (c.blocks-in-loop-head.ensures ∙ ap (λ ns. blocks (map entity_of ns)) c.deref-in-loop-head.ensures.value) _ (entity_of c.in_ok-entity.entity)
      (ap (map entity_of) (ap (take c.len-known.result) c.deref.ensures.value ∙ c.loop-head.invariant.kept)) c.in_ok-entity.ensures
      ∙ ap (λ m. judge_heads (routine_in c.args.routine.now) (map entity_of c.args.names.now.items) m (map head_of (drop (c.loop-head.head-index + 1) c.args.heads.now)))
      (sym (ap (map entity_of) c.in_ok-push.ensures.items ∙ map-append entity_of c.loop-head.names.items (c.in_ok-entity.entity ∷ [])));
}
