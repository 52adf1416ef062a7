use Rattle.std.proofs.Common.{◌≡◌, ◌≤◌, drop, take, length, map}
use Rattle.sc_tree.specs.View.{head_of}
use Rattle.sc_rules.specs.JudgingText.{judge_heads}
use Rattle.sc_typing.specs.Views.{routine_in, entity_of}
use Rattle.sc_check.proofs.instructions.blocks.judge_heads.Given as goal

abbrev pub invariant-loop-head : goal.invariant-loop-head
invariant-loop-head l = record {
  behind : l.known ≤ length l.names.items;
  kept : take l.known l.names.items ≡ l.fn.names.items;
  judged : judge_heads (routine_in l.fn.routine) (map entity_of l.fn.names.items) (map entity_of l.fn.names.items) (map head_of l.fn.heads)
      ≡ judge_heads (routine_in l.fn.routine) (map entity_of l.fn.names.items) (map entity_of l.names.items) (map head_of (drop l.head-index l.fn.heads));
}
