use Rattle.std.proofs.Common.{◌≡◌, ◌++◌, drop, map}
use Rattle.sc_tree.specs.View.{head_of}
use Rattle.sc_rules.specs.JudgingPurity as judging
use Rattle.sc_typing.specs.Views.{routine_in, entity_of}
use Rattle.sc_check.specs.purity.Internal.Effects.{effect_of}
use Rattle.sc_check.proofs.purity.body.add_heads.Given as goal

-- what is done so far and in the heads that are left is done in all; the names so far, with the heads that are left, give what all heads give
abbrev pub invariant-loop-head : goal.invariant-loop-head
invariant-loop-head l = record {
  effects : map effect_of l.effects.items ++ judging.effects_of_heads (routine_in l.routine) (map entity_of l.names) (map head_of (drop l.head-index l.heads))
      ≡ map effect_of l.initial.effects.items ++ judging.effects_of_heads (routine_in l.routine) (map entity_of l.names) (map head_of l.heads);
  reserved : judging.reserved_anyway (routine_in l.routine) (map entity_of l.names) (map entity_of l.known.items) (map head_of (drop l.head-index l.heads))
      ≡ judging.reserved_anyway (routine_in l.routine) (map entity_of l.names) (map entity_of l.initial.known.items) (map head_of l.heads);
}
