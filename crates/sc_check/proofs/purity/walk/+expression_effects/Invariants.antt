use Rattle.std.proofs.Common.{◌≡◌, ◌++◌, drop, map}
use Rattle.sc_tree.specs.View.{exprs_of}
use Rattle.sc_rules.specs.Judging.{judged_actuals}
use Rattle.sc_rules.specs.JudgingPurity as judging
use Rattle.sc_typing.specs.Views.{routine_in, entity_of, actual_in}
use Rattle.sc_check.specs.purity.Internal.Effects.{effect_of}
use Rattle.sc_check.proofs.purity.walk.+expression_effects.Given as goal

-- what is done and found so far, and of the actuals that are left, is that of all
abbrev pub invariant-add_actuals-loop-actual : goal.invariant-add_actuals-loop-actual
invariant-add_actuals-loop-actual l = record {
  effects : map effect_of l.effects.items ++ judging.effects_of_actuals (routine_in l.fn.routine) l.fn.context (map entity_of l.fn.names) (exprs_of (drop l.actual-index l.fn.actuals))
      ≡ map effect_of l.initial.effects.items ++ judging.effects_of_actuals (routine_in l.fn.routine) l.fn.context (map entity_of l.fn.names) (exprs_of l.fn.actuals);
  judged_actuals : map actual_in l.found.items ++ judged_actuals (routine_in l.fn.routine) l.fn.context (map entity_of l.fn.names) (exprs_of (drop l.actual-index l.fn.actuals))
      ≡ judged_actuals (routine_in l.fn.routine) l.fn.context (map entity_of l.fn.names) (exprs_of l.fn.actuals);
}
