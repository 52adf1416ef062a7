use Rattle.std.proofs.Common.{◌≡◌, ◌++◌, drop, map}
use Rattle.sc_tree.specs.View.{branches_of, instrs_of}
use Rattle.sc_rules.specs.JudgingPurity as judging
use Rattle.sc_typing.specs.Views.{routine_in, entity_of}
use Rattle.sc_check.specs.purity.Internal.Effects.{effect_of}
use Rattle.sc_check.proofs.purity.body.+instruction_effects.Given as goal

abbrev pub invariant-add_instructions-loop-instruction : goal.invariant-add_instructions-loop-instruction
invariant-add_instructions-loop-instruction l =
    map effect_of l.effects.items ++ judging.effects_of_instrs (routine_in l.fn.routine) (map entity_of l.fn.names) (instrs_of (drop l.instruction-index l.fn.instructions))
    ≡ map effect_of l.initial.effects.items ++ judging.effects_of_instrs (routine_in l.fn.routine) (map entity_of l.fn.names) (instrs_of l.fn.instructions)

abbrev pub invariant-add_branches-loop-branch : goal.invariant-add_branches-loop-branch
invariant-add_branches-loop-branch l =
    map effect_of l.effects.items ++ judging.effects_of_branches (routine_in l.fn.routine) (map entity_of l.fn.names) (branches_of (drop l.branch-index l.fn.branches))
    ≡ map effect_of l.initial.effects.items ++ judging.effects_of_branches (routine_in l.fn.routine) (map entity_of l.fn.names) (branches_of l.fn.branches)
