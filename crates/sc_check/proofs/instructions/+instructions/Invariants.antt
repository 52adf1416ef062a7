use Rattle.std.proofs.Common.{◌≡◌, drop, map}
use Rattle.sc_tree.specs.View.{instrs_of, branches_of}
use Rattle.sc_rules.specs.JudgingText.{judge_instrs, judge_branches}
use Rattle.sc_typing.specs.Views.{routine_in, entity_of}
use Rattle.sc_check.proofs.instructions.+instructions.Given as goal

abbrev pub invariant-judge_instructions-loop-instruction : goal.invariant-judge_instructions-loop-instruction
invariant-judge_instructions-loop-instruction l = record {
  kept : map entity_of l.names.items ≡ map entity_of l.fn.names.items;
  judged : judge_instrs (routine_in l.fn.routine) (map entity_of l.fn.names.items) (instrs_of l.fn.instructions)
      ≡ judge_instrs (routine_in l.fn.routine) (map entity_of l.fn.names.items) (instrs_of (drop l.instruction-index l.fn.instructions));
}

abbrev pub invariant-judge_branches-loop-branch : goal.invariant-judge_branches-loop-branch
invariant-judge_branches-loop-branch l = record {
  kept : map entity_of l.names.items ≡ map entity_of l.fn.names.items;
  judged : judge_branches (routine_in l.fn.routine) (map entity_of l.fn.names.items) (branches_of l.fn.branches)
      ≡ judge_branches (routine_in l.fn.routine) (map entity_of l.fn.names.items) (branches_of (drop l.branch-index l.fn.branches));
}
