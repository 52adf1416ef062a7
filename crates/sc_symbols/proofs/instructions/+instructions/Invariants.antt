use Rattle.std.proofs.Common.{◌≡◌, ◌++◌, take}
use Rattle.std.specs.List.{flat_map}
use Rattle.sc_tree.specs.View.{expr_of, instr_of, instrs_of}
use Rattle.sc_typing.specs.Views.{routine_in}
use Rattle.sc_symbols.specs.Internal.{judged, scope_of}
use Rattle.sc_symbols.specs.Mentions.{mentions_in_branch, mentions_in_instr}
use Rattle.sc_symbols.proofs.instructions.+instructions.Given as goal

abbrev pub invariant-add_branches-loop-branch : goal.invariant-add_branches-loop-branch
invariant-add_branches-loop-branch l =
    l.mentions.items
    ≡ l.fn.mentions.items ++ flat_map (λ b. mentions_in_branch judged (routine_in l.routine) (scope_of l.scope) (expr_of b.condition) (instrs_of b.body.items))
    (take l.branch-index l.branches)

abbrev pub invariant-add_instructions-loop-instruction : goal.invariant-add_instructions-loop-instruction
invariant-add_instructions-loop-instruction l =
    l.mentions.items
    ≡ l.fn.mentions.items ++ flat_map (λ i. mentions_in_instr judged (routine_in l.routine) (scope_of l.scope) (instr_of i)) (take l.instruction-index l.instructions)
