use Rattle.std.proofs.Common.{◌≡◌, ◌++◌, map, take}
use Rattle.std.specs.List.{flat_map}
use Rattle.sc_tree.specs.View.{expr_of, instr_of, instrs_of}
use Rattle.sc_warnings.specs.Sites.{sites_of_branch, sites_of_instr}
use Rattle.sc_warnings.specs.Views.{site_of}
use Rattle.sc_warnings.proofs.instructions.+instructions.Given as goal

abbrev pub invariant-add_branches-loop-branch : goal.invariant-add_branches-loop-branch
invariant-add_branches-loop-branch l =
    map site_of l.sites.items
    ≡ map site_of l.fn.sites.items
    ++ flat_map (λ b. sites_of_branch (map (λ name. name.now) l.names) (expr_of b.condition) (instrs_of b.body.items)) (take l.branch-index l.branches)

abbrev pub invariant-add_instructions-loop-instruction : goal.invariant-add_instructions-loop-instruction
invariant-add_instructions-loop-instruction l =
    map site_of l.sites.items
    ≡ map site_of l.fn.sites.items ++ flat_map (λ i. sites_of_instr (map (λ name. name.now) l.names) (instr_of i)) (take l.instruction-index l.instructions)
