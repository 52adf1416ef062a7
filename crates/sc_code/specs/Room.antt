-- How many `old`s and separate blocks a routine has.
use Rattle.std.specs.Prelude.{ℕ, suc, length, max}
use Rattle.sc_tree.specs.Plain as tree
use Rattle.sc_tree.specs.Plain.{Instr, Instrs, no_instrs, instr_then, Branches, no_branches, branch_then}
use Rattle.sc_model.specs.Routines.{Routine}
use Rattle.sc_model.specs.Olds.{olds_of_clauses}

-- the `old`s whose values are kept
abbrev pub routine_olds : Routine → ℕ
routine_olds r = length (olds_of_clauses r.ensure)

-- the most separate blocks that are open at once
abbrev mutual
  pub instr_blocks : Instr → ℕ
  instr_blocks (tree.Assign q v e) = 0
  instr_blocks (tree.PrintText q text) = 0
  instr_blocks (tree.CallRoutine q t x es) = 0
  instr_blocks (tree.Create q c) = 0
  instr_blocks (tree.If q e body bs other) = max (instrs_blocks body) (max (branches_blocks bs) (instrs_blocks other))
  instr_blocks (tree.Loop q initial e body) = max (instrs_blocks initial) (instrs_blocks body)
  instr_blocks (tree.Check q ks) = 0
  instr_blocks (tree.Block q ds body) = suc (instrs_blocks body)

  pub instrs_blocks : Instrs → ℕ
  instrs_blocks no_instrs = 0
  instrs_blocks (instr_then i is) = max (instr_blocks i) (instrs_blocks is)

  pub branches_blocks : Branches → ℕ
  branches_blocks no_branches = 0
  branches_blocks (branch_then e body bs) = max (instrs_blocks body) (branches_blocks bs)

abbrev pub routine_blocks : Routine → ℕ
routine_blocks r = instrs_blocks r.body
