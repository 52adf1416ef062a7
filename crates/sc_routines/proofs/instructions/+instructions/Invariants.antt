use Rattle.std.proofs.Common.{◌≡◌, ◌++◌, drop, length, map, max}
use Rattle.sc_tree.specs.View.{instrs_of, branches_of}
use Rattle.sc_typing.specs.Views.{entity_of}
use Rattle.sc_code.specs.Emitted.{instrs_code, instrs_depth, instrs_slots, branches_depth, branches_slots}
use Rattle.sc_routines.specs.Jumps.{open_branches, jumps_of}
use Rattle.sc_code.specs.Room.{instrs_blocks, branches_blocks}
use Rattle.sc_routines.specs.Settings.{setting_in}
use Rattle.sc_routines.proofs.instructions.+instructions.Given as goal

-- what is found so far, and of the instructions that are left, is that of all
abbrev pub invariant-lower_instructions-loop-instruction : goal.invariant-lower_instructions-loop-instruction
invariant-lower_instructions-loop-instruction l = record {
  names : map entity_of l.names.items ≡ map entity_of l.fn.names.items;
  code : l.code ++ instrs_code (setting_in l.fn.setting) (map entity_of l.fn.names.items) (instrs_of (drop l.instruction-index l.fn.instructions))
      ≡ l.fn.code ++ instrs_code (setting_in l.fn.setting) (map entity_of l.fn.names.items) (instrs_of l.fn.instructions);
  depth : max l.needs.depth (instrs_depth (setting_in l.fn.setting) (map entity_of l.fn.names.items) (instrs_of (drop l.instruction-index l.fn.instructions)))
      ≡ instrs_depth (setting_in l.fn.setting) (map entity_of l.fn.names.items) (instrs_of l.fn.instructions);
  slots : max l.needs.slots (instrs_slots (setting_in l.fn.setting) (map entity_of l.fn.names.items) (instrs_of (drop l.instruction-index l.fn.instructions)))
      ≡ instrs_slots (setting_in l.fn.setting) (map entity_of l.fn.names.items) (instrs_of l.fn.instructions);
  blocks : max l.needs.blocks (instrs_blocks (instrs_of (drop l.instruction-index l.fn.instructions))) ≡ instrs_blocks (instrs_of l.fn.instructions);
}

-- the same of branches
abbrev pub invariant-lower_branches-loop-branch : goal.invariant-lower_branches-loop-branch
invariant-lower_branches-loop-branch l = record {
  names : map entity_of l.names.items ≡ map entity_of l.fn.names.items;
  code : l.code ++ open_branches (setting_in l.fn.setting) (map entity_of l.fn.names.items) (branches_of (drop l.branch-index l.fn.branches))
      ≡ l.fn.code ++ open_branches (setting_in l.fn.setting) (map entity_of l.fn.names.items) (branches_of l.fn.branches);
  jumps : l.jumps.items ++ jumps_of (setting_in l.fn.setting) (map entity_of l.fn.names.items) (length l.code) (branches_of (drop l.branch-index l.fn.branches))
      ≡ l.fn.jumps.items ++ jumps_of (setting_in l.fn.setting) (map entity_of l.fn.names.items) (length l.fn.code) (branches_of l.fn.branches);
  depth : max l.needs.depth (branches_depth (setting_in l.fn.setting) (map entity_of l.fn.names.items) (branches_of (drop l.branch-index l.fn.branches)))
      ≡ branches_depth (setting_in l.fn.setting) (map entity_of l.fn.names.items) (branches_of l.fn.branches);
  slots : max l.needs.slots (branches_slots (setting_in l.fn.setting) (map entity_of l.fn.names.items) (branches_of (drop l.branch-index l.fn.branches)))
      ≡ branches_slots (setting_in l.fn.setting) (map entity_of l.fn.names.items) (branches_of l.fn.branches);
  blocks : max l.needs.blocks (branches_blocks (branches_of (drop l.branch-index l.fn.branches))) ≡ branches_blocks (branches_of l.fn.branches);
}
