use Rattle.std.proofs.Common.{◌≡◌, ◌≤◌, ◌+◌, ◌++◌, drop, length, map, max}
use Rattle.sc_tree.specs.View.{head_of}
use Rattle.sc_typing.specs.Views.{entity_of}
use Rattle.sc_code.specs.Places.{head_types}
use Rattle.sc_code.specs.Emitted.{heads_code, heads_depth}
use Rattle.sc_routines.specs.Settings.{setting_in}
use Rattle.sc_routines.proofs.instructions.blocks.lower_heads.Given as goal

-- what is found so far, and of the heads that are left, is that of all
abbrev pub invariant-loop-place : goal.invariant-loop-place
invariant-loop-place l = record {
  names : map entity_of l.names.items ≡ map entity_of l.fn.names.items;
  code : l.code ++ heads_code (setting_in l.setting) (map entity_of l.fn.names.items) (map head_of (drop l.place l.heads))
      ≡ l.fn.code ++ heads_code (setting_in l.setting) (map entity_of l.fn.names.items) (map head_of l.heads);
  types : l.types.items ++ head_types (setting_in l.setting) (map entity_of l.fn.names.items) (map head_of (drop l.place l.heads))
      ≡ head_types (setting_in l.setting) (map entity_of l.fn.names.items) (map head_of l.heads);
  deep : length l.heads ≤ l.depth;
  depth : max l.depth (l.place + heads_depth (setting_in l.setting) (map entity_of l.fn.names.items) (map head_of (drop l.place l.heads)))
      ≡ heads_depth (setting_in l.setting) (map entity_of l.fn.names.items) (map head_of l.heads);
}
