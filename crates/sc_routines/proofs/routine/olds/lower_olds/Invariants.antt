use Rattle.std.proofs.Common.{◌≡◌, ◌++◌, drop, map, max}
use Rattle.sc_typing.specs.Views.{entity_of}
use Rattle.sc_code.specs.Places.{old_types}
use Rattle.sc_code.specs.Emitted.{olds_code, olds_depth}
use Rattle.sc_routines.specs.Settings.{operands_of, setting_in}
use Rattle.sc_routines.proofs.routine.olds.lower_olds.Given as goal

-- what is found so far, and of the operands that are left, is that of all; the setting has the types of those before
abbrev pub invariant-loop-kept : goal.invariant-loop-kept
invariant-loop-kept l = record {
  names : map entity_of l.names.items ≡ map entity_of l.fn.names.items;
  setting : setting_in l.setting ≡ record (setting_in l.fn.setting) { olds = l.setting.olds.items };
  code : l.code ++ olds_code (setting_in l.setting) (map entity_of l.fn.names.items) (operands_of (drop l.kept-index l.olds))
      ≡ l.fn.code ++ olds_code (setting_in l.fn.setting) (map entity_of l.fn.names.items) (operands_of l.olds);
  types : l.setting.olds.items ++ old_types (setting_in l.setting) (map entity_of l.fn.names.items) (operands_of (drop l.kept-index l.olds))
      ≡ l.fn.setting.olds.items ++ old_types (setting_in l.fn.setting) (map entity_of l.fn.names.items) (operands_of l.olds);
  depth : max l.depth (olds_depth (setting_in l.setting) (map entity_of l.fn.names.items) (operands_of (drop l.kept-index l.olds)))
      ≡ olds_depth (setting_in l.fn.setting) (map entity_of l.fn.names.items) (operands_of l.olds);
}
