use Rattle.std.proofs.Common.{◌≡◌, ◌≤◌, ◌+◌, map, drop, ◌++◌}
use Rattle.std.specs.Option.{option_map}
use Rattle.sc_class.specs.SystemIn.{system_in}
use Rattle.sc_class.specs.View.{entry_of}
use Rattle.sc_lower.specs.Pools.{pool_in}
use Rattle.sc_code.specs.Programs.{codes_of, length_of_codes, routine_in}
use Rattle.sc_lower.proofs.program.routines.lower_routines.Given as goal

-- the code so far, and that of the features that are left, is all of it
abbrev pub invariant-loop-entry : goal.invariant-loop-entry
invariant-loop-entry l = record {
  codes : map (option_map (routine_in (pool_in l.linker))) l.codes.items ++ codes_of (system_in l.tables) (map entry_of (drop l.entry-index l.features)) ≡ codes_of (system_in l.tables) (map entry_of l.features);
  instructions : l.instructions + length_of_codes (system_in l.tables) (map entry_of (drop l.entry-index l.features)) ≡ length_of_codes (system_in l.tables) (map entry_of l.features);
  fits : l.instructions ≤ l.most;
}
