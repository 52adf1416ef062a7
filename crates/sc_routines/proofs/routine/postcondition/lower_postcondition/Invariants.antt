use Rattle.std.proofs.Common.{◌≡◌, ◌++◌, drop, map, max}
use Rattle.sc_tree.specs.View.{clause_of}
use Rattle.sc_typing.specs.Views.{entity_of}
use Rattle.sc_code.specs.Emitted.{clauses_depth, ensure_code}
use Rattle.sc_routines.specs.Settings.{setting_in}
use Rattle.sc_routines.proofs.routine.postcondition.lower_postcondition.Given as goal

-- what is found so far, and of the clauses that are left behind as many `old`s, is that of all
abbrev pub invariant-loop-clause : goal.invariant-loop-clause
invariant-loop-clause l = record {
  names : map entity_of l.names.items ≡ map entity_of l.fn.names.items;
  code : l.code ++ ensure_code (setting_in l.setting) (map entity_of l.fn.names.items) l.olds (map clause_of (drop l.clause-index l.clauses))
      ≡ l.fn.code ++ ensure_code (setting_in l.setting) (map entity_of l.fn.names.items) 0 (map clause_of l.clauses);
  depth : max l.depth (clauses_depth (setting_in l.setting) (map entity_of l.fn.names.items) l.olds (map clause_of (drop l.clause-index l.clauses)))
      ≡ clauses_depth (setting_in l.setting) (map entity_of l.fn.names.items) 0 (map clause_of l.clauses);
}
