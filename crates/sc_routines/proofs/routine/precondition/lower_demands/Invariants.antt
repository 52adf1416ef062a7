use Rattle.std.proofs.Common.{◌≡◌, ◌++◌, drop, map, max}
use Rattle.sc_tree.specs.View.{clause_of}
use Rattle.sc_typing.specs.Views.{entity_of}
use Rattle.sc_code.specs.Emitted.{checks_depth, clauses_code}
use Rattle.sc_routines.specs.Settings.{setting_in}
use Rattle.sc_routines.proofs.routine.precondition.lower_demands.Given as goal

-- what is found so far, and of the clauses that are left, is that of all
abbrev pub invariant-loop-clause : goal.invariant-loop-clause
invariant-loop-clause l = record {
  names : map entity_of l.names.items ≡ map entity_of l.fn.names.items;
  code : l.code ++ clauses_code (setting_in l.setting) (map entity_of l.fn.names.items) (map clause_of (drop l.clause-index l.clauses))
      ≡ l.fn.code ++ clauses_code (setting_in l.setting) (map entity_of l.fn.names.items) (map clause_of l.clauses);
  depth : max l.depth (checks_depth (setting_in l.setting) (map entity_of l.fn.names.items) (map clause_of (drop l.clause-index l.clauses)))
      ≡ checks_depth (setting_in l.setting) (map entity_of l.fn.names.items) (map clause_of l.clauses);
}
