use Rattle.std.proofs.Common.{◌≡◌, ◌++◌, drop, map}
use Rattle.sc_tree.specs.View.{clause_of}
use Rattle.sc_model.specs.Olds.{olds_of_clauses}
use Rattle.sc_routines.specs.Settings.{operands_of}
use Rattle.sc_routines.proofs.routine.olds.olds_of_clauses.Given as goal

-- those found so far, and those of the clauses that are left
abbrev pub invariant-loop-clause : goal.invariant-loop-clause
invariant-loop-clause l = operands_of l.olds.items ++ olds_of_clauses (map clause_of (drop l.clause-index l.clauses)) ≡ olds_of_clauses (map clause_of l.clauses)
