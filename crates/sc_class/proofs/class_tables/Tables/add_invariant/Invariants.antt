use Rattle.std.proofs.Common.{◌≡◌, ◌++◌, take, map}
use Rattle.sc_tree.specs.View.{clause_of}
use Rattle.sc_class.proofs.class_tables.Tables.add_invariant.Given as goal

abbrev pub invariant-loop-clause : goal.invariant-loop-clause
invariant-loop-clause l = map (λ c. clause_of c.now) l.clauses.items ≡ map (λ c. clause_of c.now) l.initial.clauses.items ++ map clause_of (take l.clause-index l.clause-items)
