use Rattle.std.proofs.Common.{◌≡◌, ◌++◌, take}
use Rattle.std.specs.List.{flat_map}
use Rattle.sc_tree.specs.View.{clause_of}
use Rattle.sc_warnings.specs.Warnings.{warnings_of_clause}
use Rattle.sc_warnings.proofs.conditions.add_clause_warnings.Given as goal

abbrev pub invariant-loop-clause : goal.invariant-loop-clause
invariant-loop-clause l =
    l.warnings.items ≡ l.initial.warnings.items ++ flat_map (λ x. warnings_of_clause (clause_of x)) (take l.clause-index l.clauses)
