use Rattle.std.proofs.Common.{◌≡◌, ◌++◌, map, take}
use Rattle.std.specs.List.{flat_map}
use Rattle.sc_tree.specs.View.{clause_of, declaration_of}
use Rattle.sc_warnings.specs.Warnings.{warnings_of_require}
use Rattle.sc_warnings.specs.Views.{site_of}
use Rattle.sc_warnings.proofs.waiting.add_require.Given as goal

abbrev pub invariant-loop-clause : goal.invariant-loop-clause
invariant-loop-clause l =
    l.warnings.items ≡ l.initial.warnings.items ++ flat_map (λ x. warnings_of_require (map site_of l.calls) l.feature (map declaration_of l.formals) (clause_of x)) (take l.clause-index l.clauses)
