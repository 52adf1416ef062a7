use Rattle.std.proofs.Common.{◌≡◌, ◌++◌, map, take}
use Rattle.std.specs.List.{flat_map}
use Rattle.sc_tree.specs.View.{clause_of}
use Rattle.sc_warnings.specs.Sites.{sites_of_clause}
use Rattle.sc_warnings.specs.Views.{site_of}
use Rattle.sc_warnings.proofs.instructions.add_clauses.Given as goal

abbrev pub invariant-loop-clause : goal.invariant-loop-clause
invariant-loop-clause l =
    map site_of l.sites.items
    ≡ map site_of l.initial.sites.items ++ flat_map (λ k. sites_of_clause (map (λ name. name.now) l.names) (clause_of k)) (take l.clause-index l.clauses)
