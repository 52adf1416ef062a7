use Rattle.std.proofs.Common.{◌≡◌, ◌++◌, map, take}
use Rattle.std.specs.List.{flat_map}
use Rattle.sc_tree.specs.View.{clause_of}
use Rattle.sc_typing.specs.Views.{routine_in}
use Rattle.sc_symbols.specs.Internal.{judged, scope_of}
use Rattle.sc_symbols.specs.Mentions.{mentions_in_clause}
use Rattle.sc_symbols.proofs.expressions.add_clauses.Given as goal

abbrev pub invariant-loop-clause : goal.invariant-loop-clause
invariant-loop-clause l =
    l.mentions.items ≡ l.initial.mentions.items ++ flat_map (λ x. mentions_in_clause judged (routine_in l.routine) l.context (scope_of l.scope) (clause_of x)) (take l.clause-index l.clauses)
