use Rattle.std.proofs.Common.{◌≡◌, ◌++◌, drop, map}
use Rattle.sc_tree.specs.View.{clause_of}
use Rattle.sc_rules.specs.JudgingPurity as judging
use Rattle.sc_typing.specs.Views.{routine_in, entity_of}
use Rattle.sc_check.specs.purity.Internal.Effects.{effect_of}
use Rattle.sc_check.proofs.purity.body.add_clauses.Given as goal

abbrev pub invariant-loop-clause : goal.invariant-loop-clause
invariant-loop-clause l =
    map effect_of l.effects.items ++ judging.effects_of_clauses (routine_in l.routine) (map entity_of l.names) (map clause_of (drop l.clause-index l.clauses))
    ≡ map effect_of l.initial.effects.items ++ judging.effects_of_clauses (routine_in l.routine) (map entity_of l.names) (map clause_of l.clauses)
