use Rattle.std.proofs.Common.{◌≡◌, drop, map}
use Rattle.sc_tree.specs.View.{clause_of}
use Rattle.sc_rules.specs.Judging.{judge_each}
use Rattle.sc_rules.specs.JudgingText.{judge_clause}
use Rattle.sc_typing.specs.Views.{routine_in, entity_of}
use Rattle.sc_check.proofs.instructions.conditions.judge_clauses.Given as goal

abbrev pub invariant-loop-clause : goal.invariant-loop-clause
invariant-loop-clause l =
    judge_each (judge_clause (routine_in l.routine) l.context (map entity_of l.names)) (map clause_of l.clauses)
    ≡ judge_each (judge_clause (routine_in l.routine) l.context (map entity_of l.names)) (map clause_of (drop l.clause-index l.clauses))
