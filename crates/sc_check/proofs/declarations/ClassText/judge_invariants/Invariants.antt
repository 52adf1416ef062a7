use Rattle.std.proofs.Common.{◌≡◌, drop, map}
use Rattle.sc_tree.specs.View.{clause_of}
use Rattle.sc_rules.specs.Judging.{judge_each}
use Rattle.sc_typing.specs.Marks.{is_marked}
use Rattle.sc_rules.specs.JudgingSystem.{judge_invariant}
use Rattle.sc_class.specs.SystemIn.{system_in}
use Rattle.sc_check.proofs.declarations.ClassText.judge_invariants.Given as goal

abbrev pub invariant-loop-clause : goal.invariant-loop-clause
invariant-loop-clause l =
    judge_each (judge_invariant (system_in l.self.tables.now) (is_marked l.self.purity.now) l.self.class) (map clause_of l.clauses)
    ≡ judge_each (judge_invariant (system_in l.self.tables.now) (is_marked l.self.purity.now) l.self.class) (map clause_of (drop l.clause-index l.clauses))
