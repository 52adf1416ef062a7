use Rattle.std.proofs.Common.{◌≡◌, drop, map}
use Rattle.sc_tree.specs.View.{name_of}
use Rattle.sc_rules.specs.Judging.{judge_each}
use Rattle.sc_rules.specs.JudgingSystem.{judge_creator}
use Rattle.sc_class.specs.SystemIn.{system_in}
use Rattle.sc_check.proofs.declarations.ClassText.judge_creators.Given as goal

abbrev pub invariant-loop-name : goal.invariant-loop-name
invariant-loop-name l =
    judge_each (judge_creator (system_in l.self.tables.now) l.self.class) (map name_of l.names)
    ≡ judge_each (judge_creator (system_in l.self.tables.now) l.self.class) (map name_of (drop l.name-index l.names))
