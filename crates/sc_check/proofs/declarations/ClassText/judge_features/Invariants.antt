use Rattle.std.proofs.Common.{◌≡◌, drop, map}
use Rattle.sc_tree.specs.View.{feature_of}
use Rattle.sc_rules.specs.Judging.{judge_each}
use Rattle.sc_typing.specs.Marks.{is_marked}
use Rattle.sc_check.specs.Internal.Parts.{judge_declared}
use Rattle.sc_class.specs.SystemIn.{system_in}
use Rattle.sc_check.proofs.declarations.ClassText.judge_features.Given as goal

abbrev pub invariant-loop-feature : goal.invariant-loop-feature
invariant-loop-feature l =
    judge_each (judge_declared (system_in l.self.tables.now) (is_marked l.self.purity.now) l.self.class) (map feature_of l.features)
    ≡ judge_each (judge_declared (system_in l.self.tables.now) (is_marked l.self.purity.now) l.self.class) (map feature_of (drop l.feature-index l.features))
