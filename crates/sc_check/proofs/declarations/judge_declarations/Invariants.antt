use Rattle.std.proofs.Common.{◌≡◌, drop, map}
use Rattle.sc_tree.specs.View.{declaration_of}
use Rattle.sc_rules.specs.JudgingSystem.{judge_declarations}
use Rattle.sc_class.specs.SystemIn.{system_in}
use Rattle.sc_check.proofs.declarations.judge_declarations.Given as goal

abbrev pub invariant-loop-declaration : goal.invariant-loop-declaration
invariant-loop-declaration l =
    judge_declarations (system_in l.tables) (map declaration_of l.formals) (map declaration_of l.declarations)
    ≡ judge_declarations (system_in l.tables) (map declaration_of l.formals) (map declaration_of (drop l.declaration-index l.declarations))
