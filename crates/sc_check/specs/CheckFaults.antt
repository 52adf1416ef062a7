-- What a refusal says.
use Rattle.std.specs.Prelude.{◌≡◌, Bool, Err}
use Rattle.sc_tree.specs.Plain.{System}
use Rattle.sc_rules.specs.declared.fault.Fault.{Fault}
use Rattle.sc_rules.specs.JudgingSystem.{judge_system}
use Rattle.sc_rules.specs.Names.{RoutineName}
use Rattle.sc_rules.specs.Purity.{IsPurity}
use Rattle.sc_rules.specs.SystemRules.{SystemFails}
use Rattle.sc_typing.specs.declared.fault.CheckFault.{CheckFault}
use Rattle.sc_typing.specs.declared.fault.CheckFault.TheVariants.{Refused, OutOfMemory}

-- Its rule fails in the system at its place. Want of memory says nothing of the system.
abbrev pub IsTrueOf : System → CheckFault → Type 0
IsTrueOf s (Refused f) = SystemFails s f.rule f.span
IsTrueOf s OutOfMemory = Unit {0}

-- The fault is the first on the walk through the system, if the pure functions are separated from the others.
pub record IsFirst (s : System) (f : Fault) : Type 0 where
  pub pure : RoutineName → Bool
  pub tells : IsPurity s pure
  pub is_met : judge_system s pure ≡ Err f

-- Of the rules that fail, its own is met first. Want of memory says nothing of the system.
abbrev pub IsFirstOf : System → CheckFault → Type 0
IsFirstOf s (Refused f) = IsFirst s f
IsFirstOf s OutOfMemory = Unit {0}
