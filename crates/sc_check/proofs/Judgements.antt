-- What judging a system tells of it.
use Rattle.std.proofs.Common.{◌≡◌, Bool, Result, Ok, Err, IfErr, refl}
use Rattle.std.specs.Prelude.{OnOk}
use Rattle.sc_tree.specs.Plain.{System}
use Rattle.sc_rules.specs.Names.{RoutineName}
use Rattle.sc_rules.specs.Purity.{IsPurity}
use Rattle.sc_rules.specs.SystemRules.{WellFormed, in_class}
use Rattle.sc_rules.specs.JudgingSystem.{judge_system}
use Rattle.sc_rules.proofs.SystemLaws.{well_formed, ill_formed}
use Rattle.sc_typing.specs.declared.fault.CheckFault.{CheckFault}
use Rattle.sc_typing.specs.declared.fault.CheckFault.TheVariants.{Refused, OutOfMemory}
use Rattle.sc_check.specs.CheckedSystems.{IsChecked}
use Rattle.sc_check.specs.CheckFaults.{IsTrueOf, IsFirstOf}
use Rattle.sc_typing.specs.Judges.{Passes}

pub passed : (s : System) (pure : RoutineName → Bool) (r : Result Unit CheckFault) → IsPurity s pure → Passes (judge_system s pure) r → OnOk r (WellFormed s)
passed s pure (Ok u) i p = well_formed s pure p i
passed s pure (Err e) i p = tt

-- with the test that the system was judged with
pub passed_checked : (s : System) (pure : RoutineName → Bool) (r : Result Unit CheckFault) → IsPurity s pure → Passes (judge_system s pure) r → OnOk r (IsChecked s)
passed_checked s pure (Ok u) i p = record { pure = pure; tells = i; no_rule_fails = λ k c r q e f. well_formed s pure p i r q (in_class i e f) }
passed_checked s pure (Err e) i p = tt

pub refused : (s : System) (pure : RoutineName → Bool) (r : Result Unit CheckFault) → IsPurity s pure → Passes (judge_system s pure) r → IfErr r (IsTrueOf s)
refused s pure (Ok u) i p = tt
refused s pure (Err OutOfMemory) i p = tt
refused s pure (Err (Refused f)) i p = ill_formed s pure f p i

pub first : (s : System) (pure : RoutineName → Bool) (r : Result Unit CheckFault) → IsPurity s pure → Passes (judge_system s pure) r → IfErr r (IsFirstOf s)
first s pure (Ok u) i p = tt
first s pure (Err OutOfMemory) i p = tt
first s pure (Err (Refused f)) i p = record { pure = pure; tells = i; is_met = p }

-- that memory ran out is true of any system
pub memory_is_true : (s : System) (e : CheckFault) → e ≡ OutOfMemory → IsTrueOf s e
memory_is_true s OutOfMemory q = tt
memory_is_true s (Refused f) q = cc

pub memory_is_first : (s : System) (e : CheckFault) → e ≡ OutOfMemory → IsFirstOf s e
memory_is_first s OutOfMemory q = tt
memory_is_first s (Refused f) q = cc

-- a well-formed system is refused where memory runs out alone
pub memory_alone : (s : System) → WellFormed s → (e : CheckFault) → IsTrueOf s e → e ≡ OutOfMemory
memory_alone s w OutOfMemory t = refl
memory_alone s w (Refused f) t = absurd (w f.rule f.span t)
