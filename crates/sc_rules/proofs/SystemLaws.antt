-- A system is accepted exactly where it is well formed, and a refusal's rule fails at its place.
use Rattle.std.proofs.Common.{◌≡◌, inl, inr, Bool, Ok, Err, refl, subst}
use Rattle.std.specs.Prelude.{◌⊎◌}
use Rattle.sc_text.specs.declared.token.Span.{Span}
use Rattle.sc_tree.specs.Plain.{System}
use Rattle.sc_rules.specs.declared.rule.Rule.{Rule}
use Rattle.sc_rules.specs.declared.fault.Fault.{Fault}
use Rattle.sc_rules.specs.Names.{RoutineName}
use Rattle.sc_rules.specs.Purity.{IsPurity}
use Rattle.sc_rules.specs.SystemRules.{ClassFails, SystemFails, in_class, WellFormed}
use Rattle.sc_rules.specs.Judging.{Judged}
use Rattle.sc_rules.specs.JudgingSystem.{judge_system}
use Rattle.sc_rules.proofs.Refusals.{Refused, Tells, passes, tells}
use Rattle.sc_rules.proofs.SystemComplete.{system_refused}
use Rattle.sc_rules.proofs.SystemSound.{InSystem, tells_system}
use Rattle.sc_rules.proofs.PurityLaws.{purity_is_one}

-- where a rule fails, the system is refused, by whatever test tells the pure functions
pub fails_refused : {s : System} {r : Rule} {p : Span} → SystemFails s r p → (pure : RoutineName → Bool) →
    IsPurity s pure → Refused (judge_system s pure)
fails_refused {s} {r} {p} (in_class {pure = other} {k} {c} j g f) pure i =
    system_refused s pure k c r p g (subst (λ test. ClassFails s test k c r p) (purity_is_one s other pure j i) f)

pub well_formed : (s : System) (pure : RoutineName → Bool) → judge_system s pure ≡ Ok tt → IsPurity s pure →
    WellFormed s
well_formed s pure e i r p f = subst Refused e (fails_refused f pure i)

same_fault : (j : Judged (Unit {0})) (g f : Fault) → j ≡ Err g → j ≡ Err f → g ≡ f
same_fault j g f d e = cc

told_fault : (P : Rule → Span → Type 0) (f : Fault) (j : Judged (Unit {0})) → j ≡ Err f → Tells P j → P f.rule f.span
told_fault P f j e passes = cc
told_fault P f j e (tells {f = g} t) = subst (λ (f : Fault). P f.rule f.span) (same_fault (Err g) g f refl e) t

pub ill_formed : (s : System) (pure : RoutineName → Bool) (f : Fault) → judge_system s pure ≡ Err f → IsPurity s pure →
    SystemFails s f.rule f.span
ill_formed s pure f e i = in_its_class (told_fault (InSystem s pure) f (judge_system s pure) e (tells_system s pure))
  where
    in_its_class : InSystem s pure f.rule f.span → SystemFails s f.rule f.span
    in_its_class t = in_class i t.is_there t.fails

-- which of the two the judging tells
decided : (s : System) (pure : RoutineName → Bool) → IsPurity s pure → (j : Judged (Unit {0})) →
    judge_system s pure ≡ j →
    WellFormed s ⊎ ((r : Rule) × (p : Span) × SystemFails s r p)
decided s pure i (Ok tt) e = inl (well_formed s pure e i)
decided s pure i (Err f) e = inr (f.rule, f.span, ill_formed s pure f e i)

pub well_formed_or_fault : (s : System) (pure : RoutineName → Bool) → IsPurity s pure →
    WellFormed s ⊎ ((r : Rule) × (p : Span) × SystemFails s r p)
well_formed_or_fault s pure i = decided s pure i (judge_system s pure) refl
