-- Purity of routines, as the lists of their effects tell it.
use Rattle.std.proofs.Common.{◌≡◌, Bool, true, false, Option, Some, None, refl, ap, sym, ◌∙◌, subst}
use Rattle.std.specs.Prelude.{not, ◌||◌}
use Rattle.std.specs.List.{list_any}
use Rattle.sc_tree.specs.Plain.{System, FeatureKind, Attribute, Routine}
use Rattle.sc_class.specs.Tables.Features.{DeclaredFeature}
use Rattle.sc_rules.specs.Names.{RoutineName, RoutineContext, context_of, known_in_body}
use Rattle.sc_rules.specs.Sites.{Site, instructions}
use Rattle.sc_rules.specs.Purity.{routine_named, is_pure_candidate_if_any, IsBody, body, ImpureItself, no_candidate, has_side_effect, MayRun, by_call}
use Rattle.sc_rules.specs.JudgingPurity.{Effect, side_effect, routine_call, effects_of_kind, effects_if_any, effects_of_routine, effects_at, is_side_effect, is_impure_itself, Lists, HasEffect, of_side_effect, of_routine_call, HasEffectWithin}
use Rattle.sc_rules.proofs.PurityLists.{side_effect_listed, listed_side_effect}
use Rattle.sc_rules.proofs.PurityComplete.{listed}
use Rattle.sc_rules.proofs.PuritySound.{done}

-- ---- bodies

pub body_effects : {s : System} {f : RoutineName} {h : RoutineContext} {a : Site} → IsBody s f h a →
    effects_of_routine s f ≡ effects_at h a
body_effects {s} {f} (body {g} e k) = ap (effects_if_any s f.class) e ∙ ap (effects_of_kind s f.class) k

-- where an effect of the routine stands
record EffectIn (s : System) (f : RoutineName) (d : Effect) : Type 0 where
  pub here : RoutineContext
  pub site : Site
  pub is_body : IsBody s f here site
  pub done_there : HasEffectWithin here site d

of_kind : (s : System) (f : RoutineName) (d : Effect) (g : DeclaredFeature) → routine_named s f ≡ Some g →
    (k : FeatureKind) → g.feature.kind ≡ k →
    Lists d (effects_of_kind s f.class k) → EffectIn s f d
of_kind s f d g e (Attribute t) i p = elim p [ ]
of_kind s f d g e (Routine routine) i p =
    record {
      here = context_of s (λ g. true) f.class routine;
      site = instructions (known_in_body s routine) routine.body;
      is_body = body e i;
      done_there = done (context_of s (λ g. true) f.class routine)
          (instructions (known_in_body s routine) routine.body) p;
    }

of_feature : (s : System) (f : RoutineName) (d : Effect) (o : Option DeclaredFeature) → routine_named s f ≡ o →
    Lists d (effects_if_any s f.class o) → EffectIn s f d
of_feature s f d None e p = elim p [ ]
of_feature s f d (Some g) e p = of_kind s f d g e g.feature.kind refl p

effect_in : (s : System) (f : RoutineName) (d : Effect) → Lists d (effects_of_routine s f) → EffectIn s f d
effect_in s f d p = of_feature s f d (routine_named s f) refl p

-- ---- impurity and calls

either_true : (a b : Bool) → b ≡ true → (a || b) ≡ true
either_true true b e = refl
either_true false b e = e

first_true : (a b : Bool) → a ≡ false → (not a || b) ≡ true
first_true true b e = cc
first_true false b e = refl

pub impurity_judged : {s : System} {f : RoutineName} → ImpureItself s f → is_impure_itself s f ≡ true
impurity_judged {s} {f} (no_candidate e) = first_true (is_pure_candidate_if_any (routine_named s f))
    (list_any is_side_effect (effects_of_routine s f)) e
impurity_judged {s} {f} (has_side_effect {b} i w k) =
    either_true (not (is_pure_candidate_if_any (routine_named s f))) (list_any is_side_effect (effects_of_routine s f))
    (side_effect_listed (effects_of_routine s f) (subst (Lists side_effect) (sym (body_effects i)) (listed (record { site = b; within = w; does = of_side_effect k }))))

impurity_in : {s : System} {f : RoutineName} → EffectIn s f side_effect → ImpureItself s f
impurity_in {s} {f} k = of_does k.done_there.does
  where
    of_does : HasEffect k.here k.done_there.site side_effect → ImpureItself s f
    of_does (of_side_effect a) = has_side_effect k.is_body k.done_there.within a

pub judged_impurity : (s : System) (f : RoutineName) → is_impure_itself s f ≡ true → ImpureItself s f
judged_impurity s f e = by_candidate (is_pure_candidate_if_any (routine_named s f)) refl e
  where
    by_candidate : (b : Bool) → is_pure_candidate_if_any (routine_named s f) ≡ b →
        (not b || list_any is_side_effect (effects_of_routine s f)) ≡ true → ImpureItself s f
    by_candidate false i e = no_candidate i
    by_candidate true i e = impurity_in (effect_in s f side_effect (listed_side_effect (effects_of_routine s f) e))

call_in : {s : System} {f g : RoutineName} → EffectIn s f (routine_call g) → MayRun s f g
call_in {s} {f} {g} k = of_does k.done_there.does
  where
    of_does : HasEffect k.here k.done_there.site (routine_call g) → MayRun s f g
    of_does (of_routine_call c e) = by_call k.is_body k.done_there.within c e

pub listed_call : {s : System} {f g : RoutineName} → Lists (routine_call g) (effects_of_routine s f) → MayRun s f g
listed_call {s} {f} {g} p = call_in (effect_in s f (routine_call g) p)
