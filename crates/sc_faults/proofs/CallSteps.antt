-- What is judged of the name of a call, from what judging actuals of which nothing is known gives; and whether a formal takes an actual.
use Rattle.std.proofs.Common.{◌≡◌, ℕ, zero, suc, Bool, true, false, List, [], ◌∷◌, length, map, drop, Option, Some, None, Ok, Err, refl, ap, sym, subst, ◌∙◌}
use Rattle.std.specs.Prelude.{not, ◌&&◌, ◌||◌, replicate, slice_get}
use Rattle.std.specs.List.{list_any}
use Rattle.std.specs.Option.{option_map, option_map_or}
use Rattle.std.specs.Borrow.{Bor}
use Rattle.std.proofs.lemmas.Option.{slice_get-map}
use Rattle.std.proofs.lemmas.List.{length-replicate}
use Rattle.sc_text.specs.declared.token.Span.{Span}
use Rattle.sc_tree.specs.declared.declaration.Declaration.{Declaration}
use Rattle.sc_tree.specs.Plain as plain
use Rattle.sc_tree.specs.Plain.{System, Target}
use Rattle.sc_tree.specs.View.{declaration_of, type_of}
use Rattle.sc_rules.specs.declared.entity_types.entity_type.EntityType.{EntityType}
use Rattle.sc_rules.specs.declared.rule.Rule.TheVariants.{ArgumentType, PreconditionArgument}
use Rattle.sc_rules.specs.declared.position.Context.{Context}
use Rattle.sc_rules.specs.declared.position.Use.{Use}
use Rattle.sc_rules.specs.Positions.{is_require}
use Rattle.sc_rules.specs.Types.{declared_type}
use Rattle.sc_rules.specs.Names.{RoutineContext, FormalType, formal_type, of_type, Meaning}
use Rattle.sc_rules.specs.Typing as spec
use Rattle.sc_rules.specs.Typing.{typing, takes, takes_if_any}
use Rattle.sc_rules.specs.Judging as judging
use Rattle.sc_rules.specs.Judging.{Judged, ◌>>=◌, required, judged_types, formals_of, target_of, is_taken, rest, may_pass, judge_actuals, judge_name, judge_actuals_and_name}
use Rattle.sc_typing.specs.declared.expressions.typing.JudgedActual.{JudgedActual}
use Rattle.sc_typing.specs.declared.expressions.typing.Typing.{Typing}
use Rattle.sc_typing.specs.declared.fault.CheckFault.{CheckFault}
use Rattle.sc_typing.specs.declared.fault.CheckFault.TheVariants.{Refused, OutOfMemory}
use Rattle.sc_typing.specs.declared.routine_context.Formals.{Formals}
use Rattle.sc_typing.specs.declared.routine_context.Formals.TheVariants.{Declared}
use Rattle.sc_typing.specs.Views.{actual_in, formals_in, typing_of}
use Rattle.sc_typing.specs.Judges.{Faults}
use Rattle.sc_typing.proofs.ActualNumbers.{taken_at, formal_is}
use Rattle.sc_faults.specs.Internal.Listing.{judge_named}

mapped : {A B : Type 0} (f : A → B) (k : ℕ) (x : A) → map f (replicate k x) ≡ replicate k (f x)
mapped f zero x = refl
mapped f (suc k) x = ap (λ ys. f x ∷ ys) (mapped f k x)

abbrev nothing_known : spec.Typing
nothing_known = typing None false

-- an actual without a type passes anywhere
pub taken_untyped : (s : System) (t : EntityType) (ts : List (Option EntityType)) (fs : List FormalType) → is_taken s t ts fs None ≡ true
taken_untyped s t ts [] = refl
taken_untyped s t ts (f ∷ fs) = refl

passed_untyped : (b c : Bool) → (not (b && c) || true) ≡ true
passed_untyped true true = refl
passed_untyped true false = refl
passed_untyped false c = refl

untyped_pass : (h : RoutineContext) (c : Context) (t : EntityType) (ts : List (Option EntityType)) (fs : List FormalType) (k : ℕ) (p : Span) →
    judge_actuals h c None t ts fs (replicate k (p, Ok nothing_known)) ≡ Ok (replicate k nothing_known)
untyped_pass h c t ts fs zero p = refl
untyped_pass h c t ts fs (suc k) p =
    ap (λ b. required b ArgumentType p >>= λ u. required (may_pass c None None) PreconditionArgument p >>= λ u.
    judge_actuals h c None t ts (rest fs) (replicate k (p, Ok nothing_known)) >>= λ bs. Ok (nothing_known ∷ bs)) (taken_untyped h.system t ts fs)
    ∙ ap (λ b. required b PreconditionArgument p >>= λ u.
    judge_actuals h c None t ts (rest fs) (replicate k (p, Ok nothing_known)) >>= λ bs. Ok (nothing_known ∷ bs)) (passed_untyped (is_require c) false)
    ∙ ap (λ j. j >>= λ bs. Ok (nothing_known ∷ bs)) (untyped_pass h c t ts (rest fs) k p)

-- with such actuals the name alone is judged
abbrev given : List spec.Typing → Option EntityType → spec.Typing
given ts t = typing t (false || list_any (λ (b : spec.Typing). b.is_separate) ts)

name_alone : (h : RoutineContext) (c : Context) (u : Use) (a : Target) (m : Meaning) (k : ℕ) (p : Span) →
    judge_actuals_and_name h c u a m p (replicate k (p, Ok nothing_known)) nothing_known
    ≡ (judge_name h c u a m k p >>= λ t. Ok (given (replicate k nothing_known) t))
name_alone h c u a m k p =
    ap (λ j. j >>= λ ts. judge_name h c u a m (length ts) p >>= λ t. Ok (given ts t))
    (untyped_pass h c (target_of h m) (judged_types (replicate k (p, Ok nothing_known))) (formals_of m) k p)
    ∙ ap (λ i. judge_name h c u a m i p >>= λ t. Ok (given (replicate k nothing_known) t)) (length-replicate k nothing_known)

abbrev as_unit : {A : Type 0} → Judged A → Judged (Unit {0})
as_unit j = j >>= λ t. Ok tt

gives_unit : {A B : Type 0} (j : Judged A) (g : A → B) (x : B) → (j >>= λ t. Ok (g t)) ≡ Ok x → as_unit j ≡ Ok tt
gives_unit (Ok t) g x e = refl
gives_unit (Err f) g x e = cc

faults_unit : {A B : Type 0} (j : Judged A) (g : A → B) (e : CheckFault) → Faults (j >>= λ t. Ok (g t)) e → Faults (as_unit j) e
faults_unit j g OutOfMemory q = tt
faults_unit (Ok t) g (Refused f) q = cc
faults_unit (Err d) g (Refused f) q = cc

abbrev known : Span → spec.Typing → judging.JudgedActual
known p t = (p, Ok t)

-- `fs` are actuals of which nothing is known
module _ (h : RoutineContext) (c : Context) (u : Use) (a : Target) (m : Meaning) (k : ℕ) (p : Span) (w : Typing) (v : spec.Typing)
    (fs gs : List JudgedActual) (e1 : typing_of w ≡ typing None false) (e2 : fs ≡ replicate k (record { span = p; judged = Ok w })) (e3 : gs ≡ fs)
    (e4 : v ≡ typing None false) where
  abbrev actual : JudgedActual
  actual = record { span = p; judged = Ok w }

  judged_so : judge_actuals_and_name h c u a m p (map actual_in gs) v ≡ (judge_name h c u a m k p >>= λ t. Ok (given (replicate k nothing_known) t))
  judged_so =
      ap (λ v. judge_actuals_and_name h c u a m p (map actual_in gs) v) e4
      ∙ ap (λ (xs : List JudgedActual). judge_actuals_and_name h c u a m p (map actual_in xs) nothing_known) (e3 ∙ e2)
      ∙ ap (λ rs. judge_actuals_and_name h c u a m p rs nothing_known) (mapped actual_in k actual)
      ∙ ap (λ r. judge_actuals_and_name h c u a m p (replicate k r) nothing_known) (ap (known p) e1)
      ∙ name_alone h c u a m k p

  pub named_passes : (x : spec.Typing) → judge_actuals_and_name h c u a m p (map actual_in gs) v ≡ Ok x → judge_named h c u a m k p ≡ Ok tt
  named_passes x q = gives_unit (judge_name h c u a m k p) (given (replicate k nothing_known)) x (sym judged_so ∙ q)

  pub named_fails : (e : CheckFault) → Faults (judge_actuals_and_name h c u a m p (map actual_in gs) v) e → Faults (judge_named h c u a m k p) e
  named_fails e q =
      faults_unit (judge_name h c u a m k p) (given (replicate k nothing_known)) e (subst (λ j. Faults j e) judged_so q)

-- ---- an actual and the formal at its number

module _ (s : System) (t : EntityType) (ts : List (Option EntityType)) (fs : List FormalType) (i : ℕ) (a : Option EntityType) where
  pub taken_none : slice_get fs i ≡ None → true ≡ is_taken s t ts (drop i fs) a
  taken_none e = sym (taken_at s t ts fs i a ∙ ap (λ o. option_map_or (λ f. takes_if_any s t ts f a) o true) e)

  pub taken_some : (f : FormalType) (b : Bool) → slice_get fs i ≡ Some f → b ≡ takes_if_any s t ts f a → b ≡ is_taken s t ts (drop i fs) a
  taken_some f b e q = q ∙ sym (taken_at s t ts fs i a ∙ ap (λ o. option_map_or (λ f. takes_if_any s t ts f a) o true) e)

module _ (s : System) (t : EntityType) (ts : List (Option EntityType)) (fs : Formals) (i : ℕ) (a : EntityType) where
  abbrev pub IsTaken : Bool → Type 0
  IsTaken b = b ≡ is_taken s t ts (drop i (formals_in s fs)) (Some a)

  module _ (ds : Bor (List Declaration)) (q : fs ≡ Declared ds) where
    pub no_formal : slice_get ds.now i ≡ None → IsTaken true
    no_formal g =
        taken_none s t ts (formals_in s fs) i (Some a)
        (ap (λ fs. slice_get (formals_in s fs) i) q
        ∙ slice_get-map (λ (d : plain.Declaration). formal_type (declared_type s (map declaration_of ds.now) d.declared_type)) (map declaration_of ds.now) i
        ∙ ap (option_map (λ (d : plain.Declaration). formal_type (declared_type s (map declaration_of ds.now) d.declared_type)))
        (slice_get-map declaration_of ds.now i ∙ ap (option_map declaration_of) g))

    -- the type that the formal is declared with
    abbrev type_at : Declaration → Option EntityType
    type_at d = declared_type s (map declaration_of ds.now) (type_of d.declared_type)

    pub untyped_formal : (d : Declaration) → slice_get ds.now i ≡ Some d → None ≡ type_at d → IsTaken true
    untyped_formal d g e =
        taken_some s t ts (formals_in s fs) i (Some a) (formal_type (type_at d)) true (formal_is s fs ds i d q g)
        (ap (λ o. takes_if_any s t ts (formal_type o) (Some a)) e)

    pub typed_formal : (d : Declaration) (f : EntityType) (b : Bool) → slice_get ds.now i ≡ Some d → Some f ≡ type_at d →
        b ≡ takes s t ts (of_type f) a → IsTaken b
    typed_formal d f b g e p =
        taken_some s t ts (formals_in s fs) i (Some a) (formal_type (type_at d)) b (formal_is s fs ds i d q g)
        (p ∙ ap (λ o. takes_if_any s t ts (formal_type o) (Some a)) e)
