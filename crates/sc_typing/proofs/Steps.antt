-- What follows of judging a whole from what is ensured of its parts.
use Rattle.std.proofs.Common.{◌≡◌, ℕ, zero, suc, ◌+◌, ◌<◌, Bool, true, false, List, [], ◌∷◌, length, drop, get_or, map, Option, Result, Ok, Err, refl, ap, sym, ◌∙◌, add-one}
use Rattle.std.specs.Prelude.{◌||◌}
use Rattle.std.specs.List.{list_any}
use Rattle.std.proofs.lemmas.List.{length-map, drop_more}
use Rattle.sc_text.specs.declared.token.Span.{Span}
use Rattle.sc_tree.specs.Plain.{Target}
use Rattle.sc_rules.specs.declared.entity_types.entity_type.EntityType.{EntityType}
use Rattle.sc_rules.specs.declared.rule.Rule.TheVariants.{ArgumentType, PreconditionArgument}
use Rattle.sc_rules.specs.declared.position.Context.{Context}
use Rattle.sc_rules.specs.declared.position.Use.{Use}
use Rattle.sc_rules.specs.Names.{RoutineContext, FormalType, Meaning}
use Rattle.sc_rules.specs.Typing as typing
use Rattle.sc_rules.specs.Judging as judging
use Rattle.sc_rules.specs.Judging.{Judged, ◌>>=◌, required, is_taken, may_pass, rest, judge_actuals, judge_name, judge_actuals_and_name, target_of, formals_of}
use Rattle.sc_typing.specs.declared.expressions.typing.JudgedActual.{JudgedActual}
use Rattle.sc_typing.specs.declared.fault.CheckFault.{CheckFault}
use Rattle.sc_typing.specs.declared.fault.CheckFault.TheVariants.{Refused, OutOfMemory}
use Rattle.sc_typing.specs.Views.{judged_in, actual_in, types_in}
use Rattle.sc_typing.specs.Judges.{Faults, Judges, Passes, any_separate}

-- ---- one after the other

pub faults_along : {A : Type 0} (m n : Judged A) (e : CheckFault) → m ≡ n → Faults n e → Faults m e
faults_along m n OutOfMemory q h = tt
faults_along m n (Refused f) q h = q ∙ h

-- a fault in the first
pub faults_first : {A B : Type 0} (m : Judged A) (f : A → Judged B) (e : CheckFault) → Faults m e → Faults (m >>= f) e
faults_first m f OutOfMemory h = tt
faults_first m f (Refused r) h = ap (λ j. j >>= f) h

-- a fault in what follows
pub faults_then : {A B : Type 0} (m : Judged A) (f : A → Judged B) (x : A) (e : CheckFault) → m ≡ Ok x → Faults (f x) e → Faults (m >>= f) e
faults_then m f x e q h = faults_along (m >>= f) (f x) e (ap (λ j. j >>= f) q) h

pub judges_along : {A B : Type 0} (view : B → A) (m n : Judged A) (r : Result B CheckFault) → m ≡ n → Judges view n r → Judges view m r
judges_along view m n (Ok x) q h = q ∙ h
judges_along view m n (Err e) q h = faults_along m n e q h

pub passes_along : (m n : Judged (Unit {0})) (r : Result Unit CheckFault) → m ≡ n → Passes n r → Passes m r
passes_along m n (Ok x) q h = q ∙ h
passes_along m n (Err e) q h = faults_along m n e q h

-- ---- actuals

pub rest_drop : (fs : List FormalType) (i : ℕ) → rest (drop i fs) ≡ drop (i + 1) fs
rest_drop fs i = by fs i ∙ sym (ap (λ k. drop k fs) (add-one i))
  where
    by : (fs : List FormalType) (i : ℕ) → rest (drop i fs) ≡ drop (suc i) fs
    by [] zero = refl
    by [] (suc i) = refl
    by (f ∷ fs) zero = refl
    by (f ∷ fs) (suc i) = by fs i

or_assoc : (a b c : Bool) → a || (b || c) ≡ (a || b) || c
or_assoc true b c = refl
or_assoc false b c = refl

-- what an actual adds
pub any_more : (b : Bool) (u : typing.Typing) (j : Judged (List typing.Typing)) → any_separate b (j >>= λ us. Ok (u ∷ us)) ≡ any_separate (b || u.is_separate) j
any_more b u (Err f) = refl
any_more b u (Ok us) = ap (λ c. Ok c) (or_assoc b u.is_separate (list_any (λ (t : typing.Typing). t.is_separate) us))

module _ (h : RoutineContext) (c : Context) (r : Option EntityType) (t : EntityType) (ts : List (Option EntityType)) where
  -- the actuals from here on, each with its formal
  abbrev pub judged_from : Bool → List FormalType → List JudgedActual → Judged Bool
  judged_from b fs rs = any_separate b (judge_actuals h c r t ts fs (map actual_in rs))

  -- behind an actual whose type may be passed
  abbrev pub judged_passed : List FormalType → List JudgedActual → typing.Typing → Judged (List typing.Typing)
  judged_passed fs rs u = judge_actuals h c r t ts (rest fs) (map actual_in rs) >>= λ us. Ok (u ∷ us)

  -- behind an actual that is taken
  abbrev pub judged_taken : Span → List FormalType → List JudgedActual → typing.Typing → Judged (List typing.Typing)
  judged_taken p fs rs u = required (may_pass c r u.type) PreconditionArgument p >>= λ w. judged_passed fs rs u

  -- behind what is found of an actual
  abbrev pub judged_found : Span → List FormalType → List JudgedActual → typing.Typing → Judged (List typing.Typing)
  judged_found p fs rs u = required (is_taken h.system t ts fs u.type) ArgumentType p >>= λ w. judged_taken p fs rs u

  module _ (fs : List FormalType) (rs : List JudgedActual) (i : ℕ) (d : JudgedActual) (b : Bool) (total : Judged Bool) (l : i < length rs)
      (inv : total ≡ judged_from b (drop i fs) (drop i rs)) where
    abbrev x : JudgedActual
    x = get_or rs i d

    at_actual : total ≡ any_separate b (judged_in x.judged >>= judged_found x.span (drop i fs) (drop (i + 1) rs))
    at_actual = inv ∙ ap (judged_from b (drop i fs)) (drop_more rs i d l)

    pub actual_fails : (e : CheckFault) → Faults (judged_in x.judged) e → Faults total e
    actual_fails e f =
        faults_along total _ e at_actual
        (faults_first (judged_in x.judged >>= judged_found x.span (drop i fs) (drop (i + 1) rs)) (λ us. Ok (b || list_any (λ (t : typing.Typing). t.is_separate) us)) e
        (faults_first (judged_in x.judged) (judged_found x.span (drop i fs) (drop (i + 1) rs)) e f))

    module _ (u : typing.Typing) (q : judged_in x.judged ≡ Ok u) where
      at_type : total ≡ any_separate b (judged_found x.span (drop i fs) (drop (i + 1) rs) u)
      at_type = at_actual ∙ ap (λ j. any_separate b (j >>= judged_found x.span (drop i fs) (drop (i + 1) rs))) q

      pub actual_untaken : (k : Bool) (e : CheckFault) → k ≡ is_taken h.system t ts (drop i fs) u.type → Faults (required k ArgumentType x.span) e → Faults total e
      actual_untaken k e w f =
          faults_along total _ e at_type
          (faults_first (judged_found x.span (drop i fs) (drop (i + 1) rs) u) (λ us. Ok (b || list_any (λ (t : typing.Typing). t.is_separate) us)) e
          (faults_first (required (is_taken h.system t ts (drop i fs) u.type) ArgumentType x.span) (λ w. judged_taken x.span (drop i fs) (drop (i + 1) rs) u) e
          (faults_along (required (is_taken h.system t ts (drop i fs) u.type) ArgumentType x.span) (required k ArgumentType x.span) e (ap (λ k. required k ArgumentType x.span) (sym w)) f)))

      module _ (k : Bool) (w : k ≡ is_taken h.system t ts (drop i fs) u.type) (o : required k ArgumentType x.span ≡ Ok tt) where
        at_formal : total ≡ any_separate b (judged_taken x.span (drop i fs) (drop (i + 1) rs) u)
        at_formal =
            at_type
            ∙ ap (λ j. any_separate b (j >>= λ w. judged_taken x.span (drop i fs) (drop (i + 1) rs) u)) (ap (λ k. required k ArgumentType x.span) (sym w) ∙ o)

        pub actual_unpassed : (m : Bool) (e : CheckFault) → m ≡ may_pass c r u.type → Faults (required m PreconditionArgument x.span) e → Faults total e
        actual_unpassed m e v f =
            faults_along total _ e at_formal
            (faults_first (judged_taken x.span (drop i fs) (drop (i + 1) rs) u) (λ us. Ok (b || list_any (λ (t : typing.Typing). t.is_separate) us)) e
            (faults_first (required (may_pass c r u.type) PreconditionArgument x.span) (λ w. judged_passed (drop i fs) (drop (i + 1) rs) u) e
            (faults_along (required (may_pass c r u.type) PreconditionArgument x.span) (required m PreconditionArgument x.span) e (ap (λ m. required m PreconditionArgument x.span) (sym v)) f)))

        pub actual_passed : (m : Bool) → m ≡ may_pass c r u.type → required m PreconditionArgument x.span ≡ Ok tt → total ≡ judged_from (b || u.is_separate) (drop (i + 1) fs) (drop (i + 1) rs)
        actual_passed m v o =
            at_formal ∙ ap (λ j. any_separate b (j >>= λ w. judged_passed (drop i fs) (drop (i + 1) rs) u)) (ap (λ m. required m PreconditionArgument x.span) (sym v) ∙ o)
            ∙ any_more b u (judge_actuals h c r t ts (rest (drop i fs)) (map actual_in (drop (i + 1) rs)))
            ∙ ap (λ gs. judged_from (b || u.is_separate) gs (drop (i + 1) rs)) (rest_drop fs i)

-- ---- the actuals and the name

-- as many are found as there are, if no rule fails
abbrev pub AsMany : {X : Type 0} → List X → Judged (List typing.Typing) → Type 0
AsMany rs (Ok us) = length us ≡ length rs
AsMany rs (Err f) = Unit {0}

as_many_then : {A X : Type 0} (rs : List X) (m : Judged A) (f : A → Judged (List typing.Typing)) → ((x : A) → AsMany rs (f x)) → AsMany rs (m >>= f)
as_many_then rs (Ok x) f g = g x
as_many_then rs (Err e) f g = tt

as_many_more : {X : Type 0} (a : X) (rs : List X) (u : typing.Typing) (j : Judged (List typing.Typing)) → AsMany rs j → AsMany (a ∷ rs) (j >>= λ us. Ok (u ∷ us))
as_many_more a rs u (Ok us) p = ap suc p
as_many_more a rs u (Err f) p = tt

pub as_many : (h : RoutineContext) (c : Context) (r : Option EntityType) (t : EntityType) (ts : List (Option EntityType)) (fs : List FormalType) (rs : List judging.JudgedActual) → AsMany rs (judge_actuals h c r t ts fs rs)
as_many h c r t ts fs [] = refl
as_many h c r t ts fs (a ∷ rs) =
    as_many_then (a ∷ rs) a.1 _
    (λ u. as_many_then (a ∷ rs) (required (is_taken h.system t ts fs u.type) ArgumentType a.0) _
    (λ w. as_many_then (a ∷ rs) (required (may_pass c r u.type) PreconditionArgument a.0) _
    (λ w. as_many_more a rs u (judge_actuals h c r t ts (rest fs) rs) (as_many h c r t ts (rest fs) rs))))

module _ (h : RoutineContext) (c : Context) (u : Use) (a : Target) (m : Meaning) (p : Span) (fs : List JudgedActual) (r : typing.Typing) where
  -- behind the actuals
  abbrev pub judged_name : Bool → Judged typing.Typing
  judged_name b = judge_name h c u a m (length fs) p >>= λ t. Ok (typing.typing t (r.is_separate || b))

  abbrev pub judged_all : Judged Bool
  judged_all = any_separate false (judge_actuals h c r.type (target_of h m) (types_in fs) (formals_of m) (map actual_in fs))

  pub meant_is : judge_actuals_and_name h c u a m p (map actual_in fs) r ≡ judged_all >>= judged_name
  meant_is = by (judge_actuals h c r.type (target_of h m) (types_in fs) (formals_of m) (map actual_in fs)) (as_many h c r.type (target_of h m) (types_in fs) (formals_of m) (map actual_in fs))
    where
      by : (j : Judged (List typing.Typing)) → AsMany (map actual_in fs) j →
          (j >>= λ us. judge_name h c u a m (length us) p >>= λ t. Ok (typing.typing t (r.is_separate || list_any (λ (b : typing.Typing). b.is_separate) us))) ≡ any_separate false j >>= judged_name
      by (Ok us) q = ap (λ k. judge_name h c u a m k p >>= λ t. Ok (typing.typing t (r.is_separate || list_any (λ (b : typing.Typing). b.is_separate) us))) (q ∙ length-map fs actual_in)
      by (Err f) q = refl

  module _ (t : EntityType) (gs : List FormalType) (v : t ≡ target_of h m) (w : gs ≡ formals_of m) where
    abbrev pub judged_these : Judged Bool
    judged_these = any_separate false (judge_actuals h c r.type t (types_in fs) gs (map actual_in fs))

    same : judged_all ≡ judged_these
    same = sym (ap (λ t. any_separate false (judge_actuals h c r.type t (types_in fs) gs (map actual_in fs))) v ∙ ap (λ gs. any_separate false (judge_actuals h c r.type (target_of h m) (types_in fs) gs (map actual_in fs))) w)

    pub meant_fails : (e : CheckFault) → Faults judged_these e → Faults (judge_actuals_and_name h c u a m p (map actual_in fs) r) e
    meant_fails e f = faults_along _ (judged_all >>= judged_name) e meant_is (faults_first judged_all judged_name e (faults_along judged_all judged_these e same f))

    module _ (b : Bool) (q : judged_these ≡ Ok b) where
      module _ (k : ℕ) (n : k ≡ length fs) where
        pub meant_misnamed : (e : CheckFault) → Faults (judge_name h c u a m k p) e → Faults (judge_actuals_and_name h c u a m p (map actual_in fs) r) e
        meant_misnamed e f =
            faults_along _ (judged_all >>= judged_name) e meant_is
            (faults_then judged_all judged_name b e (same ∙ q)
            (faults_first (judge_name h c u a m (length fs) p) (λ t. Ok (typing.typing t (r.is_separate || b))) e
            (faults_along (judge_name h c u a m (length fs) p) (judge_name h c u a m k p) e (ap (λ k. judge_name h c u a m k p) (sym n)) f)))

        pub meant_done : (o : Option EntityType) (d : Bool) → judge_name h c u a m k p ≡ Ok o → d ≡ r.is_separate || b → judge_actuals_and_name h c u a m p (map actual_in fs) r ≡ Ok (typing.typing o d)
        meant_done o d f g =
            meant_is ∙ ap (λ j. j >>= judged_name) (same ∙ q)
            ∙ ap (λ j. j >>= λ t. Ok (typing.typing t (r.is_separate || b))) (ap (λ k. judge_name h c u a m k p) (sym n) ∙ f) ∙ ap (λ d. Ok (typing.typing o d)) (sym g)
