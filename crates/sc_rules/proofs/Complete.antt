-- What has a type, judging finds.
use Rattle.std.proofs.Common.{◌≡◌, ℕ, ◌==◌, Bool, true, false, List, [], ◌∷◌, length, Option, Some, None, Ok, refl, ap, ◌∙◌, arith}
use Rattle.std.specs.Prelude.{not, ◌&&◌, ◌||◌, is_some}
use Rattle.std.specs.List.{list_any, list_all}
use Rattle.sc_text.specs.declared.token.Span.{Span}
use Rattle.sc_tree.specs.Plain.{System, DeclaredType, Name, Expr, Binary, ObjectTest, Target, target, Exprs}
use Rattle.sc_rules.specs.declared.entity_types.entity_type.EntityType.{EntityType}
use Rattle.sc_rules.specs.declared.rule.Rule.{Rule}
use Rattle.sc_rules.specs.declared.rule.Rule.TheVariants.{WrongArity, TargetDetachable, TargetUncontrolled}
use Rattle.sc_rules.specs.declared.position.Context.{Context}
use Rattle.sc_rules.specs.declared.position.Position.{Position}
use Rattle.sc_rules.specs.declared.position.Use.TheVariants.{Value}
use Rattle.sc_class.specs.declared.identity.ClassId.{ClassId}
use Rattle.sc_class.specs.Tables.Conformance.{type_class}
use Rattle.sc_rules.specs.declared.entity_types.tag.Tag.{Tag}
use Rattle.sc_rules.specs.Types as declared
use Rattle.sc_rules.specs.Types.{declared_tag, is_controlled, is_controlled_tag}
use Rattle.sc_rules.specs.Positions.{span_of, is_require, may_give}
use Rattle.sc_rules.specs.Names.{RoutineContext, Entities, FormalType, Signature, named, current, meaning_of}
use Rattle.sc_rules.specs.Typing.{Typing, typing, types, may_target, is_foreign_type, takes_if_any, formals_take, is_value, passes_values, may_call, is_exported_to, is_testable, HasType, number, truth, void, current_object, result, call, untyped_target_call, unary, binary, and_then, test, HasReceiver, implicit, explicit, HasTypes, none, more, Gives, by_test, by_both, nothing}
use Rattle.sc_rules.specs.Judging.{Judged, ◌>>=◌, required, judge_tested, judge_target, JudgedActual, judged_type, judged_types, is_taken, rest, judge_actuals, judge_name, judge_actuals_and_name, judge_called, judge, judge_receiver, judged_actuals, judge_given}
use Rattle.sc_rules.proofs.Refusals.{bind_ok}

-- ---- the parts of what is judged

pub required_ok : (b : Bool) (r : Rule) (p : Span) → b ≡ true → required b r p ≡ Ok tt
required_ok b r p e = ap (λ b. required b r p) e

same_count : (m n : ℕ) → m ≡ n → (m == n) ≡ true
same_count m n e = grind arith

both : (a b : Bool) → (a && b) ≡ true → (a ≡ true) × (b ≡ true)
both true true e = (refl, refl)
both true false e = cc
both false b e = cc

target_ok : (p : Span) (t : Option EntityType) → may_target t ≡ true → judge_target p t ≡ Ok tt
target_ok p None e = refl
target_ok p (Some t) e = controlled (both t.attached (is_controlled_tag t.tag) e)
  where
    controlled : (t.attached ≡ true) × (is_controlled_tag t.tag ≡ true) →
        (required t.attached TargetDetachable p >>= λ u. required (is_controlled_tag t.tag) TargetUncontrolled p) ≡ Ok tt
    controlled (d, f) = bind_ok (λ u. required (is_controlled_tag t.tag) TargetUncontrolled p)
        (required_ok t.attached TargetDetachable p d) ∙
        required_ok (is_controlled_tag t.tag) TargetUncontrolled p f

name_ok : (h : RoutineContext) (c : Context) (a : Target) (g : Signature) (k : ℕ) (p : Span) (t : Option EntityType) →
    k ≡ length g.formals → g.gives ≡ Some t →
    may_call h c g.routine ≡ true → is_exported_to a g ≡ true → judge_name h c Value a (named g) k p ≡ Ok t
name_ok h c a g k p t e f m x =
    simp (required_ok (k == length g.formals) WrongArity p (same_count k (length g.formals) e), f, m, x) refl

has_class : (d : DeclaredType) (c : Option ClassId) (g : Option Tag) → is_some (declared.typed d c g) ≡ true →
    is_some c ≡ true
has_class d None g e = e
has_class d (Some c) g e = refl

tested_ok : (h : RoutineContext) (d : Option DeclaredType) → is_testable h d ≡ true → judge_tested h d ≡ Ok tt
tested_ok h None e = refl
tested_ok h (Some d) e = simp (has_class d (type_class h.system d.class.text) (declared_tag h.formals d.tag) e, e) refl

-- ---- the actuals

-- each was found of its type
pub data AllOk : List JudgedActual → List Typing → Type 0 where
  ok_none : AllOk [] []
  ok_more : {p : Span} {j : Judged Typing} {rs : List JudgedActual} {t : Typing} {ts : List Typing} → j ≡ Ok t →
      AllOk rs ts → AllOk ((p, j) ∷ rs) (t ∷ ts)

pub types_ok : {rs : List JudgedActual} {ts : List Typing} → AllOk rs ts → judged_types rs ≡ types ts
types_ok ok_none = refl
types_ok (ok_more {p} {j} {rs} {t} {ts} e a) = ap (λ j. judged_type j ∷ judged_types rs) e ∙ ap (λ us. t.type ∷ us)
    (types_ok a)

taken_first : (s : System) (t : EntityType) (all : List (Option EntityType)) (fs : List FormalType)
    (a : Option EntityType) (as' : List (Option EntityType)) →
    formals_take s t all fs (a ∷ as') ≡ true → is_taken s t all fs a ≡ true
taken_first s t all [] a as' e = refl
taken_first s t all (f ∷ fs) a as' e = (both (takes_if_any s t all f a) (formals_take s t all fs as') e).0

taken_rest : (s : System) (t : EntityType) (all : List (Option EntityType)) (fs : List FormalType)
    (a : Option EntityType) (as' : List (Option EntityType)) →
    formals_take s t all fs (a ∷ as') ≡ true → formals_take s t all (rest fs) as' ≡ true
taken_rest s t all [] a as' e = refl
taken_rest s t all (f ∷ fs) a as' e = (both (takes_if_any s t all f a) (formals_take s t all fs as') e).1

passes_first : (b v w : Bool) → (b || (v && w)) ≡ true → (b || v) ≡ true
passes_first true v w e = refl
passes_first false true w e = refl
passes_first false false w e = cc

passes_rest : (b v w : Bool) → (b || (v && w)) ≡ true → (b || w) ≡ true
passes_rest true v w e = refl
passes_rest false true w e = e
passes_rest false false w e = cc

pub actuals_ok : (h : RoutineContext) (c : Context) (r : Option EntityType) (t : EntityType)
    (all : List (Option EntityType)) (fs : List FormalType) {rs : List JudgedActual} {ts : List Typing} →
    AllOk rs ts → formals_take h.system t all fs (types ts) ≡ true → passes_values c r (types ts) ≡ true →
    judge_actuals h c r t all fs rs ≡ Ok ts
actuals_ok h c r t all fs ok_none f v = refl
actuals_ok h c r t all fs (ok_more {p} {j} {rs} {t = b} {ts} e a) f v =
    simp (
      e,
      taken_first h.system t all fs b.type (types ts) f,
      passes_first (not (is_require c && is_foreign_type r)) (is_value b.type) (list_all is_value (types ts)) v,
      actuals_ok h c r t all (rest fs) a (taken_rest h.system t all fs b.type (types ts) f)
          (passes_rest (not (is_require c && is_foreign_type r)) (is_value b.type) (list_all is_value (types ts)) v),
    ) refl

called_ok : (h : RoutineContext) (c : Context) (n : Entities) (a : Target) (x : Name) (rs : List JudgedActual)
    (r : Typing) (ts : List Typing) (g : Signature) (t : Option EntityType) →
    meaning_of h n a r.type x ≡ named g → AllOk rs ts →
    formals_take h.system g.target (types ts) g.formals (types ts) ≡ true → passes_values c r.type (types ts) ≡ true →
    length ts ≡ length g.formals → g.gives ≡ Some t → may_call h c g.routine ≡ true → is_exported_to a g ≡ true →
    judge_called h c n Value a x rs r ≡ Ok (typing t (r.is_separate || list_any (λ (b : Typing). b.is_separate) ts))
called_ok h c n a x rs r ts g t e k f v l gi m xp =
    ap (λ m. judge_actuals_and_name h c Value a m x.span rs r) e ∙
    simp (ap (λ all. judge_actuals h c r.type g.target all g.formals rs) (types_ok k) ∙ actuals_ok h c r.type g.target (types ts) g.formals k f v, name_ok h c a g (length ts) x.span t l gi m xp) refl

unseparate : (b : Bool) → (b && false) ≡ false
unseparate true = refl
unseparate false = refl

passes_unresolved : (c : Context) (r : Option EntityType) (ts : List (Option EntityType)) → r ≡ None →
    passes_values c r ts ≡ true
passes_unresolved c r ts e = simp (e, unseparate (is_require c)) refl

unresolved_ok : (h : RoutineContext) (c : Context) (n : Entities) (a : Expr) (x : Name) (rs : List JudgedActual)
    (r : Typing) (ts : List Typing) → r.type ≡ None → AllOk rs ts →
    judge_called h c n Value (target a) x rs r ≡ Ok (typing None (r.is_separate || list_any (λ (b : Typing). b.is_separate) ts))
unresolved_ok h c n a x rs r ts e k =
    ap (λ t. judge_actuals_and_name h c Value (target a) (meaning_of h n (target a) t x) x.span rs r) e ∙
    simp (actuals_ok h c r.type (current h) (judged_types rs) [] k refl (passes_unresolved c r.type (types ts) e)) refl

nothing_given : (h : RoutineContext) (c : Context) (n : Entities) (e : Expr) → may_give e ≡ false →
    judge_given h c n e ≡ Ok n
unfolding judge_given
nothing_given h c n (ObjectTest s d a x) e = cc
nothing_given h c n (Binary s op a b) e = simp e refl
nothing_given h c n f e = refl

mutual
  unfolding judge

  pub typed : {h : RoutineContext} {c : Context} {k : Position} {n : Entities} {e : Expr} {t : Typing} →
      HasType h c k n e t → judge h c k n e ≡ Ok t
  typed number = refl
  typed truth = refl
  typed (void e) = simp e refl
  typed current_object = refl
  typed (result e) = simp e refl
  typed {h} (call {c} {k} {n} {s} {a} {x} {es} {r} {ts} {g} {t} v m e d f p l gi pu xp) =
      simp (received v m, called_ok h c n a x (judged_actuals h c n es) r ts g t e (all_ok d) f p l gi pu xp) refl
  typed {h} (untyped_target_call {c} {k} {n} {s} {a} {x} {es} {r} {ts} v e d) =
      simp (received v (ap may_target e), unresolved_ok h c n a x (judged_actuals h c n es) r ts e (all_ok d)) refl
  typed (unary d o r) = simp (typed d, o, r) refl
  typed (binary j d e r) = simp (j, typed d, typed e, r) refl
  typed (and_then j d g e r) = simp (j, typed d, given g, typed e, r) refl
  typed {h} (test {d} i e) = simp (tested_ok h d i, typed e) refl

  pub received : {h : RoutineContext} {c : Context} {n : Entities} {a : Target} {r : Typing} → HasReceiver h c n a r →
      may_target r.type ≡ true →
      judge_receiver h c n a ≡ Ok r
  received implicit m = refl
  received (explicit {a} {t} d) m = simp (typed d, target_ok (span_of a) t.type m) refl

  pub all_ok : {h : RoutineContext} {c : Context} {n : Entities} {es : Exprs} {ts : List Typing} →
      HasTypes h c n es ts → AllOk (judged_actuals h c n es) ts
  all_ok none = ok_none
  all_ok (more d ds) = ok_more (typed d) (all_ok ds)

  pub given : {h : RoutineContext} {c : Context} {n m : Entities} {e : Expr} → Gives h c n e m →
      judge_given h c n e ≡ Ok m
  given (by_test d) = simp (typed d) refl
  given (by_both i g k) = simp (i, given g, given k) refl
  given {h} (nothing {c} {n} {e} i) = nothing_given h c n e i
