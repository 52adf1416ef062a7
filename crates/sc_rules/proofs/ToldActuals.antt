-- What judging finds of types, operators, targets and actuals is so, and the rule that it answers fails at its place.
use Rattle.std.proofs.Common.{◌≡◌, ℕ, zero, suc, Bool, true, false, List, [], ◌∷◌, Option, Some, None, Ok, refl}
use Rattle.std.specs.Prelude.{not, ◌&&◌, ◌||◌, is_some, slice_get}
use Rattle.std.specs.List.{list_all}
use Rattle.sc_text.specs.declared.token.Span.{Span}
use Rattle.sc_tree.specs.declared.expression.UnaryOperator.{UnaryOperator}
use Rattle.sc_tree.specs.Plain.{System, DeclaredType, Declaration, Name, Expr, Unary, Target, target, Exprs, no_exprs, expr_then}
use Rattle.sc_class.specs.declared.identity.ClassId.{ClassId}
use Rattle.sc_class.specs.Tables.Conformance.{is_expanded, type_class}
use Rattle.sc_rules.specs.declared.entity_types.tag.Tag.{Tag}
use Rattle.sc_rules.specs.declared.entity_types.entity_type.EntityType.{EntityType}
use Rattle.sc_rules.specs.entity_types.Conformance.{conforms}
use Rattle.sc_rules.specs.entity_types.Combiners.{known_of, combined_argument}
use Rattle.sc_rules.specs.declared.rule.Rule.{Rule}
use Rattle.sc_rules.specs.declared.rule.Rule.TheVariants.{UnknownName, ArgumentType, TargetDetachable, TargetUncontrolled, OperatorType, TagName, PreconditionArgument, OldPlace}
use Rattle.sc_rules.specs.declared.position.Context.{Context}
use Rattle.sc_rules.specs.declared.position.Position.{Position}
use Rattle.sc_rules.specs.declared.position.Position.TheVariants.{Plain, Source}
use Rattle.sc_rules.specs.declared.position.Use.{Use}
use Rattle.sc_rules.specs.Types as declared
use Rattle.sc_rules.specs.Types.{declared_tag, declared_type, is_marked, TypeFails, unknown_class, unknown_tag, marked, is_controlled_tag}
use Rattle.sc_rules.specs.Positions.{span_of, is_old, is_require, is_ensure, operand_context}
use Rattle.sc_rules.specs.Names.{RoutineContext, Entities, FormalType, of_type, of_none, of_expanded}
use Rattle.sc_rules.specs.Typing.{Typing, typing, types, may_target, is_foreign_type, known_handlers, named_formal, is_untyped, names_untyped, takes, takes_if_any, formals_take, is_value, passes_values, is_testable, HasType, HasTypes, none, more}
use Rattle.sc_rules.specs.Sites.{Site, expression, IsActual, first_actual, later_actual, Part, itself, inside}
use Rattle.sc_rules.specs.CallRules.{ActualAt, actual_here, actual_later, IsKnown, names_none, names_one, names_missing, Untaken, differs, reference, Mismatches, first_pair, later_pair, CallFails, detachable, uncontrolled}
use Rattle.sc_rules.specs.TextRules.{ExpressionFails, old_outside, old_over_separate, at_expression, Fails, fails}
use Rattle.sc_rules.specs.Judging.{Judged, ◌>>=◌, required, judge_type, judge_tested, judge_target, JudgedActual, judged_type, judged_types, is_taken, rest, may_pass, judge_actuals, judge_operation}
use Rattle.sc_rules.proofs.Refusals.{Gave, gave, refuses, gave_then, gave_more, gave_map, gave_required}
use Rattle.sc_rules.proofs.Complete.{AllOk, ok_none, ok_more}

-- what judging an expression tells
abbrev pub Told : RoutineContext → Context → Position → Entities → Expr → Judged Typing → Type 0
Told h c k n e = Gave (λ t. HasType h c k n e t) (Fails h (expression c k n e))

-- where a rule fails in a part, it does in the whole
pub up : {h : RoutineContext} {a b : Site} → Part h a b → (r : Rule) (p : Span) → Fails h b r p → Fails h a r p
up d r p (fails w f) = fails (inside d w) f

pub here : {h : RoutineContext} {c : Context} {k : Position} {n : Entities} {e : Expr} {r : Rule} {p : Span} →
    ExpressionFails h c k n e r p →
    Fails h (expression c k n e) r p
here f = fails itself (at_expression f)

-- ---- declared types

none_of : {A : Type 0} (o : Option A) → is_some o ≡ false → o ≡ None
none_of None e = refl
none_of (Some x) e = cc

no_type : (s : System) (formals : List Declaration) (d : DeclaredType) (c : Option ClassId) (g : Option Tag) →
    type_class s d.class.text ≡ c →
    declared_tag formals d.tag ≡ g → is_some c ≡ true → is_some (declared.typed d c g) ≡ false →
    TypeFails s formals d TagName d.span
no_type s formals d None g e f i j = cc
no_type s formals d (Some c) None e f i j = unknown_tag f
no_type s formals d (Some c) (Some g) e f i j = by_mark (is_expanded c) (is_marked d) refl refl
  where
    by_mark : (a b : Bool) → is_expanded c ≡ a → is_marked d ≡ b → TypeFails s formals d TagName d.span
    by_mark true true k l = marked e k l
    by_mark true false k l = absurd (cc)
    by_mark false b k l = absurd (cc)

pub told_type : (s : System) (formals : List Declaration) (d : DeclaredType) →
    Gave (λ (u : Unit {0}). is_some (declared_type s formals d) ≡ true) (TypeFails s formals d) (judge_type s formals d)
told_type s formals d =
    gave_then (λ u. required (is_some (declared_type s formals d)) TagName d.span)
    (gave_required (TypeFails s formals d) (is_some (type_class s d.class.text)) UnknownName d.class.span (λ e. unknown_class (none_of (type_class s d.class.text) e)))
    (λ u i. gave_required (TypeFails s formals d) (is_some (declared_type s formals d)) TagName d.span
    (λ e. no_type s formals d (type_class s d.class.text) (declared_tag formals d.tag) refl refl i e))

pub told_tested : (h : RoutineContext) (d : Option DeclaredType) → Gave (λ (u : Unit {0}). is_testable h d ≡ true)
    (λ r p. (t : DeclaredType) × (d ≡ Some t) × TypeFails h.system h.formals t r p) (judge_tested h d)
told_tested h None = gave refl
told_tested h (Some d) = gave_more (λ r p f. (d, refl, f)) (told_type h.system h.formals d)

-- ---- operators

pub operated_told : {Q : Typing → Type 0} {P : Rule → Span → Type 0} (p : Span) (b : Bool)
    (o : Option (Option EntityType)) → (o ≡ None → P OperatorType p) →
    ((r : Option EntityType) → o ≡ Some r → Q (typing r b)) → Gave Q P (judge_operation p b o)
operated_told p b None f g = refuses (f refl)
operated_told p b (Some r) f g = gave (g r refl)

pub old_fails : (h : RoutineContext) (c : Context) (k : Position) (n : Entities) (s : Span) (op : UnaryOperator) (a : Expr)
    (t : Option EntityType) (o e b : Bool) →
    is_old op ≡ o →
    is_ensure c ≡ e → HasType h (operand_context op c) Plain n a (typing t b) → (not o || (e && not b)) ≡ false →
    ExpressionFails h c k n (Unary s op a) OldPlace s
old_fails h c k n s op a t true true true i j d f = old_over_separate i d
old_fails h c k n s op a t true true false i j d f = cc
old_fails h c k n s op a t true false b i j d f = old_outside i j
old_fails h c k n s op a t false e b i j d f = cc

-- ---- targets

-- in the target of a call, or at it
pub data TargetFails (h : RoutineContext) (c : Context) (n : Entities) : Target → Rule → Span → Type 0 where
  in_target : {a : Expr} {r : Rule} {p : Span} → Fails h (expression c Plain n a) r p → TargetFails h c n (target a) r p
  at_target : {a : Expr} {r : Rule} {p : Span} →
      ((u : Use) (x : Name) (es : Exprs) → CallFails h c n u (target a) x es r p) → TargetFails h c n (target a) r p

both_true : (a b : Bool) → a ≡ true → b ≡ true → (a && b) ≡ true
both_true true b d e = e
both_true false b d e = d

pub target_told : (h : RoutineContext) (c : Context) (n : Entities) (a : Expr) (o : Option EntityType) (b : Bool) →
    HasType h c Plain n a (typing o b) →
    Gave (λ (u : Unit {0}). may_target o ≡ true) (TargetFails h c n (target a)) (judge_target (span_of a) o)
target_told h c n a None b d = gave refl
target_told h c n a (Some t) b d =
    gave_then (λ u. required (is_controlled_tag t.tag) TargetUncontrolled (span_of a))
    (gave_required (TargetFails h c n (target a)) t.attached TargetDetachable (span_of a) (λ e. at_target (λ u x es. detachable d e)))
    (λ u i. gave_map (λ u j. both_true t.attached (is_controlled_tag t.tag) i j)
    (gave_required (TargetFails h c n (target a)) (is_controlled_tag t.tag) TargetUncontrolled (span_of a) (λ e. at_target (λ u x es. uncontrolled d e))))

-- ---- actuals

-- each was judged, and this was told of it
pub data AllTold (h : RoutineContext) (c : Context) (n : Entities) : Exprs → List JudgedActual → Type 0 where
  told_none : AllTold h c n no_exprs []
  told_more : {e : Expr} {es : Exprs} {j : Judged Typing} {rs : List JudgedActual} → Told h c Source n e j →
      AllTold h c n es rs →
      AllTold h c n (expr_then e es) ((span_of e, j) ∷ rs)

-- in an actual or at one; `all` are the actuals of the call, of which these are the last
pub data ActualsFail (h : RoutineContext) (c : Context) (n : Entities) (r : Option EntityType) (all : Exprs)
    (t : EntityType) (fs : List FormalType) (es : Exprs) : Rule → Span → Type 0 where
  in_actual : {e : Expr} {q : Rule} {p : Span} → IsActual e es → Fails h (expression c Source n e) q p →
      ActualsFail h c n r all t fs es q p
  mismatch : {p : Span} → Mismatches h c n all t fs es p → ActualsFail h c n r all t fs es ArgumentType p
  passed_reference : {e : Expr} {a : EntityType} {b : Bool} → is_require c ≡ true → is_foreign_type r ≡ true →
      IsActual e es →
      HasType h c Source n e (typing (Some a) b) →
      is_expanded a.class ≡ false → ActualsFail h c n r all t fs es PreconditionArgument (span_of e)

later_fails : {h : RoutineContext} {c : Context} {n : Entities} {r : Option EntityType} {all : Exprs} {t : EntityType}
    (fs : List FormalType) (e : Expr) (es : Exprs) (q : Rule) (p : Span) →
    ActualsFail h c n r all t (rest fs) es q p → ActualsFail h c n r all t fs (expr_then e es) q p
later_fails fs e es q p (in_actual i f) = in_actual (later_actual i) f
later_fails [] e es q p (mismatch m) = elim (m) [ ]
later_fails (f ∷ fs) e es q p (mismatch m) = mismatch (later_pair m)
later_fails fs e es q p (passed_reference i j k d x) = passed_reference i j (later_actual k) d x

-- where something is known of the actual at a number, there is one of that type
pub record KnownAt (h : RoutineContext) (c : Context) (n : Entities) (es : Exprs) (rs : List JudgedActual)
    (y : ℕ) : Type 0 where
  pub actual : Expr
  pub type : EntityType
  pub is_separate : Bool
  pub stands_there : ActualAt actual es y
  pub typed_so : HasType h c Source n actual (typing (Some type) is_separate)
  pub known_so : slice_get (known_handlers (judged_types rs)) y ≡ Some (known_of type.tag)

-- what is known of the actual at a number, where one is there that has a type, or none is there
pub data Knows (h : RoutineContext) (c : Context) (n : Entities) (es : Exprs) (rs : List JudgedActual) (y : ℕ) :
    Type 0 where
  knows_type : KnownAt h c n es rs y → Knows h c n es rs y
  knows_missing : ((e : Expr) → ActualAt e es y → ⊥) → slice_get (known_handlers (judged_types rs)) y ≡ None →
      Knows h c n es rs y

first_known : (h : RoutineContext) (c : Context) (n : Entities) (e : Expr) (es : Exprs) (rs : List JudgedActual)
    (j : Judged Typing) → Told h c Source n e j →
    is_untyped (Some (judged_type j)) ≡ false → Knows h c n (expr_then e es) ((span_of e, j) ∷ rs) zero
first_known h c n e es rs j (gave {x} d) i = of_type_of x.type x.is_separate d i
  where
    of_type_of : (o : Option EntityType) (b : Bool) → HasType h c Source n e (typing o b) →
        is_untyped (Some o) ≡ false →
        Knows h c n (expr_then e es) ((span_of e, Ok (typing o b)) ∷ rs) zero
    of_type_of None b d i = cc
    of_type_of (Some t) b d i = knows_type (record { actual = e; type = t; is_separate = b; stands_there = actual_here; typed_so = d; known_so = refl })
first_known h c n e es rs j (refuses f) i = cc

known_further : {h : RoutineContext} {c : Context} {n : Entities} {es : Exprs} {rs : List JudgedActual} {y : ℕ}
    (e : Expr) (j : Judged Typing) → Knows h c n es rs y →
    Knows h c n (expr_then e es) ((span_of e, j) ∷ rs) (suc y)
known_further e j (knows_type k) =
    knows_type (record { actual = k.actual; type = k.type; is_separate = k.is_separate; stands_there = actual_later k.stands_there; typed_so = k.typed_so; known_so = k.known_so })
known_further {h} {c} {n} {es} {rs} {y} e j (knows_missing m k) = knows_missing none_further k
  where
    none_further : (d : Expr) → ActualAt d (expr_then e es) (suc y) → ⊥
    none_further d (actual_later i) = m d i

no_actual : {y : ℕ} (e : Expr) → ActualAt e no_exprs y → ⊥
no_actual e i = elim (i) [ ]

known_at : {h : RoutineContext} {c : Context} {n : Entities} {es : Exprs} {rs : List JudgedActual} →
    AllTold h c n es rs → (y : ℕ) →
    is_untyped (slice_get (judged_types rs) y) ≡ false →
    Knows h c n es rs y
known_at told_none y i = knows_missing no_actual refl
known_at {h} {c} {n} (told_more {e} {es} {j} {rs} d a) zero i = first_known h c n e es rs j d i
known_at (told_more {e} {es} {j} {rs} d a) (suc y) i = known_further e j (known_at a y i)

-- a formal that is judged names no other, or one whose actual has a type or is missing
told_known : {h : RoutineContext} {c : Context} {n : Entities} {all : Exprs} {rs : List JudgedActual} →
    AllTold h c n all rs → (f : EntityType) (o : Option ℕ) →
    named_formal f.tag ≡ o →
    names_untyped (judged_types rs) o ≡ false → IsKnown h c n all f (known_handlers (judged_types rs))
told_known a f None e i = names_none e
told_known {h} {c} {n} {all} {rs} a f (Some y) e i = from_actual (known_at a y i)
  where
    from_actual : Knows h c n all rs y → IsKnown h c n all f (known_handlers (judged_types rs))
    from_actual (knows_type k) = names_one e k.stands_there k.typed_so k.known_so
    from_actual (knows_missing m k) = names_missing e m k

untaken : {h : RoutineContext} {c : Context} {n : Entities} {all : Exprs} {rs : List JudgedActual} →
    AllTold h c n all rs → (t : EntityType) (f : FormalType) (a : EntityType) →
    takes h.system t (judged_types rs) f a ≡ false → Untaken h c n all t f a
untaken a t of_none b e = cc
untaken a t of_expanded b e = reference e
untaken {h} {c} {n} {all} {rs} a t (of_type f) b e =
    of_both (names_untyped (judged_types rs) (named_formal f.tag))
    (conforms h.system b (combined_argument t f (known_handlers (judged_types rs)))) refl refl e
  where
    of_both : (i j : Bool) → names_untyped (judged_types rs) (named_formal f.tag) ≡ i →
        conforms h.system b (combined_argument t f (known_handlers (judged_types rs))) ≡ j →
        (i || j) ≡ false → Untaken h c n all t (of_type f) b
    of_both false true k l e = cc
    of_both false false k l e = differs (told_known a f (named_formal f.tag) refl k) l
    of_both true j k l e = cc

-- the actual isn't taken by its formal
not_taken : {h : RoutineContext} {c : Context} {n : Entities} {all : Exprs} {rs : List JudgedActual}
    (r : Option EntityType) → AllTold h c n all rs →
    (t : EntityType) (fs : List FormalType) (e : Expr) (es : Exprs)
    (o : Option EntityType) (b : Bool) → HasType h c Source n e (typing o b) →
    is_taken h.system t (judged_types rs) fs o ≡ false →
    ActualsFail h c n r all t fs (expr_then e es) ArgumentType (span_of e)
not_taken r a t [] e es o b d i = cc
not_taken r a t (f ∷ fs) e es None b d i = cc
not_taken r a t (f ∷ fs) e es (Some x) b d i = mismatch (first_pair d (untaken a t f x i))

-- a reference that a separate call in a precondition passes
not_passed : (h : RoutineContext) (c : Context) (n : Entities) (r : Option EntityType) (all : Exprs) (t : EntityType)
    (fs : List FormalType) (e : Expr) (es : Exprs)
    (o : Option EntityType) (b : Bool) → HasType h c Source n e (typing o b) → (i j k : Bool) → is_require c ≡ i →
    is_foreign_type r ≡ j → is_value o ≡ k →
    (not (i && j) || k) ≡ false → ActualsFail h c n r all t fs (expr_then e es) PreconditionArgument (span_of e)
not_passed h c n r all t fs e es None b d i j k l m x f = missing i j k x f
  where
    missing : (i j k : Bool) → true ≡ k → (not (i && j) || k) ≡ false →
        ActualsFail h c n r all t fs (expr_then e es) PreconditionArgument (span_of e)
    missing true true k x f = cc
    missing true false k x f = cc
    missing false j k x f = cc
not_passed h c n r all t fs e es (Some a) b d true true true l m x f = cc
not_passed h c n r all t fs e es (Some a) b d true true false l m x f = passed_reference l m first_actual d x
not_passed h c n r all t fs e es (Some a) b d true false k l m x f = cc
not_passed h c n r all t fs e es (Some a) b d false j k l m x f = cc

-- what judging the actuals, or the last of them, tells
pub record ActualsFit (h : RoutineContext) (c : Context) (n : Entities) (r : Option EntityType)
    (ts : List (Option EntityType)) (t : EntityType) (fs : List FormalType)
    (es : Exprs) (rs : List JudgedActual) (bs : List Typing) : Type 0 where
  pub typed_all : HasTypes h c n es bs
  pub found_all : AllOk rs bs
  pub fits : formals_take h.system t ts fs (types bs) ≡ true
  pub passes : passes_values c r (types bs) ≡ true

nothing_passed : (b : Bool) → (b || true) ≡ true
nothing_passed true = refl
nothing_passed false = refl

first_fits : (s : System) (t : EntityType) (all : List (Option EntityType)) (fs : List FormalType)
    (a : Option EntityType) (as' : List (Option EntityType)) →
    is_taken s t all fs a ≡ true → formals_take s t all (rest fs) as' ≡ true → formals_take s t all fs (a ∷ as') ≡ true
first_fits s t all [] a as' d e = refl
first_fits s t all (f ∷ fs) a as' d e = both_true (takes_if_any s t all f a) (formals_take s t all fs as') d e

first_passes : (b v w : Bool) → (b || v) ≡ true → (b || w) ≡ true → (b || (v && w)) ≡ true
first_passes true v w d e = refl
first_passes false true w d e = e
first_passes false false w d e = d

pub told_actuals : {h : RoutineContext} {c : Context} {n : Entities} {all : Exprs} {as' : List JudgedActual}
    (r : Option EntityType) → AllTold h c n all as' →
    (t : EntityType) (fs : List FormalType) {es : Exprs}
    {rs : List JudgedActual} → AllTold h c n es rs →
    Gave (ActualsFit h c n r (judged_types as') t fs es rs) (ActualsFail h c n r all t fs es)
    (judge_actuals h c r t (judged_types as') fs rs)
told_actuals {h} {c} {as' =
    as'} r a t fs told_none = gave (record { typed_all = none; found_all = ok_none; fits = no_actuals fs; passes = nothing_passed (not (is_require c && is_foreign_type r)) })
  where
    no_actuals : (fs : List FormalType) → formals_take h.system t (judged_types as') fs [] ≡ true
    no_actuals [] = refl
    no_actuals (f ∷ fs) = refl
told_actuals {h} {c} {n} {all} {as'} r a t fs (told_more {e} {es} {j} {rs} d k) =
    of_actual j d (told_actuals r a t (rest fs) k)
  where
    of_actual : (j : Judged Typing) → Told h c Source n e j →
        Gave (ActualsFit h c n r (judged_types as') t (rest fs) es rs) (ActualsFail h c n r all t (rest fs) es)
        (judge_actuals h c r t (judged_types as') (rest fs) rs) →
        Gave (ActualsFit h c n r (judged_types as') t fs (expr_then e es) ((span_of e, j) ∷ rs))
        (ActualsFail h c n r all t fs (expr_then e es))
        (judge_actuals h c r t (judged_types as') fs ((span_of e, j) ∷ rs))
    of_actual j (refuses f) g = refuses (in_actual first_actual f)
    of_actual j (gave {x} d) g =
        gave_then (λ u. required (may_pass c r x.type) PreconditionArgument (span_of e) >>= λ u. judge_actuals h c r t (judged_types as') (rest fs) rs >>= λ bs. Ok (x ∷ bs))
        (gave_required (ActualsFail h c n r all t fs (expr_then e es)) (is_taken h.system t (judged_types as') fs x.type) ArgumentType (span_of e)
        (λ i. not_taken r a t fs e es x.type x.is_separate d i))
        (λ u i. gave_then (λ u. judge_actuals h c r t (judged_types as') (rest fs) rs >>= λ bs. Ok (x ∷ bs))
        (gave_required (ActualsFail h c n r all t fs (expr_then e es)) (may_pass c r x.type) PreconditionArgument (span_of e)
        (λ v. not_passed h c n r all t fs e es x.type x.is_separate d (is_require c) (is_foreign_type r) (is_value x.type) refl refl refl v))
        (λ u v. gave_then (λ bs. Ok (x ∷ bs)) (gave_more (λ q p f. later_fails fs e es q p f) g)
        (λ bs b. gave (record {
          typed_all = more d b.typed_all;
          found_all = ok_more refl b.found_all;
          fits = first_fits h.system t (judged_types as') fs x.type (types bs) i b.fits;
          passes = first_passes (not (is_require c && is_foreign_type r)) (is_value x.type)
              (list_all is_value (types bs)) v b.passes;
        }))))
