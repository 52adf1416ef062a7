-- Where a rule fails at a type, a name or an actual, judging refuses it.
use Rattle.std.proofs.Common.{◌≡◌, ℕ, zero, suc, ◌==◌, Bool, true, false, List, ◌∷◌, length, Option, Some, None, Ok, Err, refl, ap, sym, ◌∙◌, subst, arith}
use Rattle.std.proofs.lemmas.Option.{slice_get-map}
use Rattle.std.specs.Prelude.{is_some, if◌then◌else◌, slice_get}
use Rattle.std.specs.Option.{option_map, option_map_or}
use Rattle.sc_text.specs.declared.token.Span.{Span}
use Rattle.sc_tree.specs.Plain.{System, DeclaredType, Declaration, Expr, Target, Exprs, no_exprs, expr_then}
use Rattle.sc_class.specs.declared.identity.ClassId.{ClassId}
use Rattle.sc_class.specs.Tables.Conformance.{is_expanded, type_class}
use Rattle.sc_rules.specs.declared.entity_types.tag.Reserved.TheVariants.{Formal, BlockName}
use Rattle.sc_rules.specs.declared.entity_types.tag.Tag.{Tag}
use Rattle.sc_rules.specs.declared.entity_types.tag.Tag.TheVariants as tag
use Rattle.sc_rules.specs.declared.entity_types.entity_type.EntityType.{EntityType}
use Rattle.sc_rules.specs.entity_types.Conformance.{conforms}
use Rattle.sc_rules.specs.declared.entity_types.known.Known.{Known}
use Rattle.sc_rules.specs.entity_types.Combiners.{known_tag, argument_tag, combined_argument}
use Rattle.sc_rules.specs.declared.rule.Rule.{Rule}
use Rattle.sc_rules.specs.declared.rule.Rule.TheVariants.{UnknownName, WrongArity, ArgumentType, TagName, ImpureContract, PreconditionArgument, NotExported}
use Rattle.sc_rules.specs.declared.position.Context.{Context}
use Rattle.sc_rules.specs.declared.position.Position.TheVariants.{Source}
use Rattle.sc_rules.specs.declared.position.Use.{Use}
use Rattle.sc_rules.specs.declared.position.Use.TheVariants.{Value, Instruction}
use Rattle.sc_rules.specs.Types as declared
use Rattle.sc_rules.specs.Types.{declared_tag, declared_type, is_marked, TypeFails, unknown_class, unknown_tag, marked}
use Rattle.sc_rules.specs.Positions.{span_of, is_require}
use Rattle.sc_rules.specs.Names.{RoutineContext, Entities, FormalType, of_expanded, Meaning}
use Rattle.sc_rules.specs.Typing.{typing, is_foreign_type, known_handlers, known_handler, named_formal, takes, may_call, is_exported_to, HasType}
use Rattle.sc_rules.specs.Sites.{IsActual, first_actual, later_actual}
use Rattle.sc_rules.specs.CallRules.{ActualAt, actual_here, actual_later, names_none, names_one, names_missing, Untaken, differs, reference, Mismatches, first_pair, later_pair, AtName, unknown_name, wrong_count, procedure_as_value, query_as_instruction, impure, hidden}
use Rattle.sc_rules.specs.Judging.{Judged, ◌>>=◌, required, judge_type, judged_type, judged_types, is_taken, rest, may_pass, judge_actuals, judge_use, judge_name, judge_operation, judge, judged_actuals}
use Rattle.sc_rules.proofs.Refusals.{Refused, stops, stops_behind, stops_at, unmet}
use Rattle.sc_rules.proofs.Complete.{typed}

-- ---- parts of what is judged

-- what comes first gives something, whatever it is, and what comes behind is refused
pub stops_after : {A B : Type 0} (m : Judged A) (f : A → Judged B) → ((x : A) → m ≡ Ok x → Refused (f x)) →
    Refused (m >>= f)
stops_after (Ok x) f r = r x refl
stops_after (Err e) f r = tt

pub refused_then : {A : Type 0} (b : Bool) (i j : Judged A) → b ≡ true → Refused i → Refused (if b then i else j)
refused_then true i j e r = r
refused_then false i j e r = absurd (cc)

pub refused_else : {A : Type 0} (b : Bool) (i j : Judged A) → b ≡ false → Refused j → Refused (if b then i else j)
refused_else true i j e r = absurd (cc)
refused_else false i j e r = r

pub no_operation : (p : Span) (b : Bool) (o : Option (Option EntityType)) → o ≡ None → Refused (judge_operation p b o)
no_operation p b o e = subst (λ o. Refused (judge_operation p b o)) (sym e) tt

marked_type : (d : DeclaredType) (c : ClassId) (g : Option Tag) → is_expanded c ≡ true → is_marked d ≡ true →
    is_some (declared.typed d (Some c) g) ≡ false
marked_type d c None e f = refl
marked_type d c (Some g) e f = simp (e, f) refl

untagged_type : (d : DeclaredType) (c : Option ClassId) → is_some (declared.typed d c None) ≡ false
untagged_type d None = refl
untagged_type d (Some c) = refl

pub type_refused : {s : System} {formals : List Declaration} {d : DeclaredType} {r : Rule} {p : Span} →
    TypeFails s formals d r p →
    Refused (judge_type s formals d)
type_refused {s} {formals} {d} (unknown_class e) =
    stops (required (is_some (type_class s d.class.text)) UnknownName d.class.span)
    (λ u. required (is_some (declared_type s formals d)) TagName d.span)
    (unmet (is_some (type_class s d.class.text)) UnknownName d.class.span (ap (λ c. is_some c) e))
type_refused {s} {formals} {d} (unknown_tag e) =
    stops_behind (required (is_some (type_class s d.class.text)) UnknownName d.class.span)
    (λ u. required (is_some (declared_type s formals d)) TagName d.span)
    (λ u. unmet (is_some (declared_type s formals d)) TagName d.span
    (ap (λ g. is_some (declared.typed d (type_class s d.class.text) g)) e ∙ untagged_type d (type_class s d.class.text)))
type_refused {s} {formals} {d} (marked {c} e f m) =
    stops_behind (required (is_some (type_class s d.class.text)) UnknownName d.class.span)
    (λ u. required (is_some (declared_type s formals d)) TagName d.span)
    (λ u. unmet (is_some (declared_type s formals d)) TagName d.span
    (ap (λ c. is_some (declared.typed d c (declared_tag formals d.tag))) e ∙ marked_type d c (declared_tag formals d.tag) f m))

-- ---- names

differ : (m n : ℕ) → (m ≡ n → ⊥) → (m == n) ≡ false
differ m n ne = grind arith

pub name_refused : {h : RoutineContext} {c : Context} {a : Target} {u : Use} {m : Meaning} {k : ℕ} {r : Rule} →
    AtName h c a u m k r → (p : Span) →
    Refused (judge_name h c u a m k p)
name_refused unknown_name p = tt
name_refused {h} {c} {a} {u} (wrong_count {g} {k} ne) p =
    stops (required (k == length g.formals) WrongArity p) _ (unmet (k == length g.formals) WrongArity p (differ k (length g.formals) ne))
name_refused {h} {c} {a} (procedure_as_value {g} {k} e) p =
    stops_behind (required (k == length g.formals) WrongArity p) _ (λ w. stops (judge_use Value g.gives p) _ (subst (λ o. Refused (judge_use Value o p)) (sym e) tt))
name_refused {h} {c} {a} (query_as_instruction {g} {k} e) p =
    stops_behind (required (k == length g.formals) WrongArity p) _ (λ w. stops (judge_use Instruction g.gives p) _ (subst (λ o. Refused (judge_use Instruction o p)) (sym e) tt))
name_refused {h} {c} {a} {u} (impure {g} {k} {f} e v i) p =
    stops_behind (required (k == length g.formals) WrongArity p) _ (λ w. stops_behind (judge_use u g.gives p) _
    (λ t. stops (required (may_call h c g.routine) ImpureContract p) _ (unmet (may_call h c g.routine) ImpureContract p (ap (may_call h c) e ∙ simp (v, i) refl))))
name_refused {h} {c} {a} {u} (hidden {g} {k} e i) p =
    stops_behind (required (k == length g.formals) WrongArity p) _ (λ w. stops_behind (judge_use u g.gives p) _
    (λ t. stops_behind (required (may_call h c g.routine) ImpureContract p) _
    (λ w. stops (required (is_exported_to a g) NotExported p) _ (unmet (is_exported_to a g) NotExported p (simp (e, i) refl)))))

-- ---- actuals

-- an actual in which a rule fails is refused, whatever the formals
pub actual_refused : (h : RoutineContext) (c : Context) (n : Entities) {e : Expr} {es : Exprs} → IsActual e es →
    Refused (judge h c Source n e) →
    (r : Option EntityType) (t : EntityType)
    (all : List (Option EntityType)) (fs : List FormalType) →
    Refused (judge_actuals h c r t all fs (judged_actuals h c n es))
unfolding judged_actuals
actual_refused h c n {e} first_actual i r t all fs = stops (judge h c Source n e) _ i
actual_refused h c n (later_actual {d} {es} k) i r t all fs =
    stops_behind (judge h c Source n d) _ (λ b. stops_behind (required (is_taken h.system t all fs b.type) ArgumentType (span_of d)) _
    (λ u. stops_behind (required (may_pass c r b.type) PreconditionArgument (span_of d)) _
    (λ u. stops (judge_actuals h c r t all (rest fs) (judged_actuals h c n es)) _ (actual_refused h c n k i r t all (rest fs)))))

-- a separate call in a precondition that passes a reference
pub reference_refused : {h : RoutineContext} {c : Context} {n : Entities} {e : Expr} {es : Exprs} {a : EntityType}
    {b : Bool} → IsActual e es →
    HasType h c Source n e (typing (Some a) b) →
    is_expanded a.class ≡ false → is_require c ≡ true → (r : Option EntityType) → is_foreign_type r ≡ true →
    (t : EntityType) (all : List (Option EntityType)) (fs : List FormalType) →
    Refused (judge_actuals h c r t all fs (judged_actuals h c n es))
unfolding judged_actuals
reference_refused {h} {c} {n} {e} {a} {b} first_actual d x q r f t all fs =
    stops_at (judge h c Source n e) _ (typing (Some a) b) (typed d)
    (stops_behind (required (is_taken h.system t all fs (Some a)) ArgumentType (span_of e)) _
    (λ u. stops (required (may_pass c r (Some a)) PreconditionArgument (span_of e)) _ (unmet (may_pass c r (Some a)) PreconditionArgument (span_of e) (simp (q, f, x) refl))))
reference_refused {h} {c} {n} (later_actual {d} {es} k) i x q r f t all fs =
    stops_behind (judge h c Source n d) _ (λ b. stops_behind (required (is_taken h.system t all fs b.type) ArgumentType (span_of d)) _
    (λ u. stops_behind (required (may_pass c r b.type) PreconditionArgument (span_of d)) _
    (λ u. stops (judge_actuals h c r t all (rest fs) (judged_actuals h c n es)) _ (reference_refused k i x q r f t all (rest fs)))))

-- the type of the actual at a number was found
found_at : {h : RoutineContext} {c : Context} {n : Entities} {e : Expr} {es : Exprs} {y : ℕ} {t : EntityType}
    {b : Bool} → ActualAt e es y →
    HasType h c Source n e (typing (Some t) b) →
    slice_get (judged_types (judged_actuals h c n es)) y ≡ Some (Some t)
unfolding judged_actuals
found_at {h} {c} {n} (actual_here {es}) d = ap (λ j. Some (judged_type j)) (typed d)
found_at (actual_later k) d = found_at k d

-- nothing was found of an actual that is missing
missing_at : (h : RoutineContext) (c : Context) (n : Entities) (es : Exprs) (y : ℕ) →
    ((e : Expr) → ActualAt e es y → ⊥) → slice_get (judged_types (judged_actuals h c n es)) y ≡ None
unfolding judged_actuals
missing_at h c n no_exprs y f = refl
missing_at h c n (expr_then e es) zero f = absurd (f e actual_here)
missing_at h c n (expr_then e es) (suc y) f = missing_at h c n es y (λ d k. f d (actual_later k))

-- what is combined stays the same where what is known of the formal that is named does
same_tag : (t f : Tag) (ks ls : List Known) → ((y : ℕ) → named_formal f ≡ Some y → slice_get ks y ≡ slice_get ls y) →
    argument_tag t f ks ≡ argument_tag t f ls
same_tag t tag.Own ks ls e = refl
same_tag t tag.Any ks ls e = refl
same_tag t tag.None ks ls e = refl
same_tag t (tag.With (BlockName y)) ks ls e = refl
same_tag t (tag.With (Formal y)) ks ls e = ap (λ o. option_map_or known_tag o tag.None) (e y refl)

same_argument : (t f : EntityType) (ks ls : List Known) →
    ((y : ℕ) → named_formal f.tag ≡ Some y → slice_get ks y ≡ slice_get ls y) →
    combined_argument t f ks ≡ combined_argument t f ls
same_argument t f ks ls e =
    ap (λ g. record { attached = f.attached; tag = if is_expanded f.class then tag.Own else g; class = f.class })
    (same_tag t.tag f.tag ks ls e)

same_name : (o : Option ℕ) (x y : ℕ) → o ≡ Some x → o ≡ Some y → x ≡ y
same_name o x y d e = cc

none_named : (o : Option ℕ) (y : ℕ) → o ≡ None → o ≡ Some y → ⊥
none_named o y d e = cc

untaken_refused : {h : RoutineContext} {c : Context} {n : Entities} {all : Exprs} {t : EntityType} {f : FormalType}
    {a : EntityType} → Untaken h c n all t f a →
    takes h.system t (judged_types (judged_actuals h c n all)) f a ≡ false
untaken_refused {h} {c} {n} {all} {t} {f = of_expanded} (reference x) = x
untaken_refused {h} {c} {n} {all} {t} (differs {f} {a} {ks} (names_none i) e) =
    simp (i, ap (conforms h.system a) (same_argument t f (known_handlers (judged_types (judged_actuals h c n all))) ks (λ y j. absurd (none_named (named_formal f.tag) y i j))), e) refl
untaken_refused {h} {c} {n} {all} {t} (differs {f} {a} {ks} (names_one {y} {e = d} {t = u} i k g l) e) =
    simp (
      i,
      found_at k g,
      ap (conforms h.system a) (same_argument t f (known_handlers (judged_types (judged_actuals h c n all))) ks
          (λ z j. subst (λ z. slice_get (known_handlers (judged_types (judged_actuals h c n all))) z ≡ slice_get ks z) (same_name (named_formal f.tag) y z i j)
          (slice_get-map known_handler (judged_types (judged_actuals h c n all)) y ∙ ap (option_map known_handler) (found_at k g) ∙ sym l))),
      e,
    ) refl
untaken_refused {h} {c} {n} {all} {t} (differs {f} {a} {ks} (names_missing {y} i m l) e) =
    simp (
      i,
      missing_at h c n all y m,
      ap (conforms h.system a) (same_argument t f (known_handlers (judged_types (judged_actuals h c n all))) ks
          (λ z j. subst (λ z. slice_get (known_handlers (judged_types (judged_actuals h c n all))) z ≡ slice_get ks z) (same_name (named_formal f.tag) y z i j)
          (slice_get-map known_handler (judged_types (judged_actuals h c n all)) y ∙ ap (option_map known_handler) (missing_at h c n all y m) ∙ sym l))),
      e,
    ) refl

pub mismatch_refused : {h : RoutineContext} {c : Context} {n : Entities} {all : Exprs} {t : EntityType}
    {fs : List FormalType} {es : Exprs} {p : Span} →
    Mismatches h c n all t fs es p →
    (r : Option EntityType) → Refused (judge_actuals h c r t (judged_types (judged_actuals h c n all)) fs (judged_actuals h c n es))
unfolding judged_actuals
mismatch_refused {h} {c} {n} {all} {t} (first_pair {f} {fs} {e} {es} {a} {b} d u) r =
    stops_at (judge h c Source n e) _ (typing (Some a) b) (typed d)
    (stops (required (takes h.system t (judged_types (judged_actuals h c n all)) f a) ArgumentType (span_of e)) _
    (unmet (takes h.system t (judged_types (judged_actuals h c n all)) f a) ArgumentType (span_of e) (untaken_refused u)))
mismatch_refused {h} {c} {n} {all} {t} (later_pair {f} {fs} {e} {es} {p} m) r =
    stops_behind (judge h c Source n e) _ (λ b. stops_behind (required (is_taken h.system t (judged_types (judged_actuals h c n all)) (f ∷ fs) b.type) ArgumentType (span_of e)) _
    (λ u. stops_behind (required (may_pass c r b.type) PreconditionArgument (span_of e)) _
    (λ u. stops (judge_actuals h c r t (judged_types (judged_actuals h c n all)) fs (judged_actuals h c n es)) _ (mismatch_refused m r))))
