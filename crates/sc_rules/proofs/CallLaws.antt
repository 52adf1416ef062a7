-- In the text of a well-formed system each call stands for a feature that may be called there.
use Rattle.std.proofs.Common.{◌≡◌, ℕ, ◌==◌, Bool, true, false, length, Option, Some, None, refl, subst, arith}
use Rattle.std.specs.Prelude.{not, ◌&&◌, ◌||◌, is_some}
use Rattle.sc_tree.specs.Plain.{System, Name, Expr, Target, no_target, target, Exprs}
use Rattle.sc_class.specs.Tables.Features.{feature_named}
use Rattle.sc_rules.specs.declared.entity_types.entity_type.EntityType.{EntityType}
use Rattle.sc_rules.specs.declared.rule.Rule.{Rule}
use Rattle.sc_rules.specs.declared.position.Context.{Context}
use Rattle.sc_rules.specs.declared.position.Position.TheVariants.{Plain}
use Rattle.sc_rules.specs.declared.position.Use.{Use}
use Rattle.sc_rules.specs.declared.position.Use.TheVariants.{Value, Instruction}
use Rattle.sc_rules.specs.Positions.{wants_pure}
use Rattle.sc_rules.specs.Names.{RoutineName, RoutineContext, Entities, Signature, Meaning, unknown, target_untyped, named, current, entity_named, meaning_of, is_qualified}
use Rattle.sc_rules.specs.Typing.{Typing, typing, simple_typing, is_foreign_type, may_call, HasType, HasReceiver, implicit, explicit}
use Rattle.sc_rules.specs.Sites.{Site, expression, target_part, call_target_part, itself, inside}
use Rattle.sc_rules.specs.Purity.{IsPurity}
use Rattle.sc_rules.specs.CallRules.{count, AtName, unknown_name, wrong_count, procedure_as_value, query_as_instruction, impure, hidden, at_name}
use Rattle.sc_rules.specs.SystemRules.{WellFormed}
use Rattle.sc_rules.specs.SystemLaws.{Stands, stands_in, CallsWith, as_value, as_instruction, is_value_use, MayBeCalled, CallsStand}
use Rattle.sc_rules.proofs.Sound.{resolved_feature, resolved_near}
use Rattle.sc_rules.proofs.WellFormed.{further, none_at, call_fails}
use Rattle.sc_rules.proofs.EachTyped.{each_is_typed_lem}

-- the target of a call stands there too
target_stands : {s : System} {pure : RoutineName → Bool} {h : RoutineContext} {b : Site} {u : Use} {c : Context}
    {n : Entities} {a : Expr} {x : Name} {es : Exprs} →
    CallsWith b u c n (target a) x es → Stands s pure h b → Stands s pure h (expression c Plain n a)
target_stands as_value (stands_in t v) = stands_in t (further v (inside target_part itself))
target_stands as_instruction (stands_in t v) = stands_in t (further v (inside call_target_part itself))

-- the target, with a type if there is an explicit one
abbrev Received : RoutineContext → Context → Entities → Target → Name → Type 0
Received h c n a x = (r : Typing) × HasReceiver h c n a r × (meaning_of h n a r.type x ≡ target_untyped → ⊥)

received : {s : System} {pure : RoutineName → Bool} (h : RoutineContext) {b : Site} {u : Use} {c : Context}
    (n : Entities) (a : Target) (x : Name) {es : Exprs} →
    WellFormed s → IsPurity s pure →
    CallsWith b u c n a x es → Stands s pure h b → Received h c n a x
received h n no_target x w i j v = (simple_typing (current h), implicit, resolved_near h x.text (entity_named x.text n))
received {s} {pure} h {c} n (target a) x w i j v =
    of_type (each_is_typed_lem s pure w i h c Plain n a (target_stands j v))
  where
    of_type : ((t : EntityType) × (b : Bool) × HasType h c Plain n a (typing (Some t) b)) → Received h c n (target a) x
    of_type (t, b, d) = (typing (Some t) (b || is_foreign_type (Some t)), explicit d, resolved_feature h.system t (feature_named h.system t.class x.text))

equal_counts : (m n : ℕ) → (m == n) ≡ true → m ≡ n
equal_counts m n e = grind arith

other_counts : (m n : ℕ) → (m == n) ≡ false → m ≡ n → ⊥
other_counts m n e d = grind arith

-- no rule fails at the name
abbrev pub NoneAtName : RoutineContext → Context → Target → Use → Meaning → ℕ → Type 0
NoneAtName h c a u m k = (q : Rule) → AtName h c a u m k q → ⊥

counted : (h : RoutineContext) (c : Context) (a : Target) (u : Use) (g : Signature) (k : ℕ) →
    NoneAtName h c a u (named g) k → (b : Bool) →
    (k == length g.formals) ≡ b → k ≡ length g.formals
counted h c a u g k f true e = equal_counts k (length g.formals) e
counted h c a u g k f false e = absurd (f _ (wrong_count (other_counts k (length g.formals) e)))

used : (h : RoutineContext) (c : Context) (a : Target) (u : Use) (g : Signature) (k : ℕ) →
    NoneAtName h c a u (named g) k → (o : Option (Option EntityType)) →
    g.gives ≡ o →
    is_some o ≡ is_value_use u
used h c a Value g k f None e = absurd (f _ (procedure_as_value e))
used h c a Value g k f (Some t) e = refl
used h c a Instruction g k f None e = refl
used h c a Instruction g k f (Some t) e = absurd (f _ (query_as_instruction e))

exported : (h : RoutineContext) (c : Context) (a : Target) (u : Use) (g : Signature) (k : ℕ) →
    NoneAtName h c a u (named g) k → (i j : Bool) → is_qualified a ≡ i →
    g.is_secret ≡ j →
    not (i && j) ≡ true
exported h c a u g k f true true d e = absurd (f _ (hidden d e))
exported h c a u g k f true false d e = refl
exported h c a u g k f false j d e = refl

pure_where : (h : RoutineContext) (c : Context) (a : Target) (u : Use) (g : Signature) (k : ℕ) →
    NoneAtName h c a u (named g) k → (o : Option RoutineName) →
    g.routine ≡ o → may_call h c o ≡ true
pure_where h c a u g k f None e = refl
pure_where h c a u g k f (Some x) e = by_purity (wants_pure c) (h.pure x) refl refl
  where
    by_purity : (i j : Bool) → wants_pure c ≡ i → h.pure x ≡ j → (not i || j) ≡ true
    by_purity true true d l = refl
    by_purity true false d l = absurd (f _ (impure e d l))
    by_purity false j d l = refl

pub may_be_called : (h : RoutineContext) (c : Context) (a : Target) (u : Use) (g : Signature) (es : Exprs) →
    NoneAtName h c a u (named g) (count es) →
    MayBeCalled h c u a es g
may_be_called h c a u g es f = record {
  as_many_actuals = counted h c a u g (count es) f (count es == length g.formals) refl;
  used_as_it_is = used h c a u g (count es) f g.gives refl;
  is_exported = exported h c a u g (count es) f (is_qualified a) g.is_secret refl refl;
  pure_where_asked = pure_where h c a u g (count es) f g.routine refl;
}

pub calls_stand_lem : CallsStand
calls_stand_lem s pure w i h b u c n a x es v j = of_target (received h n a x w i j v)
  where
    of_target : Received h c n a x → (r : Typing) × (g : Signature) × HasReceiver h c n a r ×
        (meaning_of h n a r.type x ≡ named g) × MayBeCalled h c u a es g
    of_target (r, d, k) = of_meaning (meaning_of h n a r.type x) refl
      where
        none_there : NoneAtName h c a u (meaning_of h n a r.type x) (count es)
        none_there q f = none_at w i v q x.span (call_fails j q x.span (at_name d f))

        of_meaning : (m : Meaning) → meaning_of h n a r.type x ≡ m →
            (r : Typing) × (g : Signature) × HasReceiver h c n a r × (meaning_of h n a r.type x ≡ named g) ×
            MayBeCalled h c u a es g
        of_meaning unknown e = absurd (subst (λ m. NoneAtName h c a u m (count es)) e none_there _ unknown_name)
        of_meaning target_untyped e = absurd (k e)
        of_meaning (named g) e = (r, g, d, e, may_be_called h c a u g es (subst (λ m. NoneAtName h c a u m (count es)) e none_there))
