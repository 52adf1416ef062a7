-- What an expression of a contract or of a pure function calls without a target is pure.
use Rattle.std.proofs.Common.{◌≡◌, ◌||◌, ℕ, Bool, true, false, not, List, [], ◌∷◌, ◌++◌, Option, Some, None, refl, sym, ap, subst, ◌∙◌}
use Rattle.std.specs.Prelude.{if◌then◌else◌, Contains}
use Rattle.std.proofs.lemmas.List.Elements.{Contains-append_left, Contains-append_right, Contains-push}
use Rattle.sc_text.specs.declared.token.Span.{Span}
use Rattle.sc_tree.specs.declared.expression.UnaryOperator.{UnaryOperator}
use Rattle.sc_tree.specs.declared.expression.UnaryOperator.TheVariants as unary
use Rattle.sc_tree.specs.declared.expression.BinaryOperator.{BinaryOperator}
use Rattle.sc_tree.specs.declared.expression.BinaryOperator.TheVariants as binary
use Rattle.sc_tree.specs.Plain as tree
use Rattle.sc_tree.specs.Plain.{System, FeatureKind, RoutineDeclaration, Clause, Name, Expr, Exprs}
use Rattle.sc_tree.specs.Properties.{is_print}
use Rattle.sc_class.specs.declared.identity.ClassId.TheVariants as class
use Rattle.sc_class.specs.Faults.Scopes.{tests_of, ExprClashes, in_target, in_actuals, in_operand, in_left, in_right, in_tested, test_name, in_target_value, ExprsClash, in_first, in_others, ConditionClashes, in_whole, in_left_test, in_right_test}
use Rattle.sc_class.specs.Tables.Features.{DeclaredFeature, feature_named}
use Rattle.sc_rules.specs.declared.entity_types.entity_type.EntityType.{EntityType}
use Rattle.sc_rules.specs.declared.position.Context.{Context}
use Rattle.sc_rules.specs.declared.position.Position.{Position}
use Rattle.sc_rules.specs.declared.position.Position.TheVariants.{Plain, Source, Condition}
use Rattle.sc_rules.specs.declared.position.Role.TheVariants as role
use Rattle.sc_rules.specs.Names.{RoutineName, RoutineContext, Entity, Entities, entity, entity_named, context_of, current, test_type, Signature, named, meaning_of, meaning_of_feature, feature_meaning, entity_or, print_signature, routine_of, signature_of, signature_of_kind}
use Rattle.sc_rules.specs.Positions.{is_and_then, is_condition, wants_pure, operand_context, operand_position, shares_names}
use Rattle.sc_rules.specs.Sites.{Site, expression, IsActual, first_actual, later_actual, Part, target_part, actual_part, operand_part, left_part, right_part, joined_left_part, joined_right_part, tested_part, Within, itself, inside}
use Rattle.sc_rules.specs.Typing as typing
use Rattle.sc_rules.specs.Typing.{Typing, typing, may_call, HasType, number, truth, void, current_object, result, call, untyped_target_call, and_then, test, implicit, explicit, HasTypes, none, more, Gives, by_test, by_both, nothing}
use Rattle.sc_rules.proofs.OldOperands.{below_wants_pure}
use Rattle.sc_machine_laws.proofs.Texts.{OfExpr, OfExprs, OfClauses}
use Rattle.sc_machine_laws.proofs.FreeNames.{Apart, CallsPure, Covers, apart_more, covers_more, found_free, is_routine, same_some, unlike_free}

-- ---- where names clash

-- no name clashes in the expression
abbrev pub Unclashing : Bool → List Name → Expr → Type 0
Unclashing true known e = (p : Span) → ConditionClashes known e p → ⊥
Unclashing false known e = (p : Span) → ExprClashes known e p → ⊥

plainly : (b : Bool) (known : List Name) (e : Expr) → Unclashing b known e → (p : Span) → ExprClashes known e p → ⊥
plainly true known e f p c = f p (in_whole c)
plainly false known e f p c = f p c

plain_operand : (op : BinaryOperator) → is_condition (operand_position op) ≡ false
plain_operand binary.Equal = refl
plain_operand binary.NotEqual = refl
plain_operand op = refl

operand_free : (op : BinaryOperator) (known : List Name) (e : Expr) → ((p : Span) → ExprClashes known e p → ⊥) → Unclashing (is_condition (operand_position op)) known e
operand_free op known e f = subst (λ b. Unclashing b known e) (sym (plain_operand op)) f

left_free : (q : Span) (op : BinaryOperator) (known : List Name) (a b : Expr) → is_and_then op ≡ true → Unclashing true known (tree.Binary q op a b) → Unclashing true known a
left_free q binary.AndThen known a b e f p c = f p (in_left_test c)
left_free q op known a b e f p c = cc

right_free : (q : Span) (op : BinaryOperator) (known : List Name) (a b : Expr) → is_and_then op ≡ true → Unclashing true known (tree.Binary q op a b) →
    Unclashing true (known ++ tests_of a) b
right_free q binary.AndThen known a b e f p c = f p (in_right_test c)
right_free q op known a b e f p c = cc

joins : (k : Position) (op : BinaryOperator) → shares_names k op ≡ true → (is_condition k ≡ true) × (is_and_then op ≡ true)
joins Condition op e = (refl, e)
joins Plain op e = cc
joins Source op e = cc

pub within_then : {h : RoutineContext} {a b c : Site} → Within h a b → Part h b c → Within h a c
within_then itself p = inside p itself
within_then (inside q w) p = inside q (within_then w p)

module _ (s : System) (pure : RoutineName → Bool) (k : ℕ) (routine : RoutineDeclaration) where
  abbrev pub h : RoutineContext
  h = context_of s pure k routine

  -- what a condition gives is apart from features
  pub gives_apart : {c : Context} {n m : Entities} {e : Expr} → Gives h c n e m → (known : List Name) → Covers s k known → Unclashing true known e → Apart s k n → Apart s k m
  gives_apart {n} (by_test {d} {x} {t} i) known c f a =
      apart_more s k n (entity x.text (test_type h d t.type) role.Test ∷ []) a (unlike_free s k known x c (λ p z. f p (in_whole (test_name z))), tt)
  gives_apart (by_both {s = q} {op} {a = l} {b = r} j g g') known c f a =
      gives_apart g' (known ++ tests_of l) (covers_more s k known (tests_of l) c) (right_free q op known l r j f)
      (gives_apart g known c (left_free q op known l r j f) a)
  gives_apart (nothing e) known c f a = a

  -- ---- expressions

  -- The feature is called without a target by a name that is no entity.
  of_feature : (x : List ℕ) (g : Signature) (t : Option EntityType) (f : DeclaredFeature) → feature_named s (class.Declared k) x ≡ Some f → is_routine f.feature.kind ≡ true →
      g.gives ≡ Some t → feature_meaning h x ≡ named g → g.routine ≡ Some (routine_of f)
  of_feature x g t f e is gives m = by (is_print x) m
    where
      same : {a b : Signature} → named a ≡ named b → a ≡ b
      same e = cc

      named_routine : (kind : FeatureKind) → is_routine kind ≡ true → (signature_of_kind s (current h) f kind).routine ≡ Some (routine_of f)
      named_routine (tree.Attribute d) is = cc
      named_routine (tree.Routine r) is = refl

      by : (b : Bool) → (if b then named (print_signature h) else meaning_of_feature s (current h) (feature_named s (class.Declared k) x)) ≡ named g →
          g.routine ≡ Some (routine_of f)
      by true m = let z : None ≡ Some t = ap (λ (g : Signature). g.gives) (same m) ∙ gives in cc
      by false m =
          let z : signature_of s (current h) f ≡ g = same (sym (ap (meaning_of_feature s (current h)) e) ∙ m) in
          sym (ap (λ (g : Signature). g.routine) z) ∙ named_routine f.feature.kind is

  module _ (I : Context → Position → Entities → Expr → Type 0)
      (part : (c d : Context) (q r : Position) (n m : Entities) (e a : Expr) → I c q n e → Part h (expression c q n e) (expression d r m a) → I d r m a)
      (pure_of : (c : Context) (q : Position) (n : Entities) (z : Span) (x : Name) (es : Exprs) (g : Signature) → I c q n (tree.Call z tree.no_target x es) →
      meaning_of h n tree.no_target (Some (current h)) x ≡ named g → may_call h c g.routine ≡ true → (r : RoutineName) → g.routine ≡ Some r → pure r ≡ true) where
    call_pure : {c : Context} {q : Position} {n : Entities} {z : Span} {x : Name} {es : Exprs} {g : Signature} {t : Option EntityType} → I c q n (tree.Call z tree.no_target x es) →
        meaning_of h n tree.no_target (Some (current h)) x ≡ named g → may_call h c g.routine ≡ true → g.gives ≡ Some t → Apart s k n → CallsPure s pure k x.text
    call_pure {c} {q} {n} {z} {x} {es} {g} {t} i m may gives a f e is = by (entity_named x.text n) refl
      where
        by : (o : Option Entity) → entity_named x.text n ≡ o → pure (routine_of f) ≡ true
        by (Some y) j = absurd (found_free s k x.text n y j a f e)
        by None j = pure_of c q n z x es g i m may (routine_of f) (of_feature x.text g t f e is gives (sym (ap (entity_or h x.text) j) ∙ m))

    mutual
      pub typed_pure : {c : Context} {q : Position} {n : Entities} {e : Expr} {y : Typing} → HasType h c q n e y → I c q n e → (known : List Name) → Covers s k known →
          Unclashing (is_condition q) known e → Apart s k n → OfExpr (CallsPure s pure k) e
      typed_pure number i known c f a = tt
      typed_pure truth i known c f a = tt
      typed_pure (void e) i known c f a = tt
      typed_pure current_object i known c f a = tt
      typed_pure (result e) i known c f a = tt
      typed_pure {q} (call {s = z} {a = tree.no_target} {x} {es} implicit m d ds fits v many gives may w) i known c f a = (
        call_pure i d may gives a,
        actuals_pure ds (λ e j. part _ _ _ _ _ _ _ _ i (actual_part j)) known c (λ p o. plainly (is_condition q) known (tree.Call z tree.no_target x es) f p (in_actuals o)) a,
      )
      typed_pure {q} (call {s = z} {a = tree.target b} {x} {es} (explicit d) m e ds fits v many gives may w) i known c f a = (
        typed_pure d (part _ _ _ _ _ _ _ _ i target_part) known c (λ p o. plainly (is_condition q) known (tree.Call z (tree.target b) x es) f p (in_target (in_target_value o))) a,
        actuals_pure ds (λ e j. part _ _ _ _ _ _ _ _ i (actual_part j)) known c (λ p o. plainly (is_condition q) known (tree.Call z (tree.target b) x es) f p (in_actuals o)) a,
      )
      typed_pure {q} (untyped_target_call {s = z} {a = b} {x} {es} (explicit d) e ds) i known c f a = (
        typed_pure d (part _ _ _ _ _ _ _ _ i target_part) known c (λ p o. plainly (is_condition q) known (tree.Call z (tree.target b) x es) f p (in_target (in_target_value o))) a,
        actuals_pure ds (λ e j. part _ _ _ _ _ _ _ _ i (actual_part j)) known c (λ p o. plainly (is_condition q) known (tree.Call z (tree.target b) x es) f p (in_actuals o)) a,
      )
      typed_pure {q} (typing.unary {s = z} {op} {a = b} d o e) i known c f a =
          typed_pure d (part _ _ _ _ _ _ _ _ i operand_part) known c (λ p o. plainly (is_condition q) known (tree.Unary z op b) f p (in_operand o)) a
      typed_pure {q} (typing.binary {s = z} {op} {a = b} {b = b'} j d d' e) i known c f a = (
        typed_pure d (part _ _ _ _ _ _ _ _ i (left_part j)) known c (operand_free op known b (λ p o. plainly (is_condition q) known (tree.Binary z op b b') f p (in_left o))) a,
        typed_pure d' (part _ _ _ _ _ _ _ _ i (right_part j)) known c (operand_free op known b' (λ p o. plainly (is_condition q) known (tree.Binary z op b b') f p (in_right o))) a,
      )
      typed_pure {q} (and_then {s = z} {op} {a = b} {b = b'} j d g d' e) i known c f a =
          let both = joins q op j in
          let whole = subst (λ o. Unclashing o known (tree.Binary z op b b')) both.0 f in
          let left = left_free z op known b b' both.1 whole in (
            typed_pure d (part _ _ _ _ _ _ _ _ i (joined_left_part j)) known c left a,
            typed_pure d' (part _ _ _ _ _ _ _ _ i (joined_right_part j g)) (known ++ tests_of b) (covers_more s k known (tests_of b) c) (right_free z op known b b' both.1 whole)
                (gives_apart g known c left a),
          )
      typed_pure (test {s = z} {d = t} {a = b} {x} e d) i known c f a =
          typed_pure d (part _ _ _ _ _ _ _ _ i tested_part) known c (λ p o. f p (in_whole (in_tested o))) a

      pub actuals_pure : {c : Context} {n : Entities} {es : Exprs} {ts : List Typing} → HasTypes h c n es ts → ((e : Expr) → IsActual e es → I c Source n e) → (known : List Name) →
          Covers s k known → ((p : Span) → ExprsClash known es p → ⊥) → Apart s k n → OfExprs (CallsPure s pure k) es
      actuals_pure none i known c f a = tt
      actuals_pure (more {e} d ds) i known c f a = (
        typed_pure d (i e first_actual) known c (λ p o. f p (in_first o)) a,
        actuals_pure ds (λ e j. i e (later_actual j)) known c (λ p o. f p (in_others o)) a,
      )

-- the clause or the operand of an `old` wants pure functions
pub record Wants (c : Context) (q : Position) (n : Entities) (e : Expr) : Type 0 where
  pub wants : wants_pure c ≡ true

wants_operand : (op : UnaryOperator) (c : Context) → wants_pure c ≡ true → wants_pure (operand_context op c) ≡ true
wants_operand unary.Old c e = below_wants_pure c
wants_operand unary.Not c e = e
wants_operand unary.Plus c e = e
wants_operand unary.Minus c e = e

pub wants_part : (h : RoutineContext) (c d : Context) (q r : Position) (n m : Entities) (e a : Expr) → Wants c q n e → Part h (expression c q n e) (expression d r m a) → Wants d r m a
wants_part h c d q r n m _ _ i target_part = record { wants = i.wants }
wants_part h c d q r n m _ _ i (actual_part j) = record { wants = i.wants }
wants_part h c _ q r n m _ _ i (operand_part {op}) = record { wants = wants_operand op c i.wants }
wants_part h c d q r n m _ _ i (left_part j) = record { wants = i.wants }
wants_part h c d q r n m _ _ i (right_part j) = record { wants = i.wants }
wants_part h c d q r n m _ _ i (joined_left_part j) = record { wants = i.wants }
wants_part h c d q r n m _ _ i (joined_right_part j g) = record { wants = i.wants }
wants_part h c d q r n m _ _ i tested_part = record { wants = i.wants }

pub wanted : (h : RoutineContext) (c : Context) (o : Option RoutineName) (r : RoutineName) → wants_pure c ≡ true → may_call h c o ≡ true → o ≡ Some r → h.pure r ≡ true
wanted h c None r w m e = cc
wanted h c (Some f) r w m e = subst (λ r. h.pure r ≡ true) (same_some e) (by (wants_pure c) w m)
  where
    by : (b : Bool) → b ≡ true → (not b || h.pure f) ≡ true → h.pure f ≡ true
    by true w m = m
    by false w m = cc

pub all_clauses : (C : List ℕ → Type 0) (ks : List Clause) → ((q : Clause) → Contains ks q → OfExpr C q.condition) → OfClauses C ks
all_clauses C [] f = tt
all_clauses C (k ∷ ks) f = (
  f k (Contains-append_left (k ∷ []) ks k (Contains-push [] k)),
  all_clauses C ks (λ q i. f q (Contains-append_right (k ∷ []) ks q i)),
)
