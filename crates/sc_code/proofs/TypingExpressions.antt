-- What the rules give a type has that type in flat code: expressions, and the conditions of an `if`.
use Rattle.std.proofs.Common.{◌≡◌, ℕ, ◌+◌, Bool, true, false, List, [], ◌∷◌, ◌++◌, Option, Some, None, refl, sym, ap, ◌∙◌, subst, arith}
use Rattle.std.specs.Prelude.{slice_get, if◌then◌else◌}
use Rattle.std.specs.Option.{option_map}
use Rattle.sc_text.specs.declared.token.Span.{Span}
use Rattle.sc_tree.specs.declared.expression.UnaryOperator.{UnaryOperator}
use Rattle.sc_tree.specs.declared.expression.UnaryOperator.TheVariants as unary
use Rattle.sc_tree.specs.declared.expression.BinaryOperator.{BinaryOperator}
use Rattle.sc_tree.specs.declared.expression.BinaryOperator.TheVariants as binary
use Rattle.sc_tree.specs.Plain as tree
use Rattle.sc_tree.specs.Plain.{DeclaredType, FeatureKind, Name, Expr, Exprs, expr_then}
use Rattle.sc_class.specs.declared.identity.ClassId.TheVariants as class
use Rattle.sc_tree.specs.Properties.{is_print}
use Rattle.sc_class.specs.Tables.Features.{DeclaredFeature, feature_named}
use Rattle.sc_class.proofs.Items.{some_is}
use Rattle.sc_rules.specs.declared.entity_types.entity_type.EntityType.{EntityType}
use Rattle.sc_rules.specs.entity_types.Conformance.{void, integer, boolean}
use Rattle.sc_rules.specs.declared.position.Context.{Context}
use Rattle.sc_rules.specs.declared.position.Context.TheVariants as context
use Rattle.sc_rules.specs.declared.position.Position.{Position}
use Rattle.sc_rules.specs.declared.position.Position.TheVariants as spot
use Rattle.sc_rules.specs.declared.position.Role.TheVariants as role
use Rattle.sc_rules.specs.Types.{declared_type, unary_result, binary_result}
use Rattle.sc_rules.specs.Positions.{is_ensure, is_condition, is_and_then, may_give}
use Rattle.sc_rules.specs.Names.{RoutineName, Entity, Entities, entity, entity_named, Signature, named, current, test_type, attached, signature_of, signature_of_kind, entity_signature, print_signature, meaning_of_feature, entity_or, qualified_meaning, unqualified_meaning, meaning_of}
use Rattle.sc_rules.specs.Typing as rule
use Rattle.sc_rules.specs.Typing.{Typing, typing, HasType, HasTypes, Gives, number, truth, current_object, result, call, untyped_target_call, unary, binary, and_then, test, implicit, explicit, by_test, by_both, nothing, is_testable}
use Rattle.sc_rules.specs.Laws.{AllDeclared, HasResult, are_typed}
use Rattle.sc_rules.proofs.Complete as complete
use Rattle.sc_rules.specs.Judging.{judge_given}
use Rattle.sc_rules.proofs.Refused.{same_ok}
use Rattle.sc_rules.proofs.OldOperands.{operand_of_old}
use Rattle.sc_rules.proofs.TypeLaws.{one_type}
use Rattle.sc_rules.proofs.Typings.{some_map, every_typed, receiver_typed, gives_typed}
use Rattle.sc_model.specs.Olds.{olds_of, olds_of_each, olds_in}
use Rattle.sc_code.specs.Places.{Setting, here, slot_named, unary_type, binary_type, expr_type, names_given, with_test}
use Rattle.sc_code.specs.Typed as typed
use Rattle.sc_code.specs.Typed.{is_old, IsTyped, AreTyped, IsCondition}
use Rattle.sc_code.proofs.Codes.{type_is}
use Rattle.sc_code.proofs.TypedOperands.{OldKept, OldsKept, ResultKept, and_then_is, binary_gives, ensured, judged, kept_left, kept_right, none_shared, operands_plain, same_signature, slot_missing, slot_there, some_there, unary_gives, untyped}

module _ (h : Setting) (pure : RoutineName → Bool) (all : AllDeclared h.system) (has : HasResult (judged pure h)) (own : ResultKept h) where
  -- the feature of Current of the name
  abbrev own_feature : Name → Option DeclaredFeature
  own_feature x = feature_named h.system (class.Declared h.text.class) x.text

  -- an expression of this type, if it has one
  abbrev pub Typed : Entities → ℕ → Expr → Option EntityType → Type 0
  Typed n i e o = (t : EntityType) × (o ≡ Some t) × IsTyped h n i e t

  -- In a postcondition the `old`s are kept; nowhere else is there any.
  abbrev pub Kept : Context → Entities → ℕ → List Expr → Type 0
  Kept c n i es = is_ensure c ≡ true → OldsKept pure h n i es

  -- a name without a target
  unqualified : (n : Entities) (i : ℕ) (q : Span) (x : Name) (es : Exprs) (g : Signature) (t : EntityType) (ts : List EntityType) →
      unqualified_meaning (judged pure h) n x.text ≡ named g → g.gives ≡ Some (Some t) → AreTyped h n i es ts →
      IsTyped h n i (tree.Call q tree.no_target x es) t
  unqualified n i q x es g t ts m e as' = by_name (entity_named x.text n) refl m
    where
      gives_so : (k : Signature) → named k ≡ named g → k.gives ≡ Some (Some t)
      gives_so k m = ap (λ (g : Signature). g.gives) (same_signature k g m) ∙ e

      by_kind : (f : DeclaredFeature) → slot_named x.text n ≡ None → own_feature x ≡ Some f →
          (signature_of h.system (current (here h)) f).gives ≡ Some (Some t) → (k : FeatureKind) → f.feature.kind ≡ k →
          IsTyped h n i (tree.Call q tree.no_target x es) t
      by_kind f s is v (tree.Attribute d) k =
          typed.attribute s is k (some_is _ _ (ap (λ k. (signature_of_kind h.system (current (here h)) f k).gives) (sym k) ∙ v))
      by_kind f s is v (tree.Routine r) k = typed.routine s is k v as'

      by_feature : slot_named x.text n ≡ None → (f : Option DeclaredFeature) → own_feature x ≡ f →
          meaning_of_feature h.system (current (here h)) f ≡ named g → IsTyped h n i (tree.Call q tree.no_target x es) t
      by_feature s None is m = cc
      by_feature s (Some f) is m = by_kind f s is (gives_so (signature_of h.system (current (here h)) f) m) f.feature.kind refl

      by_print : slot_named x.text n ≡ None → (b : Bool) →
          (if b then named (print_signature (judged pure h)) else meaning_of_feature h.system (current (here h)) (own_feature x)) ≡ named g →
          IsTyped h n i (tree.Call q tree.no_target x es) t
      by_print s true m = let none : None ≡ Some (Some t) = gives_so (print_signature (judged pure h)) m in cc
      by_print s false m = by_feature s (own_feature x) refl m

      by_name : (o : Option Entity) → entity_named x.text n ≡ o → entity_or (judged pure h) x.text o ≡ named g →
          IsTyped h n i (tree.Call q tree.no_target x es) t
      by_name (Some d) is m =
          let slot = slot_there x.text n d is in
          let type : d.type ≡ Some t = some_is _ _ (gives_so (entity_signature (judged pure h) d) m) in
          typed.entity_value (slot.1 ∙ ap (λ o. Some (slot.0, o)) type)
      by_name None is m = by_print (slot_missing x.text n is) (is_print x.text) m

  -- a name behind a target
  qualified : (n : Entities) (i : ℕ) (q : Span) (a : Expr) (x : Name) (es : Exprs) (g : Signature) (u t : EntityType) (ts : List EntityType) →
      IsTyped h n i a u → qualified_meaning (judged pure h) u x.text ≡ named g → g.gives ≡ Some (Some t) → AreTyped h n (i + olds_in a) es ts →
      IsTyped h n i (tree.Call q (tree.target a) x es) t
  qualified n i q a x es g u t ts p m e as' = by_feature (feature_named h.system u.class x.text) refl m
    where
      by_feature : (f : Option DeclaredFeature) → feature_named h.system u.class x.text ≡ f → meaning_of_feature h.system u f ≡ named g →
          IsTyped h n i (tree.Call q (tree.target a) x es) t
      by_feature None is m = cc
      by_feature (Some f) is m = typed.feature p is (ap (λ (g : Signature). g.gives) (same_signature (signature_of h.system u f) g m) ∙ e) as'

  result_read : (n : Entities) (i : ℕ) (q : Span) (t : Option EntityType) → h.text.result ≡ Some t → (u : EntityType) × (t ≡ Some u) →
      Typed n i (tree.Result q) t
  result_read n i q t v (u, e) = (u, e, typed.result (own t v).1 (v ∙ ap (λ t. Some t) e))

  -- calls, with what is known of their parts
  implicit_call : (n : Entities) (i : ℕ) (q : Span) (x : Name) (es : Exprs) (g : Signature) (t : Option EntityType) →
      (u : EntityType) × (t ≡ Some u) →
      unqualified_meaning (judged pure h) n x.text ≡ named g → g.gives ≡ Some t → (ts : List EntityType) × AreTyped h n i es ts →
      Typed n i (tree.Call q tree.no_target x es) t
  implicit_call n i q x es g t (u, e) m v (ts, as') = (u, e, unqualified n i q x es g u ts m (v ∙ ap (λ t. Some t) e) as')

  explicit_call : (n : Entities) (i : ℕ) (q : Span) (a : Expr) (x : Name) (es : Exprs) (g : Signature) (o t : Option EntityType) →
      (u : EntityType) × (t ≡ Some u) →
      Typed n i a o → meaning_of (judged pure h) n (tree.target a) o x ≡ named g → g.gives ≡ Some t →
      (ts : List EntityType) × AreTyped h n (i + olds_in a) es ts →
      Typed n i (tree.Call q (tree.target a) x es) t
  explicit_call n i q a x es g o t (u, e) (w, f, p) m v (ts, as') =
      let meant = subst (λ o. meaning_of (judged pure h) n (tree.target a) o x ≡ named g) f m in
      (u, e, qualified n i q a x es g w u ts p meant (v ∙ ap (λ t. Some t) e) as')

  -- operators
  old_operation : (c : Context) (n : Entities) (i : ℕ) (q : Span) (a : Expr) (t : Typing) (r : Option EntityType) →
      HasType (judged pure h) context.Old spot.Plain n a t →
      unary_result unary.Old t.type ≡ Some r → OldsKept pure h n i (a ∷ []) → Typed n i (tree.Unary q unary.Old a) r
  old_operation c n i q a t r d e o = by (o 0 a refl)
    where
      by : OldKept pure h n a (i + 0) → Typed n i (tree.Unary q unary.Old a) r
      by (u, b, k, f) =
          let same = one_type (judged pure h) context.Old spot.Plain n a (typing (Some u) b) t f d in
          let given : unary_result unary.Old (Some u) ≡ Some r = ap (λ (t : Typing). unary_result unary.Old t.type) same ∙ e in
          let number : i ≡ i + 0 = omega arith in
          (u, sym (some_is (Some u) r given), typed.old (ap (slice_get h.olds) number ∙ k))

  unary_operation : (n : Entities) (i : ℕ) (q : Span) (op : UnaryOperator) (a : Expr) (o r : Option EntityType) → is_old op ≡ false → Typed n i a o →
      unary_result op o ≡ Some r → Typed n i (tree.Unary q op a) r
  unary_operation n i q op a o r z (u, f, p) e = (unary_type op, unary_gives op u r z (ap (unary_result op) (sym f) ∙ e), typed.unary_operation z p)

  binary_operation : (n : Entities) (i : ℕ) (q : Span) (op : BinaryOperator) (a b : Expr) (o v r : Option EntityType) → Typed n i a o →
      Typed n (i + olds_in a) b v →
      binary_result op o v ≡ Some r → Typed n i (tree.Binary q op a b) r
  binary_operation n i q op a b o v r (u, f, p) (w, g, k) e =
      let given = ap (λ o. binary_result op o (Some w)) (sym f) ∙ ap (binary_result op o) (sym g) ∙ e in
      (binary_type op, binary_gives op u w r given, typed.binary_operation p k)

  more_actuals : (n : Entities) (i : ℕ) (e : Expr) (es : Exprs) (o : Option EntityType) → Typed n i e o →
      (ts : List EntityType) × AreTyped h n (i + olds_in e) es ts →
      (ts : List EntityType) × AreTyped h n i (expr_then e es) ts
  more_actuals n i e es o (t, f, p) (ts, as') = (t ∷ ts, typed.more p as')

  mutual
    pub expression_typed : {c : Context} {k : Position} {n : Entities} {e : Expr} {r : Typing} → HasType (judged pure h) c k n e r →
        is_condition k ≡ false →
        are_typed n ≡ true → (i : ℕ) → Kept c n i (olds_of e) → Typed n i e r.type
    expression_typed number k w i o = (integer, refl, typed.integer_value)
    expression_typed truth k w i o = (boolean, refl, typed.boolean_value)
    expression_typed (rule.void v) k w i o = (void, refl, typed.void_value)
    expression_typed current_object k w i o = (current (here h), refl, typed.current_object)
    expression_typed {n} (result {s = q} {t = t} v) k w i o = result_read n i q t v (some_there t (has t v))
    expression_typed {n} (call {s = q} {x = x} {es = es} {g = g} {t = t} implicit z m ds f p l v pu xp) k w i o =
        implicit_call n i q x es g t (some_there t (every_typed all has w (call {k = spot.Plain} {s = q} {x = x} implicit z m ds f p l v pu xp))) m v
        (expressions_typed ds w i o)
    expression_typed {n} (call {s = q} {a = tree.target a} {x = x} {es = es} {g = g} {t = t} (explicit {t = u} d) z m ds f p l v pu xp) k w i o =
        explicit_call n i q a x es g u.type t
        (some_there t (every_typed all has w (call {k = spot.Plain} {s = q} {x = x} (explicit d) z m ds f p l v pu xp)))
        (expression_typed d refl w i (λ z. kept_left pure h n i (olds_of a) (olds_of_each es) (o z))) m v
        (expressions_typed ds w (i + olds_in a) (λ z. kept_right pure h n i (olds_of a) (olds_of_each es) (o z)))
    expression_typed (untyped_target_call {r = r} v e ds) k w i o = absurd (untyped r.type e (receiver_typed all has w v))
    expression_typed {c} {n} (unary {s = q} {op = unary.Old} {a = a} {t = t} {r = r} d s e) k w i o =
        old_operation c n i q a t r (operand_of_old c d s) e (o (ensured c t s))
    expression_typed {n} (unary {s = q} {op = unary.Not} {a = a} {t = t} {r = r} d s e) k w i o =
        unary_operation n i q unary.Not a t.type r refl (expression_typed d refl w i o) e
    expression_typed {n} (unary {s = q} {op = unary.Plus} {a = a} {t = t} {r = r} d s e) k w i o =
        unary_operation n i q unary.Plus a t.type r refl (expression_typed d refl w i o) e
    expression_typed {n} (unary {s = q} {op = unary.Minus} {a = a} {t = t} {r = r} d s e) k w i o =
        unary_operation n i q unary.Minus a t.type r refl (expression_typed d refl w i o) e
    expression_typed {n} (binary {s = q} {op = op} {a = a} {b = b} {t = t} {u = u} {r = r} j d f e) k w i o =
        binary_operation n i q op a b t.type u.type r
        (expression_typed d (operands_plain op) w i (λ z. kept_left pure h n i (olds_of a) (olds_of b) (o z)))
        (expression_typed f (operands_plain op) w (i + olds_in a) (λ z. kept_right pure h n i (olds_of a) (olds_of b) (o z))) e
    expression_typed {k} (and_then {op = op} s d g f e) q w i o = absurd (none_shared k op q s)
    expression_typed (test j d) k w i o = cc

    expressions_typed : {c : Context} {n : Entities} {es : Exprs} {ts : List Typing} → HasTypes (judged pure h) c n es ts → are_typed n ≡ true →
        (i : ℕ) →
        Kept c n i (olds_of_each es) → (us : List EntityType) × AreTyped h n i es us
    expressions_typed rule.none w i o = ([], typed.none)
    expressions_typed {n} (rule.more {e = e} {es = es} {t = t} d ds) w i o =
        more_actuals n i e es t.type (expression_typed d refl w i (λ z. kept_left pure h n i (olds_of e) (olds_of_each es) (o z)))
        (expressions_typed ds w (i + olds_in e) (λ z. kept_right pure h n i (olds_of e) (olds_of_each es) (o z)))

  -- where no `old` may stand
  pub without_olds : {c : Context} {k : Position} {n : Entities} {e : Expr} {r : Typing} → HasType (judged pure h) c k n e r →
      is_condition k ≡ false →
      is_ensure c ≡ false → are_typed n ≡ true → (i : ℕ) → Typed n i e r.type
  without_olds d k j w i = expression_typed d k w i (λ z. let no : true ≡ false = sym z ∙ j in cc)

  -- ---- conditions

  same_test : (d : Option DeclaredType) (o v : Option EntityType) → o ≡ v → test_type (judged pure h) d o ≡ test_type (here h) d v
  same_test None o v e = ap (option_map attached) e
  same_test (Some d) o v e = refl

  -- the name of an object test, with its type
  tested_name : (n : Entities) (i : ℕ) (d : Option DeclaredType) (a : Expr) (x : Name) (o : Option EntityType) → Typed n i a o →
      n ++ entity x.text (test_type (judged pure h) d o) role.Test ∷ [] ≡ with_test x.text (test_type (here h) d (expr_type h n i a)) n
  tested_name n i d a x o (u, e, p) = ap (λ o. with_test x.text o n) (same_test d o (expr_type h n i a) (e ∙ sym (type_is h n i a u p)))

  tested : (n : Entities) (i : ℕ) (q : Span) (d : Option DeclaredType) (a : Expr) (x : Name) (o : Option EntityType) →
      is_testable (judged pure h) d ≡ true → Typed n i a o →
      IsCondition h n i (tree.ObjectTest q d a x)
  tested n i q None a x o e (u, f, p) = typed.test p refl
  tested n i q (Some d) a x o e (u, f, p) =
      let there = some_map attached (declared_type h.system h.text.formals d) e in
      typed.test p (some_there (test_type (here h) (Some d) (Some u)) there).1

  -- the parts of an `and then` in a condition
  record Joined (c : Context) (n : Entities) (a b : Expr) : Type 0 where
    names : Entities
    left : Typing
    right : Typing
    left_typed : HasType (judged pure h) c spot.Condition n a left
    gives_names : Gives (judged pure h) c n a names
    right_typed : HasType (judged pure h) c spot.Condition names b right

  joined : {c : Context} {n : Entities} {s : Span} {op : BinaryOperator} {a b : Expr} {t : Typing} →
      HasType (judged pure h) c spot.Condition n (tree.Binary s op a b) t →
      is_and_then op ≡ true → Joined c n a b
  joined {op} (binary j d e r) i = let z : true ≡ false = sym i ∙ j in cc
  joined (and_then {m = m} {t = t} {u = u} j d g e r) i =
      record { names = m; left = t; right = u; left_typed = d; gives_names = g; right_typed = e }

  same_names : {c : Context} {n m o : Entities} {a : Expr} → Gives (judged pure h) c n a m → Gives (judged pure h) c n a o → m ≡ o
  same_names {c} {n} {m} {o} {a} d e = same_ok m o (judge_given (judged pure h) c n a) (complete.given d) (complete.given e)

  gives_none : (n : Entities) (i : ℕ) (e : Expr) → may_give e ≡ false → n ≡ names_given h n i e
  gives_none n i (tree.Integer q z) e = refl
  gives_none n i (tree.Boolean q z) e = refl
  gives_none n i (tree.Void q) e = refl
  gives_none n i (tree.Current q) e = refl
  gives_none n i (tree.Result q) e = refl
  gives_none n i (tree.Call q t x es) e = refl
  gives_none n i (tree.Unary q op a) e = refl
  gives_none n i (tree.Binary q binary.AndThen a b) e = cc
  gives_none n i (tree.Binary q _ a b) e = refl
  gives_none n i (tree.ObjectTest q d a x) e = cc

  -- The names that a condition gives are known where it holds.
  pub gives_is_given : {c : Context} {n m : Entities} {e : Expr} {r : Typing} → HasType (judged pure h) c spot.Condition n e r →
      Gives (judged pure h) c n e m →
      is_ensure c ≡ false → are_typed n ≡ true → (i : ℕ) → m ≡ names_given h n i e
  gives_is_given {n} d (by_test {d = y} {a = a} {x = x} {t = t} f) j w i = tested_name n i y a x t.type (without_olds f refl j w i)
  gives_is_given {c} {n} {m} d (by_both {m = between} {s = s} {op = op} {a = a} {b = b} k f g) j w i =
      let parts = joined d k in
      let same : parts.names ≡ between = same_names parts.gives_names f in
      let right = subst (λ m. HasType (judged pure h) c spot.Condition m b parts.right) same parts.right_typed in
      let first = gives_is_given parts.left_typed f j w i in
      let second = gives_is_given right g j (gives_typed all has w parts.left_typed f) (i + olds_in a) in
      second ∙ ap (λ m. names_given h m (i + olds_in a) b) first ∙ ap (λ op. names_given h n i (tree.Binary s op a b)) (sym (and_then_is op k))
  gives_is_given {n} {e} d (nothing f) j w i = gives_none n i e f

  plain_condition : {c : Context} {n : Entities} {e : Expr} {r : Typing} → HasType (judged pure h) c spot.Plain n e r →
      is_ensure c ≡ false → are_typed n ≡ true → (i : ℕ) → IsCondition h n i e
  plain_condition d j w i = typed.plain (without_olds d refl j w i).2

  pub condition_typed : {c : Context} {n : Entities} {e : Expr} {r : Typing} → HasType (judged pure h) c spot.Condition n e r →
      is_ensure c ≡ false → are_typed n ≡ true → (i : ℕ) → IsCondition h n i e
  condition_typed number j w i = typed.plain typed.integer_value
  condition_typed truth j w i = typed.plain typed.boolean_value
  condition_typed (rule.void v) j w i = cc
  condition_typed current_object j w i = typed.plain typed.current_object
  condition_typed (result v) j w i = plain_condition (result v) j w i
  condition_typed (call v z m ds f p l g pu xp) j w i = plain_condition (call v z m ds f p l g pu xp) j w i
  condition_typed (untyped_target_call v e ds) j w i = plain_condition (untyped_target_call v e ds) j w i
  condition_typed (unary d s e) j w i = plain_condition (unary d s e) j w i
  condition_typed (binary k d f e) j w i = plain_condition (binary refl d f e) j w i
  condition_typed {n} (and_then {m = m} {s = s} {op = op} {a = a} {b = b} k d g f e) j w i =
      let names = gives_is_given d g j w i in
      let right = condition_typed f j (gives_typed all has w d g) (i + olds_in a) in
      subst (λ op. IsCondition h n i (tree.Binary s op a b)) (sym (and_then_is op k))
      (typed.both (condition_typed d j w i) (subst (λ m. IsCondition h m (i + olds_in a) b) names right))
  condition_typed {n} (test {s = q} {d = y} {a = a} {x = x} {t = t} v d) j w i = tested n i q y a x t.type v (without_olds d refl j w i)
