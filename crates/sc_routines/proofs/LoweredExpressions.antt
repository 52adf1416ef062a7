-- What is told of an expression that is lowered, and the code that is added for it.
use Rattle.std.proofs.Common.{◌≡◌, ◌<◌, ℕ, suc, ◌+◌, List, [], ◌∷◌, ◌++◌, Option, Some, None, Result, Ok, Err, OnOk, IfOk, true, false, length, map, take, max, refl, sym, ap, subst, ◌∙◌, arith, add-one, append_assoc, length-append}
use Rattle.std.specs.Prelude.{if◌then◌else◌, slice_get, ⊤}
use Rattle.std.specs.Option.{option_and_then}
use Rattle.std.proofs.lemmas.Result.{IfOk-weaker, on_ok_weaker}
use Rattle.sc_text.specs.declared.token.Span.{Span}
use Rattle.sc_tree.specs.declared.expression.Expr as coded
use Rattle.sc_tree.specs.declared.expression.UnaryOperator.{UnaryOperator}
use Rattle.sc_tree.specs.declared.expression.UnaryOperator.TheVariants as unary
use Rattle.sc_tree.specs.declared.expression.BinaryOperator.{BinaryOperator}
use Rattle.sc_tree.specs.Properties.{is_old, is_and_then}
use Rattle.sc_tree.specs.Plain as tree
use Rattle.sc_tree.specs.Plain.{Name, DeclaredType, Expr}
use Rattle.sc_tree.specs.View.{exprs_of}
use Rattle.sc_class.specs.declared.identity.ClassId.TheVariants as class
use Rattle.sc_class.specs.Tables.Features.{feature_named}
use Rattle.sc_rules.specs.declared.entity_types.entity_type.EntityType.{EntityType}
use Rattle.sc_rules.specs.entity_types.Conformance.{boolean}
use Rattle.sc_rules.specs.CallRules.{count}
use Rattle.sc_rules.specs.Names.{Entities, test_type}
use Rattle.sc_model.specs.Olds.{olds_in, olds_of_each}
use Rattle.sc_model.specs.Operators.{is_short}
use Rattle.sc_typing.specs.declared.declarations.names.Entity as known
use Rattle.sc_typing.specs.Views.{entity_of}
use Rattle.sc_routines.specs.declared.lowered.Lowered.{Lowered}
use Rattle.sc_code.specs.Operations.{Operation, PushOld, ApplyUnary, Decide, Test}
use Rattle.sc_code.specs.Places.{Setting, here, slot_named, known_type, feature_type, unary_type, binary_type, expr_type, exprs_types, names_given, with_test}
use Rattle.sc_code.specs.Emitted as emitted
use Rattle.sc_code.specs.Emitted.{expr_code, exprs_code, expr_depth, exprs_depth, expr_slots, operand_depth, right_code, routine_call, feature_call, tested}
use Rattle.sc_routines.specs.Parts.{opened}
use Rattle.sc_routines.specs.Named.{own_named, routine_given, read_code, read_type}
use Rattle.sc_routines.proofs.Given.{both_forgotten}
use Rattle.sc_routines.proofs.ExpressionParts.{binary_code, binary_depth, binary_olds, binary_slots, both_given, none_given, qualified_code, qualified_depth, qualified_olds, read_code-is, read_depth-is, read_type-is, routine_called, routine_code-is, routine_depth-is, routine_type-is}

-- ---- what is told

pub record Told {E : Type 0} (h : Setting) (n : Entities) (i : ℕ) (p : Expr) (r : Result Lowered E) : Type 0 where
  pub value : IfOk r (λ l. l.value ≡ expr_type h n i p)
  pub depth : IfOk r (λ l. l.depth ≡ expr_depth h n i p)
  pub olds : IfOk r (λ l. l.olds ≡ i + olds_in p)
  pub slots : IfOk r (λ l. l.slots ≡ expr_slots h n i p)

told_by : {A E : Type 0} (r : Result Lowered E) (x : Lowered) (f : Lowered → A) (y : A) → IfOk r (λ l. l ≡ x) → f x ≡ y → IfOk r (λ l. f l ≡ y)
told_by r x f y t e = IfOk-weaker r (λ l. l ≡ x) (λ l. f l ≡ y) (λ l el. ap f el ∙ e) t

told : {E : Type 0} (h : Setting) (n : Entities) (i : ℕ) (p : Expr) (r : Result Lowered E) (x : Lowered) → IfOk r (λ l. l ≡ x) → x.value ≡ expr_type h n i p →
    x.depth ≡ expr_depth h n i p → x.olds ≡ i + olds_in p → x.slots ≡ expr_slots h n i p → Told h n i p r
told h n i p r x t ev ed eo es = record {
  value = told_by r x (λ l. l.value) (expr_type h n i p) t ev;
  depth = told_by r x (λ l. l.depth) (expr_depth h n i p) t ed;
  olds = told_by r x (λ l. l.olds) (i + olds_in p) t eo;
  slots = told_by r x (λ l. l.slots) (expr_slots h n i p) t es;
}

-- whatever the result is
pub always : {T E P : Type 0} (r : Result T E) → P → OnOk r P
always r p = on_ok_weaker r (λ _. p) (elim r as (λ r. OnOk r ⊤) [ Ok v ↦ tt | Err e ↦ tt ])

code_added : {E : Type 0} (r : Result Lowered E) (c0 c1 u v : List Operation) → OnOk r (c1 ≡ c0 ++ u) → u ≡ v → OnOk r (c1 ≡ c0 ++ v)
code_added r c0 c1 u v e euv = on_ok_weaker r (λ (e : c1 ≡ c0 ++ u). e ∙ ap (λ (l : List Operation). c0 ++ l) euv) e

code_behind : {E : Type 0} (r : Result Lowered E) (c0 c1 c2 u v w : List Operation) → c1 ≡ c0 ++ u → OnOk r (c2 ≡ c1 ++ v) → u ++ v ≡ w → OnOk r (c2 ≡ c0 ++ w)
code_behind r c0 c1 c2 u v w e1 e2 e3 =
    on_ok_weaker r (λ (e : c2 ≡ c1 ++ v). e ∙ ap (λ (l : List Operation). l ++ v) e1 ∙ append_assoc c0 u v ∙ ap (λ (l : List Operation). c0 ++ l) e3) e2

-- ---- constants and Current

module _ {E : Type 0} (h : Setting) (n : Entities) (i : ℕ) (p q : Expr) (r : Result Lowered E) (ep : p ≡ q) where
  pub leaf_code : (o : Operation) (c0 c1 : List Operation) → o ∷ [] ≡ expr_code h n i q → OnOk r (c1 ≡ c0 ++ o ∷ []) → OnOk r (c1 ≡ c0 ++ expr_code h n i p)
  leaf_code o c0 c1 eo e = code_added r c0 c1 (o ∷ []) (expr_code h n i p) e (eo ∙ sym (ap (expr_code h n i) ep))

  pub leaf_told : (t u : EntityType) → t ≡ u → Some u ≡ expr_type h n i q → 1 ≡ expr_depth h n i q → i ≡ i + olds_in q → 0 ≡ expr_slots h n i q →
      IfOk r (λ l. l ≡ record { value = Some t; depth = 1; olds = i; slots = 0 }) → Told h n i p r
  leaf_told t u et ev ed eo es e =
      subst (λ p. Told h n i p r) (sym ep)
      (told h n i q r (record { value = Some t; depth = 1; olds = i; slots = 0 }) e (ap (λ t. Some t) et ∙ ev) ed eo es)

-- ---- Result

pub result_code : {E : Type 0} (h : Setting) (n : Entities) (i : ℕ) (p : Expr) (q : Span) (r : Result Lowered E) (c0 c1 : List Operation) → p ≡ tree.Result q →
    OnOk r (c1 ≡ c0 ++ emitted.result_code h.result) → OnOk r (c1 ≡ c0 ++ expr_code h n i p)
result_code h n i p q r c0 c1 ep e = code_added r c0 c1 (emitted.result_code h.result) (expr_code h n i p) e (sym (ap (expr_code h n i) ep))

pub result_told : {E : Type 0} (h : Setting) (n : Entities) (i : ℕ) (p : Expr) (q : Span) (r : Result Lowered E) → p ≡ tree.Result q →
    IfOk r (λ l. l ≡ record { value = known_type h.text.result; depth = 1; olds = i; slots = 0 }) → Told h n i p r
result_told h n i p q r ep e =
    subst (λ p. Told h n i p r) (sym ep)
    (told h n i (tree.Result q) r (record { value = known_type h.text.result; depth = 1; olds = i; slots = 0 }) e refl refl (omega arith) refl)

-- ---- unary operators

module _ {E : Type 0} (h : Setting) (n : Entities) (i : ℕ) (q : Span) (a : Expr) (r : Result Lowered E) where
  old_code-is : (op : UnaryOperator) → is_old op ≡ true → PushOld i ∷ [] ≡ expr_code h n i (tree.Unary q op a)
  old_code-is unary.Old e = refl
  old_code-is unary.Not e = absurd (cc)
  old_code-is unary.Plus e = absurd (cc)
  old_code-is unary.Minus e = absurd (cc)

  old_told-is : (op : UnaryOperator) → is_old op ≡ true → IfOk r (λ l. l ≡ record { value = slice_get h.olds i; depth = 1; olds = i + 1; slots = 0 }) → Told h n i (tree.Unary q op a) r
  old_told-is unary.Old e t = told h n i (tree.Unary q unary.Old a) r (record { value = slice_get h.olds i; depth = 1; olds = i + 1; slots = 0 }) t refl refl refl refl
  old_told-is unary.Not e t = absurd (cc)
  old_told-is unary.Plus e t = absurd (cc)
  old_told-is unary.Minus e t = absurd (cc)

  unary_code-is : (op : UnaryOperator) → is_old op ≡ false → expr_code h n i a ++ ApplyUnary op ∷ [] ≡ expr_code h n i (tree.Unary q op a)
  unary_code-is unary.Old e = absurd (cc)
  unary_code-is unary.Not e = refl
  unary_code-is unary.Plus e = refl
  unary_code-is unary.Minus e = refl

  unary_told-is : (op : UnaryOperator) (l : Lowered) → is_old op ≡ false → l.depth ≡ expr_depth h n i a → l.olds ≡ i + olds_in a →
      IfOk r (λ m. m ≡ record { value = Some (unary_type op); depth = l.depth; olds = l.olds; slots = 0 }) → Told h n i (tree.Unary q op a) r
  unary_told-is unary.Old l e ed eo t = absurd (cc)
  unary_told-is unary.Not l e ed eo t = told h n i (tree.Unary q unary.Not a) r (record { value = Some (unary_type unary.Not); depth = l.depth; olds = l.olds; slots = 0 }) t refl ed eo refl
  unary_told-is unary.Plus l e ed eo t = told h n i (tree.Unary q unary.Plus a) r (record { value = Some (unary_type unary.Plus); depth = l.depth; olds = l.olds; slots = 0 }) t refl ed eo refl
  unary_told-is unary.Minus l e ed eo t = told h n i (tree.Unary q unary.Minus a) r (record { value = Some (unary_type unary.Minus); depth = l.depth; olds = l.olds; slots = 0 }) t refl ed eo refl

  module _ (p : Expr) (op : UnaryOperator) (ep : p ≡ tree.Unary q op a) where
    pub old_code : (c0 c1 : List Operation) → is_old op ≡ true → OnOk r (c1 ≡ c0 ++ PushOld i ∷ []) → OnOk r (c1 ≡ c0 ++ expr_code h n i p)
    old_code c0 c1 e ec = code_added r c0 c1 (PushOld i ∷ []) (expr_code h n i p) ec (old_code-is op e ∙ sym (ap (expr_code h n i) ep))

    pub old_told : is_old op ≡ true → IfOk r (λ l. l ≡ record { value = slice_get h.olds i; depth = 1; olds = i + 1; slots = 0 }) → Told h n i p r
    old_told e t = subst (λ p. Told h n i p r) (sym ep) (old_told-is op e t)

    pub unary_code : (c0 c1 c2 : List Operation) → is_old op ≡ false → c1 ≡ c0 ++ expr_code h n i a → OnOk r (c2 ≡ c1 ++ ApplyUnary op ∷ []) → OnOk r (c2 ≡ c0 ++ expr_code h n i p)
    unary_code c0 c1 c2 e e1 e2 = code_behind r c0 c1 c2 (expr_code h n i a) (ApplyUnary op ∷ []) (expr_code h n i p) e1 e2 (unary_code-is op e ∙ sym (ap (expr_code h n i) ep))

    pub unary_told : (l : Lowered) → is_old op ≡ false → l.depth ≡ expr_depth h n i a → l.olds ≡ i + olds_in a →
        IfOk r (λ m. m ≡ record { value = Some (unary_type op); depth = l.depth; olds = l.olds; slots = 0 }) → Told h n i p r
    unary_told l e ed eo t = subst (λ p. Told h n i p r) (sym ep) (unary_told-is op l e ed eo t)

    pub unary_names : n ≡ names_given h n i p
    unary_names = sym (ap (names_given h n i) ep)

-- ---- object tests

module _ {E : Type 0} (h : Setting) (n m : Entities) (i : ℕ) (q : Span) (d : Option DeclaredType) (a : Expr) (x : Name) (r : Result Lowered E) (p : Expr) (l : Lowered)
    (ep : p ≡ tree.ObjectTest q d a x) (em : m ≡ n) (ev : l.value ≡ expr_type h n i a) where
  pub test_code : (c0 c1 c2 : List Operation) (k : ℕ) → c1 ≡ c0 ++ expr_code h n i a → k ≡ length m → OnOk r (c2 ≡ c1 ++ Test (tested h m d) k ∷ []) → OnOk r (c2 ≡ c0 ++ expr_code h n i p)
  test_code c0 c1 c2 k e1 ek e2 =
      code_behind r c0 c1 c2 (expr_code h n i a) (Test (tested h m d) k ∷ []) (expr_code h n i p) e1 e2
      (ap (λ k. expr_code h n i a ++ Test (tested h m d) k ∷ []) ek ∙ ap (λ m. expr_code h n i a ++ Test (tested h m d) (length m) ∷ []) em ∙ sym (ap (expr_code h n i) ep))

  pub test_names : (m2 : Entities) → OnOk r (m2 ≡ with_test x.text (test_type (here h) d l.value) m) → OnOk r (m2 ≡ names_given h n i p)
  test_names m2 e =
      on_ok_weaker r (λ (e : m2 ≡ with_test x.text (test_type (here h) d l.value) m). e ∙ ap (λ t. with_test x.text (test_type (here h) d t) m) ev
      ∙ ap (with_test x.text (test_type (here h) d (expr_type h n i a))) em ∙ sym (ap (names_given h n i) ep)) e

  pub test_told : (k : ℕ) → l.depth ≡ expr_depth h n i a → l.olds ≡ i + olds_in a → k ≡ length m →
      IfOk r (λ o. o ≡ record { value = Some boolean; depth = l.depth; olds = l.olds; slots = k + 1 }) → Told h n i p r
  test_told k ed eo ek t =
      subst (λ p. Told h n i p r) (sym ep)
      (told h n i (tree.ObjectTest q d a x) r (record { value = Some boolean; depth = l.depth; olds = l.olds; slots = k + 1 }) t refl ed eo
      (add-one k ∙ ap (λ k. suc k) (ek ∙ ap (λ (m : Entities). length m) em)))

-- ---- binary operators, to the end

module _ {E : Type 0} (h : Setting) (n m : Entities) (i : ℕ) (q : Span) (op : BinaryOperator) (a b p : Expr) (r : Result Lowered E) (left right : Lowered)
    (ep : p ≡ tree.Binary q op a b) (em : m ≡ names_given h n i a) (ej : left.olds ≡ i + olds_in a) where
  pub close_code : (c0 c1 c2 c3 c4 : List Operation) (place : ℕ) → c1 ≡ c0 ++ expr_code h n i a → place ≡ length c1 → c2 ≡ c1 ++ opened op → c3 ≡ c2 ++ expr_code h m left.olds b →
      OnOk r ((base right : List Operation) → c3 ≡ base ++ (opened op ++ right) → place ≡ length base → c4 ≡ base ++ right_code op right) →
      OnOk r (c4 ≡ c0 ++ expr_code h n i p)
  close_code c0 c1 c2 c3 c4 place e1 epl e2 e3 e4 =
      on_ok_weaker r (λ (closed : (base right : List Operation) → c3 ≡ base ++ (opened op ++ right) → place ≡ length base → c4 ≡ base ++ right_code op right).
      binary_code h n m i left.olds q op a b em ej c0 c1 c2 c3 c4 place e1 epl e2 e3 closed ∙ sym (ap (λ p. c0 ++ expr_code h n i p) ep)) e4

  pub close_told : left.depth ≡ expr_depth h n i a → right.depth ≡ expr_depth h m left.olds b → left.slots ≡ expr_slots h n i a → right.slots ≡ expr_slots h m left.olds b →
      right.olds ≡ left.olds + olds_in b →
      IfOk r (λ l. l ≡ record { value = Some (binary_type op); depth = max left.depth (operand_depth op right.depth); olds = right.olds; slots = max left.slots right.slots }) → Told h n i p r
  close_told ed1 ed2 es1 es2 eo t =
      subst (λ p. Told h n i p r) (sym ep)
      (told h n i (tree.Binary q op a b) r (record { value = Some (binary_type op); depth = max left.depth (operand_depth op right.depth); olds = right.olds; slots = max left.slots right.slots }) t
      refl (binary_depth h n m i left.olds q op a b em ej left.depth right.depth (operand_depth op right.depth) ed1 ed2 refl)
      (binary_olds h n m i left.olds q op a b em ej right.olds eo) (binary_slots h n m i left.olds q op a b em ej left.slots right.slots es1 es2))

  pub close_names : (first given both left_over : List known.Entity) (count : ℕ) → n ≡ map entity_of first → m ≡ map entity_of given →
      map entity_of both ≡ names_given h m left.olds b → count ≡ length first →
      (is_and_then op ≡ true → left_over ≡ both) → (is_and_then op ≡ false → left_over ≡ take count both) → map entity_of left_over ≡ names_given h n i p
  close_names first given both left_over count en eg eb ec et ef =
      elim (is_and_then op) as (λ t. is_and_then op ≡ t → map entity_of left_over ≡ names_given h n i p) [
        | true ↦ λ e. ap (map entity_of) (et e) ∙ both_given h n m i left.olds q op a b em ej (map entity_of both) e eb ∙ sym (ap (names_given h n i) ep)
        | false ↦ λ e.
            ap (map entity_of) (ef e)
            ∙ both_forgotten h i left.olds a b first given both count (sym eg ∙ em ∙ ap (λ n. names_given h n i a) en) (eb ∙ ap (λ m. names_given h m left.olds b) eg) ec
            ∙ sym en ∙ none_given h n m i left.olds q op a b em ej e ∙ sym (ap (names_given h n i) ep)
      ] refl

-- the place of a decision is one of the code behind the right operand
pub place_within : (op : BinaryOperator) (c1 c2 c3 right : List Operation) (place : ℕ) → place ≡ length c1 → c2 ≡ c1 ++ opened op → c3 ≡ c2 ++ right → is_short op ≡ true → place < length c3
place_within op c1 c2 c3 right place ep e2 e3 s =
    let one : c2 ≡ c1 ++ Decide op 0 ∷ [] = e2 ∙ ap (λ t. c1 ++ (if t then Decide op 0 ∷ [] else [])) s in
    let all : c3 ≡ (c1 ++ Decide op 0 ∷ []) ++ right = e3 ∙ ap (λ (l : List Operation). l ++ right) one in
    omega (arith, ep, ap (λ (l : List Operation). length l) all, length-append (c1 ++ Decide op 0 ∷ []) right, length-append c1 (Decide op 0 ∷ []))

-- ---- calls, to the end

module _ {E : Type 0} (h : Setting) (n : Entities) (i : ℕ) (q : Span) (x : Name) (es : List coded.Expr) (r : Result Lowered E) where
  pub read_code_left : (c0 c1 : List Operation) → routine_given (slot_named x.text n) (own_named h x.text) ≡ None →
      OnOk r (c1 ≡ c0 ++ read_code x.text (slot_named x.text n) (own_named h x.text)) → OnOk r (c1 ≡ c0 ++ expr_code h n i (tree.Call q tree.no_target x (exprs_of es)))
  read_code_left c0 c1 e ec =
      code_added r c0 c1 (read_code x.text (slot_named x.text n) (own_named h x.text)) (expr_code h n i (tree.Call q tree.no_target x (exprs_of es))) ec
      (read_code-is h x.text (feature_named h.system (class.Declared h.text.class) x.text) (exprs_code h n i (exprs_of es)) (routine_call h x.text (count (exprs_of es)) (exprs_types h n i (exprs_of es))) (slot_named x.text n) e)

  pub read_told : routine_given (slot_named x.text n) (own_named h x.text) ≡ None →
      IfOk r (λ l. l ≡ record { value = read_type (slot_named x.text n) (own_named h x.text); depth = 1; olds = i + length (olds_of_each (exprs_of es)); slots = 0 }) →
      Told h n i (tree.Call q tree.no_target x (exprs_of es)) r
  read_told e t =
      told h n i (tree.Call q tree.no_target x (exprs_of es)) r (record { value = read_type (slot_named x.text n) (own_named h x.text); depth = 1; olds = i + length (olds_of_each (exprs_of es)); slots = 0 }) t
      (read_type-is h x.text (slot_named x.text n) e)
      (read_depth-is h x.text (feature_named h.system (class.Declared h.text.class) x.text) (exprs_depth h n i (exprs_of es)) (slot_named x.text n) e) refl refl

  module _ (t : Option EntityType) (e : Some t ≡ routine_given (slot_named x.text n) (own_named h x.text)) where
    pub routine_code_left : (c0 c1 c2 : List Operation) (ts : List EntityType) → ts ≡ exprs_types h n i (exprs_of es) → c1 ≡ c0 ++ exprs_code h n i (exprs_of es) →
        OnOk r (c2 ≡ c1 ++ routine_call h x.text (length es) ts) → OnOk r (c2 ≡ c0 ++ expr_code h n i (tree.Call q tree.no_target x (exprs_of es)))
    routine_code_left c0 c1 c2 ts et e1 e2 =
        on_ok_weaker r (λ (e2 : c2 ≡ c1 ++ routine_call h x.text (length es) ts).
        routine_called h n i x.text es ts c0 c1 c2 (length es) et refl e1 e2
        ∙ ap (λ (l : List Operation). c0 ++ l) (routine_code-is h x.text (feature_named h.system (class.Declared h.text.class) x.text) (exprs_code h n i (exprs_of es)) (routine_call h x.text (count (exprs_of es)) (exprs_types h n i (exprs_of es))) t (slot_named x.text n) (sym e))) e2

    pub routine_told : (d k : ℕ) → d ≡ exprs_depth h n i (exprs_of es) → k ≡ i + length (olds_of_each (exprs_of es)) →
        IfOk r (λ l. l ≡ record { value = t; depth = max 1 d; olds = k; slots = 0 }) → Told h n i (tree.Call q tree.no_target x (exprs_of es)) r
    routine_told d k ed ek u =
        told h n i (tree.Call q tree.no_target x (exprs_of es)) r (record { value = t; depth = max 1 d; olds = k; slots = 0 }) u
        (routine_type-is h x.text t (slot_named x.text n) (sym e))
        (ap (max 1) ed ∙ routine_depth-is h x.text (feature_named h.system (class.Declared h.text.class) x.text) (exprs_depth h n i (exprs_of es)) t (slot_named x.text n) (sym e)) ek refl

module _ {E : Type 0} (h : Setting) (n m : Entities) (i : ℕ) (q : Span) (a : Expr) (x : Name) (es : List coded.Expr) (l : Lowered) (ts : List EntityType) (r : Result Lowered E)
    (em : m ≡ n) (ej : l.olds ≡ i + olds_in a) (et : l.value ≡ expr_type h n i a) (ets : ts ≡ exprs_types h m l.olds (exprs_of es)) where
  pub feature_code_left : (c0 c1 c2 c3 : List Operation) → c1 ≡ c0 ++ expr_code h n i a → c2 ≡ c1 ++ exprs_code h m l.olds (exprs_of es) →
      OnOk r (c3 ≡ c2 ++ feature_call h x.text (length es) l.value ts) → OnOk r (c3 ≡ c0 ++ expr_code h n i (tree.Call q (tree.target a) x (exprs_of es)))
  feature_code_left c0 c1 c2 c3 e1 e2 e3 =
      on_ok_weaker r (λ (e3 : c3 ≡ c2 ++ feature_call h x.text (length es) l.value ts). qualified_code h n m i l.olds q a x es l.value ts em ej et ets c0 c1 c2 c3 (length es) e1 e2 refl e3) e3

  pub feature_told : (d k : ℕ) → l.depth ≡ expr_depth h n i a → d ≡ exprs_depth h m l.olds (exprs_of es) → k ≡ l.olds + length (olds_of_each (exprs_of es)) →
      IfOk r (λ o. o ≡ record { value = option_and_then (λ (t : EntityType). feature_type h.system t (feature_named h.system t.class x.text)) l.value; depth = max l.depth (d + 1); olds = k; slots = 0 }) →
      Told h n i (tree.Call q (tree.target a) x (exprs_of es)) r
  feature_told d k el ed ek u =
      told h n i (tree.Call q (tree.target a) x (exprs_of es)) r
      (record { value = option_and_then (λ (t : EntityType). feature_type h.system t (feature_named h.system t.class x.text)) l.value; depth = max l.depth (d + 1); olds = k; slots = 0 }) u
      (ap (option_and_then (λ (t : EntityType). feature_type h.system t (feature_named h.system t.class x.text))) et)
      (qualified_depth h n m i l.olds q a x es l.value ts em ej et ets l.depth d (d + 1) el ed refl)
      (qualified_olds h n m i l.olds q a x es l.value ts em ej et ets k ek) refl
