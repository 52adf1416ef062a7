-- The code of an expression and what it needs, from those of its parts: operators, calls, and names with no target.
use Rattle.std.proofs.Common.{◌≡◌, ℕ, suc, ◌+◌, List, [], ◌∷◌, ◌++◌, Option, Some, None, true, false, length, max, refl, sym, ap, ◌∙◌, arith, add-one, append_assoc, length-append}
use Rattle.std.specs.Prelude.{if◌then◌else◌}
use Rattle.sc_text.specs.declared.token.Span.{Span}
use Rattle.sc_tree.specs.declared.expression.Expr as coded
use Rattle.sc_tree.specs.declared.expression.BinaryOperator.{BinaryOperator}
use Rattle.sc_tree.specs.Properties.{is_and_then}
use Rattle.sc_tree.specs.Plain as tree
use Rattle.sc_tree.specs.Plain.{Name, Expr, Exprs}
use Rattle.sc_tree.specs.View.{exprs_of}
use Rattle.sc_class.specs.declared.identity.ClassId.TheVariants as class
use Rattle.sc_class.specs.Tables.Features.{DeclaredFeature, feature_named}
use Rattle.sc_rules.specs.declared.entity_types.entity_type.EntityType.{EntityType}
use Rattle.sc_rules.specs.CallRules.{count}
use Rattle.sc_rules.specs.Names.{Entities, current}
use Rattle.sc_model.specs.Olds.{olds_in, olds_of, olds_of_each}
use Rattle.sc_routines.specs.declared.own_feature.OwnFeature.{OwnFeature}
use Rattle.sc_routines.specs.declared.own_feature.OwnFeature.TheVariants as own
use Rattle.sc_code.specs.Operations.{Operation}
use Rattle.sc_code.specs.Places.{Setting, here, name_type, expr_type, exprs_types, names_given, with_type}
use Rattle.sc_code.specs.Emitted.{expr_code, exprs_code, expr_depth, exprs_depth, expr_slots, operand_depth, right_code, name_code, name_depth, routine_call, feature_call}
use Rattle.sc_routines.specs.Parts.{opened, own_feature}
use Rattle.sc_routines.specs.Named.{own_named, routine_given, read_code, read_type}
use Rattle.sc_routines.proofs.Given.{given_by_operator}
use Rattle.sc_routines.proofs.OwnFeatures.{own_code, own_code-is, own_type, own_type-is, own_depth, own_depth-is, entity_read}

-- ---- binary operators

module _ (h : Setting) (n m : Entities) (i j : ℕ) (q : Span) (op : BinaryOperator) (a b : Expr) (em : m ≡ names_given h n i a) (ej : j ≡ i + olds_in a) where
  -- the right operand is met behind the left one
  behind : {A : Type 0} (f : Entities → ℕ → A) → f m j ≡ f (names_given h n i a) (i + olds_in a)
  behind f = ap (λ m. f m j) em ∙ ap (λ j. f (names_given h n i a) j) ej

  pub binary_code : (c0 c1 c2 c3 c4 : List Operation) (place : ℕ) → c1 ≡ c0 ++ expr_code h n i a → place ≡ length c1 → c2 ≡ c1 ++ opened op → c3 ≡ c2 ++ expr_code h m j b →
      ((base right : List Operation) → c3 ≡ base ++ (opened op ++ right) → place ≡ length base → c4 ≡ base ++ right_code op right) →
      c4 ≡ c0 ++ expr_code h n i (tree.Binary q op a b)
  binary_code c0 c1 c2 c3 c4 place e1 ep e2 e3 closed =
      closed c1 (expr_code h m j b) (e3 ∙ ap (λ (l : List Operation). l ++ expr_code h m j b) e2 ∙ append_assoc c1 (opened op) (expr_code h m j b)) ep
      ∙ ap (λ (l : List Operation). l ++ right_code op (expr_code h m j b)) e1
      ∙ append_assoc c0 (expr_code h n i a) (right_code op (expr_code h m j b))
      ∙ ap (λ (l : List Operation). c0 ++ (expr_code h n i a ++ right_code op l)) (behind (λ m j. expr_code h m j b))

  pub binary_depth : (l r k : ℕ) → l ≡ expr_depth h n i a → r ≡ expr_depth h m j b → k ≡ operand_depth op r → max l k ≡ expr_depth h n i (tree.Binary q op a b)
  binary_depth l r k el er ek =
      ap (λ l. max l k) el ∙ ap (λ k. max (expr_depth h n i a) k) (ek ∙ ap (operand_depth op) (er ∙ behind (λ m j. expr_depth h m j b)))

  pub binary_slots : (l r : ℕ) → l ≡ expr_slots h n i a → r ≡ expr_slots h m j b → max l r ≡ expr_slots h n i (tree.Binary q op a b)
  binary_slots l r el er = ap (λ l. max l r) el ∙ ap (λ r. max (expr_slots h n i a) r) (er ∙ behind (λ m j. expr_slots h m j b))

  pub binary_olds : (k : ℕ) → k ≡ j + olds_in b → k ≡ i + olds_in (tree.Binary q op a b)
  binary_olds k ek = omega (arith, ej, ek, length-append (olds_of a) (olds_of b))

  pub both_given : (l : Entities) → is_and_then op ≡ true → l ≡ names_given h m j b → l ≡ names_given h n i (tree.Binary q op a b)
  both_given l e el =
      el ∙ behind (λ m j. names_given h m j b)
      ∙ sym (given_by_operator h n i q op a b ∙ ap (λ t. if t then names_given h (names_given h n i a) (i + olds_in a) b else n) e)

  pub none_given : is_and_then op ≡ false → n ≡ names_given h n i (tree.Binary q op a b)
  none_given e = sym (given_by_operator h n i q op a b ∙ ap (λ t. if t then names_given h (names_given h n i a) (i + olds_in a) b else n) e)

-- ---- calls

pub count_is : (es : List coded.Expr) → count (exprs_of es) ≡ length es
count_is [] = refl
count_is (e ∷ es) = ap (λ k. suc k) (count_is es)

module _ (h : Setting) (n m : Entities) (i j : ℕ) (q : Span) (a : Expr) (x : Name) (es : List coded.Expr) (t : Option EntityType) (ts : List EntityType)
    (em : m ≡ n) (ej : j ≡ i + olds_in a) (et : t ≡ expr_type h n i a) (ets : ts ≡ exprs_types h m j (exprs_of es)) where
  behind_target : {A : Type 0} (f : Entities → ℕ → A) → f m j ≡ f n (i + olds_in a)
  behind_target f = ap (λ m. f m j) em ∙ ap (λ j. f n j) ej

  pub qualified_code : (c0 c1 c2 c3 : List Operation) (k : ℕ) → c1 ≡ c0 ++ expr_code h n i a → c2 ≡ c1 ++ exprs_code h m j (exprs_of es) → k ≡ length es →
      c3 ≡ c2 ++ feature_call h x.text k t ts → c3 ≡ c0 ++ expr_code h n i (tree.Call q (tree.target a) x (exprs_of es))
  qualified_code c0 c1 c2 c3 k e1 e2 ek e3 =
      let first = expr_code h n i a in
      let us = exprs_code h n (i + olds_in a) (exprs_of es) in
      let call : feature_call h x.text k t ts ≡ feature_call h x.text (count (exprs_of es)) (expr_type h n i a) (exprs_types h n (i + olds_in a) (exprs_of es)) =
      ap (λ k. feature_call h x.text k t ts) (ek ∙ sym (count_is es))
      ∙ ap (λ t. feature_call h x.text (count (exprs_of es)) t ts) et
      ∙ ap (λ ts. feature_call h x.text (count (exprs_of es)) (expr_type h n i a) ts) (ets ∙ behind_target (λ m j. exprs_types h m j (exprs_of es))) in
      let last = feature_call h x.text (count (exprs_of es)) (expr_type h n i a) (exprs_types h n (i + olds_in a) (exprs_of es)) in
      e3 ∙ ap (λ (l : List Operation). c2 ++ l) call
      ∙ ap (λ (l : List Operation). l ++ last) (e2 ∙ ap (λ (l : List Operation). c1 ++ l) (behind_target (λ m j. exprs_code h m j (exprs_of es))))
      ∙ append_assoc c1 us last
      ∙ ap (λ (l : List Operation). l ++ (us ++ last)) e1
      ∙ append_assoc c0 first (us ++ last)

  pub qualified_depth : (l r k : ℕ) → l ≡ expr_depth h n i a → r ≡ exprs_depth h m j (exprs_of es) → k ≡ r + 1 →
      max l k ≡ expr_depth h n i (tree.Call q (tree.target a) x (exprs_of es))
  qualified_depth l r k el er ek =
      ap (λ l. max l k) el
      ∙ ap (λ k. max (expr_depth h n i a) k) (ek ∙ add-one r ∙ ap (λ r. suc r) (er ∙ behind_target (λ m j. exprs_depth h m j (exprs_of es))))

  pub qualified_olds : (k : ℕ) → k ≡ j + length (olds_of_each (exprs_of es)) → k ≡ i + olds_in (tree.Call q (tree.target a) x (exprs_of es))
  qualified_olds k ek = omega (arith, ej, ek, length-append (olds_of a) (olds_of_each (exprs_of es)))

-- ---- expressions one after the other

pub next_code : (h : Setting) (n m : Entities) (i j : ℕ) (e : Expr) (es : Exprs) (c0 c1 total : List Operation) → m ≡ n → j ≡ i + olds_in e → c1 ≡ c0 ++ expr_code h m i e →
    c0 ++ exprs_code h n i (tree.expr_then e es) ≡ total → c1 ++ exprs_code h n j es ≡ total
next_code h n m i j e es c0 c1 total em ej e1 et =
    ap (λ (l : List Operation). l ++ exprs_code h n j es) (e1 ∙ ap (λ m. c0 ++ expr_code h m i e) em)
    ∙ append_assoc c0 (expr_code h n i e) (exprs_code h n j es)
    ∙ ap (λ j. c0 ++ (expr_code h n i e ++ exprs_code h n j es)) ej ∙ et

with_type_append : (t : Option EntityType) (ts : List EntityType) → with_type t [] ++ ts ≡ with_type t ts
with_type_append None ts = refl
with_type_append (Some t) ts = refl

pub next_types : (h : Setting) (n m : Entities) (i j : ℕ) (e : Expr) (es : Exprs) (t : Option EntityType) (ts us total : List EntityType) → m ≡ n → j ≡ i + olds_in e →
    t ≡ expr_type h m i e → us ≡ ts ++ with_type t [] → ts ++ exprs_types h n i (tree.expr_then e es) ≡ total → us ++ exprs_types h n j es ≡ total
next_types h n m i j e es t ts us total em ej et eu eo =
    ap (λ (l : List EntityType). l ++ exprs_types h n j es) (eu ∙ ap (λ t. ts ++ with_type t []) (et ∙ ap (λ m. expr_type h m i e) em))
    ∙ append_assoc ts (with_type (expr_type h n i e) []) (exprs_types h n j es)
    ∙ ap (λ (l : List EntityType). ts ++ l) (with_type_append (expr_type h n i e) (exprs_types h n j es))
    ∙ ap (λ j. ts ++ with_type (expr_type h n i e) (exprs_types h n j es)) ej ∙ eo

pub next_depth : (h : Setting) (n m : Entities) (i j : ℕ) (e : Expr) (es : Exprs) (d k s total number : ℕ) → m ≡ n → j ≡ i + olds_in e → d ≡ expr_depth h m i e → s ≡ number + d →
    max k (number + exprs_depth h n i (tree.expr_then e es)) ≡ total → max (max k s) (suc number + exprs_depth h n j es) ≡ total
next_depth h n m i j e es d k s total number em ej ed es_ et =
    let here : d ≡ expr_depth h n i e = ed ∙ ap (λ m. expr_depth h m i e) em in
    let rest : exprs_depth h n j es ≡ exprs_depth h n (i + olds_in e) es = ap (λ j. exprs_depth h n j es) ej in
    omega (arith, here, rest, es_, et)

pub next_olds : (i j k total : ℕ) (e : Expr) (es : Exprs) → j ≡ i + olds_in e → i + length (olds_of_each (tree.expr_then e es)) ≡ total → j + length (olds_of_each es) ≡ total
next_olds i j k total e es ej et = omega (arith, ej, et, length-append (olds_of e) (olds_of_each es))

-- ---- calls with no target

own_read : (x : List ℕ) (actuals call : List Operation) (f : OwnFeature) → routine_given None f ≡ None → own_code x actuals call f ≡ read_code x None f
own_read x actuals call own.Unknown e = refl
own_read x actuals call (own.Attribute t) e = refl
own_read x actuals call (own.Routine t) e = absurd (cc)

own_read_type : (f : OwnFeature) → routine_given None f ≡ None → own_type f ≡ read_type None f
own_read_type own.Unknown e = refl
own_read_type (own.Attribute t) e = refl
own_read_type (own.Routine t) e = absurd (cc)

own_read_depth : (d : ℕ) (f : OwnFeature) → routine_given None f ≡ None → own_depth d f ≡ 1
own_read_depth d own.Unknown e = refl
own_read_depth d (own.Attribute t) e = refl
own_read_depth d (own.Routine t) e = absurd (cc)

own_routine : (t : Option EntityType) (f : OwnFeature) → routine_given None f ≡ Some t → f ≡ own.Routine t
own_routine t own.Unknown e = absurd (cc)
own_routine t (own.Attribute u) e = absurd (cc)
own_routine t (own.Routine u) e = cc

module _ (h : Setting) (x : List ℕ) (f : Option DeclaredFeature) where
  pub read_code-is : (actuals call : List Operation) (o : Option (ℕ × Option EntityType)) → routine_given o (own_feature h.system (current (here h)) f) ≡ None →
      read_code x o (own_feature h.system (current (here h)) f) ≡ name_code h x actuals call o f
  read_code-is actuals call (Some (k, t)) e = sym (entity_read h x actuals call k t f)
  read_code-is actuals call None e = sym (own_code-is h x actuals call f ∙ own_read x actuals call (own_feature h.system (current (here h)) f) e)

  pub read_depth-is : (d : ℕ) (o : Option (ℕ × Option EntityType)) → routine_given o (own_feature h.system (current (here h)) f) ≡ None → 1 ≡ name_depth d o f
  read_depth-is d (Some found) e = refl
  read_depth-is d None e = sym (own_depth-is h.system (current (here h)) d f ∙ own_read_depth d (own_feature h.system (current (here h)) f) e)

  pub routine_code-is : (actuals call : List Operation) (t : Option EntityType) (o : Option (ℕ × Option EntityType)) → routine_given o (own_feature h.system (current (here h)) f) ≡ Some t →
      actuals ++ call ≡ name_code h x actuals call o f
  routine_code-is actuals call t (Some found) e = absurd (cc)
  routine_code-is actuals call t None e =
      sym (own_code-is h x actuals call f ∙ ap (own_code x actuals call) (own_routine t (own_feature h.system (current (here h)) f) e))

  pub routine_depth-is : (d : ℕ) (t : Option EntityType) (o : Option (ℕ × Option EntityType)) → routine_given o (own_feature h.system (current (here h)) f) ≡ Some t →
      max 1 d ≡ name_depth d o f
  routine_depth-is d t (Some found) e = absurd (cc)
  routine_depth-is d t None e =
      sym (own_depth-is h.system (current (here h)) d f ∙ ap (own_depth d) (own_routine t (own_feature h.system (current (here h)) f) e))

pub read_type-is : (h : Setting) (x : List ℕ) (o : Option (ℕ × Option EntityType)) → routine_given o (own_named h x) ≡ None → read_type o (own_named h x) ≡ name_type h x o
read_type-is h x (Some found) e = refl
read_type-is h x None e =
    sym (own_type-is h.system (current (here h)) (feature_named h.system (class.Declared h.text.class) x) ∙ own_read_type (own_named h x) e)

pub routine_type-is : (h : Setting) (x : List ℕ) (t : Option EntityType) (o : Option (ℕ × Option EntityType)) → routine_given o (own_named h x) ≡ Some t → t ≡ name_type h x o
routine_type-is h x t (Some found) e = absurd (cc)
routine_type-is h x t None e =
    sym (own_type-is h.system (current (here h)) (feature_named h.system (class.Declared h.text.class) x) ∙ ap own_type (own_routine t (own_named h x) e))

-- a routine of Current, behind its actuals
pub routine_called : (h : Setting) (n : Entities) (i : ℕ) (x : List ℕ) (es : List coded.Expr) (ts : List EntityType) (c0 c1 c2 : List Operation) (k : ℕ) →
    ts ≡ exprs_types h n i (exprs_of es) → k ≡ length es → c1 ≡ c0 ++ exprs_code h n i (exprs_of es) → c2 ≡ c1 ++ routine_call h x k ts →
    c2 ≡ c0 ++ (exprs_code h n i (exprs_of es) ++ routine_call h x (count (exprs_of es)) (exprs_types h n i (exprs_of es)))
routine_called h n i x es ts c0 c1 c2 k et ek e1 e2 =
    e2 ∙ ap (λ (l : List Operation). l ++ routine_call h x k ts) e1 ∙ append_assoc c0 _ _
    ∙ ap (λ k. c0 ++ (exprs_code h n i (exprs_of es) ++ routine_call h x k ts)) (ek ∙ sym (count_is es))
    ∙ ap (λ ts. c0 ++ (exprs_code h n i (exprs_of es) ++ routine_call h x (count (exprs_of es)) ts)) et
