-- What is a formula over the attributes of a class is one where those are of types that fit; so is what may be one,
-- where all types are declared without fault.
use Rattle.std.proofs.Common.{◌≡◌, ℕ, List, [], Bool, true, false, not, ◌&&◌, Option, Some, None, refl}
use Rattle.std.specs.Prelude.{is_some}
use Rattle.sc_tree.specs.Plain.{System, FeatureKind, Attribute, Routine, Expr, Integer, Boolean, Void, Current, Result, Call, Unary, Binary, ObjectTest, no_target, target, no_exprs, expr_then}
use Rattle.sc_class.specs.declared.identity.ClassId.TheVariants as class
use Rattle.sc_class.specs.Tables.Features.{DeclaredFeature, feature_named}
use Rattle.sc_rules.specs.declared.entity_types.entity_type.EntityType.{EntityType}
use Rattle.sc_rules.specs.Types.{declared_type}
use Rattle.sc_rules.specs.Positions.{is_old, is_equality}
use Rattle.sc_rules.specs.Laws.{is_declared, AllDeclared}
use Rattle.sc_rules.specs.SystemRules.{attribute_type_of, attribute_type_in, attribute_type_named, is_value_type, is_reference_type, is_reference_attribute, is_formula_where, is_formula, may_be_formula}
use Rattle.sc_rules.proofs.Typings.{named_declared}

both : (a b : Bool) → (a && b) ≡ true → (a ≡ true) × (b ≡ true)
both true b e = (refl, e)
both false b e = cc

two : (a b : Bool) → a ≡ true → b ≡ true → (a && b) ≡ true
two true b e f = f
two false b e f = cc

-- what fits of the attributes of a class fits of those of another
module _ (s : System) (b c : Bool) (k j : ℕ)
    (value : (x : List ℕ) → is_value_type b (attribute_type_named s k x) ≡ true →
    is_value_type c (attribute_type_named s j x) ≡ true)
    (reference : (x : List ℕ) → is_reference_type b (attribute_type_named s k x) ≡ true →
    is_reference_type c (attribute_type_named s j x) ≡ true) where
  reference_attribute : (e : Expr) → is_reference_attribute b s k e ≡ true → is_reference_attribute c s j e ≡ true
  reference_attribute (Call p no_target x no_exprs) f = reference x.text f
  reference_attribute (Call p no_target x (expr_then e es)) f = cc
  reference_attribute (Call p (target a) x es) f = cc
  reference_attribute (Integer p v) f = cc
  reference_attribute (Boolean p v) f = cc
  reference_attribute (Void p) f = cc
  reference_attribute (Current p) f = cc
  reference_attribute (Result p) f = cc
  reference_attribute (Unary p op a) f = cc
  reference_attribute (Binary p op a e) f = cc
  reference_attribute (ObjectTest p d a x) f = cc

  abbrev Stays : Expr → Type 0
  Stays e = is_formula_where b s k e ≡ true → is_formula_where c s j e ≡ true

  -- of an operator with another right side than Void
  joined : (a e : Expr) → Stays a → Stays e → (is_formula_where b s k a && is_formula_where b s k e) ≡ true →
      (is_formula_where c s j a && is_formula_where c s j e) ≡ true
  joined a e v w f =
      let g = both (is_formula_where b s k a) (is_formula_where b s k e) f in
      two (is_formula_where c s j a) (is_formula_where c s j e) (v g.0) (w g.1)

  pub formula_there : (e : Expr) → Stays e
  unfolding is_formula_where
  formula_there (Integer p v) f = refl
  formula_there (Boolean p v) f = refl
  formula_there (Call p no_target x no_exprs) f = value x.text f
  formula_there (Call p no_target x (expr_then e es)) f = cc
  formula_there (Call p (target a) x es) f = cc
  formula_there (Void p) f = cc
  formula_there (Current p) f = cc
  formula_there (Result p) f = cc
  formula_there (ObjectTest p d a x) f = cc
  formula_there (Unary p op a) f =
      let g = both (not (is_old op)) (is_formula_where b s k a) f in
      two (not (is_old op)) (is_formula_where c s j a) g.0 (formula_there a g.1)
  formula_there (Binary p op a (Void q)) f =
      let g = both (is_equality op) (is_reference_attribute b s k a) f in
      two (is_equality op) (is_reference_attribute c s j a) g.0 (reference_attribute a g.1)
  formula_there (Binary p op a (Integer q v)) f =
      joined a (Integer q v) (formula_there a) (formula_there (Integer q v)) f
  formula_there (Binary p op a (Boolean q v)) f =
      joined a (Boolean q v) (formula_there a) (formula_there (Boolean q v)) f
  formula_there (Binary p op a (Current q)) f =
      joined a (Current q) (formula_there a) (formula_there (Current q)) f
  formula_there (Binary p op a (Result q)) f = joined a (Result q) (formula_there a) (formula_there (Result q)) f
  formula_there (Binary p op a (Call q t x es)) f =
      joined a (Call q t x es) (formula_there a) (formula_there (Call q t x es)) f
  formula_there (Binary p op a (Unary q o e)) f =
      joined a (Unary q o e) (formula_there a) (formula_there (Unary q o e)) f
  formula_there (Binary p op a (Binary q o d e)) f =
      joined a (Binary q o d e) (formula_there a) (formula_there (Binary q o d e)) f
  formula_there (Binary p op a (ObjectTest q d e x)) f =
      joined a (ObjectTest q d e x) (formula_there a) (formula_there (ObjectTest q d e x)) f

-- ---- where all types are declared without fault

untyped : (o : Option EntityType) → is_some o ≡ true → Some o ≡ Some None → ⊥
untyped None h e = cc
untyped (Some t) h e = cc

module _ (s : System) (declared : AllDeclared s) (k : ℕ) where
  -- no attribute is without a type
  none_untyped : (x : List ℕ) → attribute_type_named s k x ≡ Some None → ⊥
  none_untyped x e = by (feature_named s (class.Declared k) x) refl e
    where
      of_kind : (m : FeatureKind) → is_declared s m ≡ true → attribute_type_of s m ≡ Some None → ⊥
      of_kind (Routine routine) d e = cc
      of_kind (Attribute d) h e = untyped (declared_type s [] d) h e

      by : (o : Option DeclaredFeature) → feature_named s (class.Declared k) x ≡ o →
          attribute_type_in s o ≡ Some None → ⊥
      by None i e = cc
      by (Some f) i e = of_kind f.feature.kind (named_declared s declared (class.Declared k) x f i) e

  value_known : (x : List ℕ) → is_value_type true (attribute_type_named s k x) ≡ true →
      is_value_type false (attribute_type_named s k x) ≡ true
  value_known x e = by (attribute_type_named s k x) refl e
    where
      by : (o : Option (Option EntityType)) → attribute_type_named s k x ≡ o → is_value_type true o ≡ true →
          is_value_type false o ≡ true
      by None i e = e
      by (Some None) i e = absurd (none_untyped x i)
      by (Some (Some t)) i e = e

  reference_known : (x : List ℕ) → is_reference_type true (attribute_type_named s k x) ≡ true →
      is_reference_type false (attribute_type_named s k x) ≡ true
  reference_known x e = by (attribute_type_named s k x) refl e
    where
      by : (o : Option (Option EntityType)) → attribute_type_named s k x ≡ o → is_reference_type true o ≡ true →
          is_reference_type false o ≡ true
      by None i e = e
      by (Some None) i e = absurd (none_untyped x i)
      by (Some (Some t)) i e = e

  pub formula_if_may : (e : Expr) → may_be_formula s k e ≡ true → is_formula s k e ≡ true
  formula_if_may = formula_there s true false k k value_known reference_known
