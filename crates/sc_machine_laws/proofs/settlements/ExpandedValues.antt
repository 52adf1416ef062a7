-- Values of INTEGER and BOOLEAN: what operators give is no reference, and they lend nothing.
use Rattle.std.proofs.Common.{ℕ, zero, suc, ◌≡◌, ◌&&◌, ◌||◌, not, Bool, true, false, List, [], ◌∷◌, ◌++◌, Option, Some, refl, sym, ap, subst, ◌∙◌, inl, inr}
use Rattle.std.specs.Prelude.{length}
use Rattle.std.specs.List.{list_all}
use Rattle.sc_text.proofs.Classes.{and_true}
use Rattle.sc_tree.specs.declared.expression.UnaryOperator.{UnaryOperator}
use Rattle.sc_tree.specs.declared.expression.UnaryOperator.TheVariants as unary
use Rattle.sc_tree.specs.declared.expression.BinaryOperator.{BinaryOperator}
use Rattle.sc_tree.specs.declared.expression.BinaryOperator.TheVariants as binary
use Rattle.sc_tree.specs.Plain.{System}
use Rattle.sc_class.specs.declared.identity.ClassId.{ClassId}
use Rattle.sc_class.specs.declared.identity.ClassId.TheVariants as class
use Rattle.sc_class.specs.Tables.Conformance.{is_expanded, class_conforms}
use Rattle.sc_class.specs.Tables.Features.{DeclaredFeature, feature_named}
use Rattle.sc_rules.specs.declared.entity_types.entity_type.EntityType.{EntityType}
use Rattle.sc_rules.specs.entity_types.Conformance.{integer, boolean}
use Rattle.sc_rules.specs.declared.position.Position.{Position}
use Rattle.sc_rules.specs.declared.position.Position.TheVariants.{Plain, Source, Condition}
use Rattle.sc_rules.specs.Positions.{is_condition, operand_position, shares_names}
use Rattle.sc_rules.specs.Names.{FormalType, of_type, of_none, of_expanded}
use Rattle.sc_rules.specs.Types.{gives_if, is_boolean, is_integer, is_comparable, is_controlled, unary_type, binary_type}
use Rattle.sc_rules.specs.Typing.{is_value}
use Rattle.sc_model.specs.Values.{Reference, Attached, Operand}
use Rattle.sc_model.specs.Steps.{popped}
use Rattle.sc_model.specs.Calls.{passes_one, passes_rights}
use Rattle.sc_machine_laws.specs.states.Points.{Each}
use Rattle.sc_machine_laws.specs.states.Typed.{stacked}
use Rattle.sc_machine_laws.specs.settlements.Clauses.{IsOfType, AreOfTypes}

no : {A : Type 0} → false ≡ true → A
no e = cc

pub same_some : {A : Type 0} {x y : A} → Some x ≡ Some y → x ≡ y
same_some e = cc

-- ---- what operators give is no reference

if_expanded : (b : Bool) (t u : EntityType) → is_expanded t.class ≡ true → gives_if b t ≡ Some u → is_expanded u.class ≡ true
if_expanded true t u e i = subst (λ (v : EntityType). is_expanded v.class ≡ true) (same_some i) e
if_expanded false t u e i = cc

pub unary_expanded : (op : UnaryOperator) (a u : EntityType) → (op ≡ unary.Old → ⊥) → unary_type op a ≡ Some u → is_expanded u.class ≡ true
unary_expanded unary.Old a u ne e = absurd (ne refl)
unary_expanded unary.Not a u ne e = if_expanded (is_boolean a.class) boolean u refl e
unary_expanded unary.Plus a u ne e = if_expanded (is_integer a.class) integer u refl e
unary_expanded unary.Minus a u ne e = if_expanded (is_integer a.class) integer u refl e

pub binary_expanded : (op : BinaryOperator) (a b u : EntityType) → binary_type op a b ≡ Some u → is_expanded u.class ≡ true
binary_expanded binary.Times a b u e = if_expanded (is_integer a.class && is_integer b.class) integer u refl e
binary_expanded binary.Quotient a b u e = if_expanded (is_integer a.class && is_integer b.class) integer u refl e
binary_expanded binary.Remainder a b u e = if_expanded (is_integer a.class && is_integer b.class) integer u refl e
binary_expanded binary.Plus a b u e = if_expanded (is_integer a.class && is_integer b.class) integer u refl e
binary_expanded binary.Minus a b u e = if_expanded (is_integer a.class && is_integer b.class) integer u refl e
binary_expanded binary.Equal a b u e = if_expanded (is_comparable a.class b.class) boolean u refl e
binary_expanded binary.NotEqual a b u e = if_expanded (is_comparable a.class b.class) boolean u refl e
binary_expanded binary.Less a b u e = if_expanded (is_integer a.class && is_integer b.class) boolean u refl e
binary_expanded binary.Greater a b u e = if_expanded (is_integer a.class && is_integer b.class) boolean u refl e
binary_expanded binary.LessEqual a b u e = if_expanded (is_integer a.class && is_integer b.class) boolean u refl e
binary_expanded binary.GreaterEqual a b u e = if_expanded (is_integer a.class && is_integer b.class) boolean u refl e
binary_expanded binary.And a b u e = if_expanded (is_boolean a.class && is_boolean b.class) boolean u refl e
binary_expanded binary.AndThen a b u e = if_expanded (is_boolean a.class && is_boolean b.class) boolean u refl e
binary_expanded binary.Or a b u e = if_expanded (is_boolean a.class && is_boolean b.class) boolean u refl e
binary_expanded binary.OrElse a b u e = if_expanded (is_boolean a.class && is_boolean b.class) boolean u refl e
binary_expanded binary.Xor a b u e = if_expanded (is_boolean a.class && is_boolean b.class) boolean u refl e
binary_expanded binary.Implies a b u e = if_expanded (is_boolean a.class && is_boolean b.class) boolean u refl e

-- INTEGER and BOOLEAN have no features
pub none_of_expanded : (s : System) (c : ClassId) (x : List ℕ) (f : DeclaredFeature) → is_expanded c ≡ true → feature_named s c x ≡ Some f → ⊥
none_of_expanded s class.Integer x f e i = cc
none_of_expanded s class.Boolean x f e i = cc
none_of_expanded s class.Any x f e i = no e
none_of_expanded s class.None x f e i = no e
none_of_expanded s (class.Declared k) x f e i = no e

pub not_joined : (q : Position) (op : BinaryOperator) → is_condition q ≡ false → shares_names q op ≡ true → ⊥
not_joined Plain op e f = no f
not_joined Source op e f = no f
not_joined Condition op e f = no (sym e)

pub plain_operand : (op : BinaryOperator) → is_condition (operand_position op) ≡ false
plain_operand binary.Equal = refl
plain_operand binary.NotEqual = refl
plain_operand op = refl

-- ---- values that lie there

pub same_pair : {A B : Type 0} (a c : A) (b d : B) → ◌≡◌ {A = Option (A × B)} (Some (a, b)) (Some (c, d)) → (a ≡ c) × (b ≡ d)
same_pair {A} {B} a c b d e = let q : ◌≡◌ {A = A × B} (a, b) (c, d) = cc in (ap (λ p. p.0) q, ap (λ p. p.1) q)

pub popped_more : (n : ℕ) (acc vs ws : List Operand) (u : Operand) (rest : List Operand) → popped n acc vs ≡ Some (ws, u ∷ rest) → popped (suc n) acc vs ≡ Some (u ∷ ws, rest)
popped_more zero acc [] ws u rest e = let q : [] ≡ u ∷ rest = (same_pair acc ws [] (u ∷ rest) e).1 in cc
popped_more zero acc (v ∷ vs) ws u rest e =
    let p = same_pair acc ws (v ∷ vs) (u ∷ rest) e in
    let q : acc ≡ ws = p.0 in let z : v ∷ vs ≡ u ∷ rest = p.1 in let r : v ≡ u = cc in let t : vs ≡ rest = cc in
    ap (λ (v : Operand). Some (v ∷ acc, vs)) r ∙ ap (λ (ws : List Operand). Some (u ∷ ws, vs)) q ∙ ap (λ (vs : List Operand). Some (u ∷ ws, vs)) t
popped_more (suc n) acc [] ws u rest e = cc
popped_more (suc n) acc (v ∷ vs) ws u rest e = popped_more n (v ∷ acc) vs ws u rest e

-- the actuals in the order of the text, and what lies under them
pub record Pops (P : Operand → Type 0) (ts us : List EntityType) (vs : List Operand) : Type 0 where
  pub actuals : List Operand
  pub below : List Operand
  pub popped_is : (acc : List Operand) → popped (length ts) acc vs ≡ Some (actuals ++ acc, below)
  pub actuals_are : AreOfTypes ts actuals
  pub below_are : AreOfTypes us below
  pub each : Each P below

pub pops : (P : Operand → Type 0) (ts us : List EntityType) (vs : List Operand) → AreOfTypes (stacked ts us) vs → Each P vs → Pops P ts us vs
pops P [] us vs are each = record { actuals = []; below = vs; popped_is = λ acc. refl; actuals_are = tt; below_are = are; each = each }
pops P (a ∷ ts) us vs are each = by (pops P ts (a ∷ us) vs are each)
  where
    of_below : (acs below : List Operand) → ((acc : List Operand) → popped (length ts) acc vs ≡ Some (acs ++ acc, below)) → AreOfTypes ts acs →
        AreOfTypes (a ∷ us) below → Each P below → Pops P (a ∷ ts) us vs
    of_below acs [] i aa ba e = absurd ba
    of_below acs (u ∷ rest) i aa ba e = record {
      actuals = u ∷ acs;
      below = rest;
      popped_is = λ acc. popped_more (length ts) acc vs (acs ++ acc) u rest (i acc);
      actuals_are = (ba.0, aa);
      below_are = ba.1;
      each = e.1;
    }

    by : Pops P ts (a ∷ us) vs → Pops P (a ∷ ts) us vs
    by z = of_below z.actuals z.below z.popped_is z.actuals_are z.below_are z.each

-- values of INTEGER and BOOLEAN lend nothing
pub none_passed : (fs : List FormalType) (ts : List EntityType) (us : List Operand) → AreOfTypes ts us → list_all (λ (u : EntityType). is_expanded u.class) ts ≡ true →
    passes_rights fs us ≡ false
none_passed [] ts us are e = refl
none_passed (f ∷ fs) [] [] are e = refl
none_passed (f ∷ fs) (t ∷ ts) [] are e = absurd are
none_passed (f ∷ fs) [] (u ∷ us) are e = absurd are
none_passed (f ∷ fs) (t ∷ ts) (u ∷ us) are e =
    let both = and_true (is_expanded t.class) (list_all (λ (u : EntityType). is_expanded u.class) ts) e in
    ap (λ (b : Bool). b || passes_rights fs us) (one f (own are.0 both.0)) ∙ none_passed fs ts us are.1 both.1
  where
    own : IsOfType t u → is_expanded t.class ≡ true → is_expanded u.type.class ≡ true
    own (inl i) e = ap (λ (v : EntityType). is_expanded v.class) i ∙ e
    own (inr i) e = i.1

    last : (a b c : Bool) → c ≡ true → (a && b && not c) ≡ false
    last a b false e = no e
    last true true true e = refl
    last true false true e = refl
    last false true true e = refl
    last false false true e = refl

    one : (f : FormalType) → is_expanded u.type.class ≡ true → passes_one f u.type ≡ false
    one (of_type g) e = last g.attached (is_controlled u.type) (is_expanded u.type.class) e
    one of_none e = refl
    one of_expanded e = refl

abbrev pub somes : List EntityType → List (Option EntityType)
somes [] = []
somes (t ∷ ts) = Some t ∷ somes ts

pub values_expanded : (ts : List EntityType) → list_all is_value (somes ts) ≡ list_all (λ (u : EntityType). is_expanded u.class) ts
values_expanded [] = refl
values_expanded (t ∷ ts) = ap (λ (b : Bool). is_expanded t.class && b) (values_expanded ts)

-- an object's class conforms to the type of its value
abbrev pub HasClass : System → Operand → Type 0
HasClass s u = (r : Reference) → u.value ≡ Attached r → class_conforms s (class.Declared r.class) u.type.class ≡ true
