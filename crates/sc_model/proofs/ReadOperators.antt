-- What operators give where their operands can be read as terms or formulas.
use Rattle.std.proofs.Common.{◌≡◌, ◌⊎◌, inl, inr, ℕ, zero, suc, Bool, true, false, not, ◌&&◌, List, [], ◌∷◌, Option, Some, None, is_some, refl, ap, ◌∙◌, subst}
use Rattle.std.specs.Prelude.{bytes_eq, if◌then◌else◌}
use Rattle.std.specs.List.{cons_option}
use Rattle.std.specs.Option.{option_map, option_or}
use Rattle.sc_tree.specs.declared.expression.UnaryOperator.{UnaryOperator}
use Rattle.sc_tree.specs.declared.expression.UnaryOperator.TheVariants as unary
use Rattle.sc_tree.specs.declared.expression.BinaryOperator.{BinaryOperator}
use Rattle.sc_tree.specs.declared.expression.BinaryOperator.TheVariants as binary
use Rattle.sc_tree.specs.Plain as tree
use Rattle.sc_tree.specs.Plain.{System, FeatureKind}
use Rattle.sc_formula.specs.declared.arithmetic.ArithmeticOperator.{ArithmeticOperator}
use Rattle.sc_formula.specs.declared.comparison.Comparison.{Comparison}
use Rattle.sc_formula.specs.declared.connective.Connective.{Connective}
use Rattle.sc_formula.specs.Formula.{PlainFormula}
use Rattle.sc_formula.specs.Term.{PlainTerm}
use Rattle.sc_class.proofs.Items.{some_is}
use Rattle.sc_class.specs.Tables.Features.{DeclaredFeature, named_among}
use Rattle.sc_class.specs.declared.identity.ClassId.{ClassId}
use Rattle.sc_class.specs.declared.identity.ClassId.TheVariants as class
use Rattle.sc_rules.specs.declared.entity_types.entity_type.EntityType.{EntityType}
use Rattle.sc_rules.specs.entity_types.Conformance.{integer, boolean}
use Rattle.sc_rules.specs.declared.position.Role.TheVariants as role
use Rattle.sc_rules.specs.Positions.{is_old}
use Rattle.sc_rules.specs.Types.{declared_type, is_integer, is_boolean, is_comparable, gives_if, unary_result, binary_result}
use Rattle.sc_rules.specs.SystemRules.{attribute_type_of, attribute_type_in}
use Rattle.sc_model.specs.Environments.{Binding, bind}
use Rattle.sc_model.specs.Invariants.{attribute_named, unary_term, arithmetic_term, unary_formula, comparison_formula, connective_formula}
use Rattle.sc_model.specs.Objects.{fresh_attribute, fresh_attributes}
use Rattle.sc_model.specs.Operators.{arithmetic_of, comparison_of, connective_of}
use Rattle.sc_model.specs.Values.{Value, default_of}

-- ---- the attributes of a new object

-- an attribute of the name has a number, and this default
abbrev pub Numbered : List ℕ → List Binding → Value → Type 0
Numbered x bs v = (i : ℕ) × (attribute_named x bs ≡ Some (i, v))

abbrev behind_one : Option (ℕ × Value) → Option (ℕ × Value)
behind_one found = option_map (λ (found : ℕ × Value). (suc found.0, found.1)) found

-- the first of them, or one behind it
abbrev first_or : Bool → Value → Option (ℕ × Value) → Option (ℕ × Value)
first_or b v found = if b then Some (zero, v) else behind_one found

module _ (s : System) (x : List ℕ) where
  -- an attribute of this name and, if it has one, this type before others
  abbrev before : List ℕ → List Binding → Option EntityType → List Binding
  before y bs o = cons_option (option_map (λ (t : EntityType). bind y t role.Local (default_of t.class)) o) bs

  -- a feature of the name that is an attribute is the first attribute of the name
  here : (y : List ℕ) (bs : List Binding) (t : EntityType) (k : FeatureKind) → bytes_eq y x ≡ true →
      attribute_type_of s k ≡ Some (Some t) →
      Numbered x (cons_option (fresh_attribute s y k) bs) (default_of t.class)
  here y bs t (tree.Attribute d) b e =
      let type : declared_type s [] d ≡ Some t = some_is (declared_type s [] d) (Some t) e in (
        zero,
        ap (λ (o : Option EntityType). attribute_named x (before y bs o)) type
            ∙ ap (λ (b : Bool). first_or b (default_of t.class) (attribute_named x bs)) b,
      )
  here y bs t (tree.Routine r) b e = cc

  -- one of another name is passed
  behind : (y : List ℕ) (bs : List Binding) (v : Value) (k : FeatureKind) → bytes_eq y x ≡ false → Numbered x bs v →
      Numbered x (cons_option (fresh_attribute s y k) bs) v
  behind y bs v (tree.Routine r) b n = n
  behind y bs v (tree.Attribute d) b n = by (declared_type s [] d)
    where
      by : (o : Option EntityType) → Numbered x (before y bs o) v
      by None = n
      by (Some t) = (
        suc n.0,
        ap (λ (b : Bool). first_or b (default_of t.class) (attribute_named x bs)) b ∙ ap behind_one n.1,
      )

  -- the attribute of the name has a number, and its type's default
  pub attribute_numbered : (fs : List DeclaredFeature) (t : EntityType) →
      attribute_type_in s (named_among x fs) ≡ Some (Some t) →
      Numbered x (fresh_attributes s fs) (default_of t.class)
  attribute_numbered [] t e = cc
  attribute_numbered (f ∷ fs) t e = by (bytes_eq f.feature.name.text x) refl (attribute_numbered fs t) e
    where
      by : (b : Bool) → bytes_eq f.feature.name.text x ≡ b →
          (attribute_type_in s (named_among x fs) ≡ Some (Some t) →
          Numbered x (fresh_attributes s fs) (default_of t.class)) →
          attribute_type_in s (if b then Some f else named_among x fs) ≡ Some (Some t) →
          Numbered x (fresh_attributes s (f ∷ fs)) (default_of t.class)
      by true b later e = here f.feature.name.text (fresh_attributes s fs) t f.feature.kind b e
      by false b later e =
          behind f.feature.name.text (fresh_attributes s fs) (default_of t.class) f.feature.kind b (later e)

-- ---- operators

-- As what an expression of the class can be read: as a term, or as a formula. References are neither.
abbrev pub Reads : Option PlainTerm → Option PlainFormula → ClassId → Type 0
Reads u f class.Integer = is_some u ≡ true
Reads u f class.Boolean = is_some f ≡ true
Reads u f class.Any = ⊥
Reads u f class.None = ⊥
Reads u f (class.Declared k) = ⊥

-- the same of an expression that may have a type
abbrev pub ReadsAs : Option PlainTerm → Option PlainFormula → Option EntityType → Type 0
ReadsAs u f None = ⊥
ReadsAs u f (Some t) = Reads u f t.class

-- what an operator gives where it takes its operands
pub given : (b : Bool) (t : EntityType) (r : Option EntityType) →
    option_map (λ (t : EntityType). Some t) (gives_if b t) ≡ Some r → (b ≡ true) × (Some t ≡ r)
given true t r e = (refl, some_is (Some t) r e)
given false t r e = cc

mapped : {A B : Type 0} (f : A → B) (o : Option A) → is_some o ≡ true → is_some (option_map f o) ≡ true
mapped f None e = cc
mapped f (Some x) e = refl

computed : (o : ArithmeticOperator) (l r : Option PlainTerm) → is_some l ≡ true → is_some r ≡ true →
    is_some (arithmetic_term (Some o) l r) ≡ true
computed o None r i j = cc
computed o (Some x) None i j = cc
computed o (Some x) (Some y) i j = refl

compared : (o : Comparison) (l r : Option PlainTerm) (other : Option PlainFormula) → is_some l ≡ true →
    is_some r ≡ true →
    is_some (option_or (comparison_formula (Some o) l r) other) ≡ true
compared o None r other i j = cc
compared o (Some x) None other i j = cc
compared o (Some x) (Some y) other i j = refl

connected : (first : Option PlainFormula) (o : Connective) (l r : Option PlainFormula) → is_some l ≡ true →
    is_some r ≡ true →
    is_some (option_or first (connective_formula (Some o) l r)) ≡ true
connected (Some f) o l r i j = refl
connected None o None r i j = cc
connected None o (Some x) None i j = cc
connected None o (Some x) (Some y) i j = refl

pub unary_read : (op : UnaryOperator) (u : Option PlainTerm) (f : Option PlainFormula) (t r : Option EntityType) →
    not (is_old op) ≡ true → ReadsAs u f t →
    unary_result op t ≡ Some r → ReadsAs (unary_term op u) (unary_formula op f) r
unary_read op u f None r o a e = absurd a
unary_read unary.Old u f (Some t) r o a e = cc
unary_read unary.Not u f (Some t) r o a e = by t.class a (given (is_boolean t.class) boolean r e)
  where
    by : (c : ClassId) → Reads u f c → (is_boolean c ≡ true) × (Some boolean ≡ r) →
        ReadsAs (unary_term unary.Not u) (unary_formula unary.Not f) r
    by class.Boolean a g = subst (ReadsAs (unary_term unary.Not u) (unary_formula unary.Not f)) g.1 (mapped _ f a)
    by class.Integer a (g, h) = cc
    by class.Any a g = absurd a
    by class.None a g = absurd a
    by (class.Declared k) a g = absurd a
unary_read unary.Plus u f (Some t) r o a e = by t.class a (given (is_integer t.class) integer r e)
  where
    by : (c : ClassId) → Reads u f c → (is_integer c ≡ true) × (Some integer ≡ r) →
        ReadsAs (unary_term unary.Plus u) (unary_formula unary.Plus f) r
    by class.Integer a g = subst (ReadsAs (unary_term unary.Plus u) (unary_formula unary.Plus f)) g.1 (mapped _ u a)
    by class.Boolean a (g, h) = cc
    by class.Any a g = absurd a
    by class.None a g = absurd a
    by (class.Declared k) a g = absurd a
unary_read unary.Minus u f (Some t) r o a e = by t.class a (given (is_integer t.class) integer r e)
  where
    by : (c : ClassId) → Reads u f c → (is_integer c ≡ true) × (Some integer ≡ r) →
        ReadsAs (unary_term unary.Minus u) (unary_formula unary.Minus f) r
    by class.Integer a g = subst (ReadsAs (unary_term unary.Minus u) (unary_formula unary.Minus f)) g.1 (mapped _ u a)
    by class.Boolean a (g, h) = cc
    by class.Any a g = absurd a
    by class.None a g = absurd a
    by (class.Declared k) a g = absurd a

-- what the operands can be read as, and their classes
module _ (lt rt : Option PlainTerm) (lf rf : Option PlainFormula) where
  integers : (c d : ClassId) → Reads lt lf c → Reads rt rf d → (is_integer c && is_integer d) ≡ true →
      (is_some lt ≡ true) × (is_some rt ≡ true)
  integers class.Integer class.Integer a b e = (a, b)
  integers class.Integer class.Boolean a b e = cc
  integers class.Integer class.Any a b e = absurd b
  integers class.Integer class.None a b e = absurd b
  integers class.Integer (class.Declared k) a b e = absurd b
  integers class.Boolean d a b e = cc
  integers class.Any d a b e = absurd a
  integers class.None d a b e = absurd a
  integers (class.Declared k) d a b e = absurd a

  truths : (c d : ClassId) → Reads lt lf c → Reads rt rf d → (is_boolean c && is_boolean d) ≡ true →
      (is_some lf ≡ true) × (is_some rf ≡ true)
  truths class.Boolean class.Boolean a b e = (a, b)
  truths class.Boolean class.Integer a b e = cc
  truths class.Boolean class.Any a b e = absurd b
  truths class.Boolean class.None a b e = absurd b
  truths class.Boolean (class.Declared k) a b e = absurd b
  truths class.Integer d a b e = cc
  truths class.Any d a b e = absurd a
  truths class.None d a b e = absurd a
  truths (class.Declared k) d a b e = absurd a

  alike : (c d : ClassId) → Reads lt lf c → Reads rt rf d → is_comparable c d ≡ true →
      ((is_some lt ≡ true) × (is_some rt ≡ true)) ⊎ ((is_some lf ≡ true) × (is_some rf ≡ true))
  alike class.Integer class.Integer a b e = inl (a, b)
  alike class.Integer class.Boolean a b e = cc
  alike class.Integer class.Any a b e = absurd b
  alike class.Integer class.None a b e = absurd b
  alike class.Integer (class.Declared k) a b e = absurd b
  alike class.Boolean class.Boolean a b e = inr (a, b)
  alike class.Boolean class.Integer a b e = cc
  alike class.Boolean class.Any a b e = absurd b
  alike class.Boolean class.None a b e = absurd b
  alike class.Boolean (class.Declared k) a b e = absurd b
  alike class.Any d a b e = absurd a
  alike class.None d a b e = absurd a
  alike (class.Declared k) d a b e = absurd a

  -- what the operator makes of them can be read as what has this type
  abbrev pub Makes : BinaryOperator → Option EntityType → Type 0
  Makes op r =
      ReadsAs (arithmetic_term (arithmetic_of op) lt rt)
      (option_or (comparison_formula (comparison_of op) lt rt) (connective_formula (connective_of op) lf rf)) r

  compares : (op : BinaryOperator) (o : Comparison) → comparison_of op ≡ Some o → is_some lt ≡ true →
      is_some rt ≡ true → Makes op (Some boolean)
  compares op o e i j =
      ap (λ o. is_some (option_or (comparison_formula o lt rt) (connective_formula (connective_of op) lf rf))) e
      ∙ compared o lt rt (connective_formula (connective_of op) lf rf) i j

  connects : (op : BinaryOperator) (o : Connective) → connective_of op ≡ Some o → is_some lf ≡ true →
      is_some rf ≡ true → Makes op (Some boolean)
  connects op o e i j =
      ap (λ o. is_some (option_or (comparison_formula (comparison_of op) lt rt) (connective_formula o lf rf))) e
      ∙ connected (comparison_formula (comparison_of op) lt rt) o lf rf i j

  arithmetic_read : (op : BinaryOperator) (o : ArithmeticOperator) → arithmetic_of op ≡ Some o →
      (c d : ClassId) (r : Option EntityType) →
      Reads lt lf c → Reads rt rf d →
      option_map (λ (t : EntityType). Some t) (gives_if (is_integer c && is_integer d) integer) ≡ Some r → Makes op r
  arithmetic_read op o i c d r a b e =
      let g = given (is_integer c && is_integer d) integer r e in
      let both = integers c d a b g.0 in
      subst (Makes op) g.1 (ap (λ o. is_some (arithmetic_term o lt rt)) i ∙ computed o lt rt both.0 both.1)

  order_read : (op : BinaryOperator) (o : Comparison) → comparison_of op ≡ Some o →
      (c d : ClassId) (r : Option EntityType) →
      Reads lt lf c → Reads rt rf d →
      option_map (λ (t : EntityType). Some t) (gives_if (is_integer c && is_integer d) boolean) ≡ Some r → Makes op r
  order_read op o i c d r a b e =
      let g = given (is_integer c && is_integer d) boolean r e in
      let both = integers c d a b g.0 in
      subst (Makes op) g.1 (compares op o i both.0 both.1)

  logic_read : (op : BinaryOperator) (o : Connective) → connective_of op ≡ Some o →
      (c d : ClassId) (r : Option EntityType) →
      Reads lt lf c → Reads rt rf d →
      option_map (λ (t : EntityType). Some t) (gives_if (is_boolean c && is_boolean d) boolean) ≡ Some r → Makes op r
  logic_read op o i c d r a b e =
      let g = given (is_boolean c && is_boolean d) boolean r e in
      let both = truths c d a b g.0 in
      subst (Makes op) g.1 (connects op o i both.0 both.1)

  equality_read : (op : BinaryOperator) (o : Comparison) (p : Connective) → comparison_of op ≡ Some o →
      connective_of op ≡ Some p →
      (c d : ClassId) (r : Option EntityType) → Reads lt lf c → Reads rt rf d →
      option_map (λ (t : EntityType). Some t) (gives_if (is_comparable c d) boolean) ≡ Some r → Makes op r
  equality_read op o p i j c d r a b e =
      let g = given (is_comparable c d) boolean r e in
      subst (Makes op) g.1 (by (alike c d a b g.0))
    where
      by : ((is_some lt ≡ true) × (is_some rt ≡ true)) ⊎ ((is_some lf ≡ true) × (is_some rf ≡ true)) →
          Makes op (Some boolean)
      by (inl both) = compares op o i both.0 both.1
      by (inr both) = connects op p j both.0 both.1

  pub binary_read : (op : BinaryOperator) (t u r : Option EntityType) → ReadsAs lt lf t → ReadsAs rt rf u →
      binary_result op t u ≡ Some r → Makes op r
  binary_read op None u r a b e = absurd a
  binary_read op (Some t) None r a b e = absurd b
  binary_read binary.Times (Some t) (Some u) r a b e =
      arithmetic_read binary.Times _ refl t.class u.class r a b e
  binary_read binary.Quotient (Some t) (Some u) r a b e =
      arithmetic_read binary.Quotient _ refl t.class u.class r a b e
  binary_read binary.Remainder (Some t) (Some u) r a b e =
      arithmetic_read binary.Remainder _ refl t.class u.class r a b e
  binary_read binary.Plus (Some t) (Some u) r a b e =
      arithmetic_read binary.Plus _ refl t.class u.class r a b e
  binary_read binary.Minus (Some t) (Some u) r a b e =
      arithmetic_read binary.Minus _ refl t.class u.class r a b e
  binary_read binary.Equal (Some t) (Some u) r a b e =
      equality_read binary.Equal _ _ refl refl t.class u.class r a b e
  binary_read binary.NotEqual (Some t) (Some u) r a b e =
      equality_read binary.NotEqual _ _ refl refl t.class u.class r a b e
  binary_read binary.Less (Some t) (Some u) r a b e =
      order_read binary.Less _ refl t.class u.class r a b e
  binary_read binary.Greater (Some t) (Some u) r a b e =
      order_read binary.Greater _ refl t.class u.class r a b e
  binary_read binary.LessEqual (Some t) (Some u) r a b e =
      order_read binary.LessEqual _ refl t.class u.class r a b e
  binary_read binary.GreaterEqual (Some t) (Some u) r a b e =
      order_read binary.GreaterEqual _ refl t.class u.class r a b e
  binary_read binary.And (Some t) (Some u) r a b e =
      logic_read binary.And _ refl t.class u.class r a b e
  binary_read binary.AndThen (Some t) (Some u) r a b e =
      logic_read binary.AndThen _ refl t.class u.class r a b e
  binary_read binary.Or (Some t) (Some u) r a b e =
      logic_read binary.Or _ refl t.class u.class r a b e
  binary_read binary.OrElse (Some t) (Some u) r a b e =
      logic_read binary.OrElse _ refl t.class u.class r a b e
  binary_read binary.Xor (Some t) (Some u) r a b e =
      logic_read binary.Xor _ refl t.class u.class r a b e
  binary_read binary.Implies (Some t) (Some u) r a b e =
      logic_read binary.Implies _ refl t.class u.class r a b e
