-- In an accepted system the joined invariant of each class is a list of formulas over its attributes.
use Rattle.std.proofs.Common.{◌≡◌, ◌⊎◌, inl, inr, ℕ, zero, suc, ◌<◌, Bool, true, false, not, ◌&&◌, List, [], ◌∷◌, length, Option, Some, None, is_some, refl, sym, ap, ◌∙◌, subst, arith}
use Rattle.std.specs.Prelude.{Contains, if◌then◌else◌}
use Rattle.std.specs.Option.{option_map, option_and_then, option_or}
use Rattle.sc_text.specs.declared.token.Span.{Span}
use Rattle.sc_tree.specs.declared.expression.UnaryOperator.{UnaryOperator}
use Rattle.sc_tree.specs.declared.expression.UnaryOperator.TheVariants as unary
use Rattle.sc_tree.specs.declared.expression.BinaryOperator.{BinaryOperator}
use Rattle.sc_tree.specs.declared.expression.BinaryOperator.TheVariants as binary
use Rattle.sc_tree.specs.Plain as tree
use Rattle.sc_tree.specs.Plain.{System, FeatureKind, Clause, Name, Expr, Call, Unary, Binary, Target, no_target, target, Exprs, no_exprs, expr_then}
use Rattle.sc_tree.specs.Properties.{is_print}
use Rattle.sc_formula.specs.Formula.{PlainFormula}
use Rattle.sc_formula.specs.Formula as formula
use Rattle.sc_formula.specs.Term.{PlainTerm}
use Rattle.sc_class.proofs.Items.{some_is}
use Rattle.sc_class.specs.ClassNames.{Root}
use Rattle.sc_class.specs.Faults.ClassRules.{IsFaultless}
use Rattle.sc_class.specs.Tables.Conformance.{is_expanded, is_ancestor}
use Rattle.sc_class.specs.Tables.Features.{DeclaredFeature, features, feature_named, invariant_of}
use Rattle.sc_class.specs.declared.identity.ClassId.{ClassId}
use Rattle.sc_class.specs.declared.identity.ClassId.TheVariants as class
use Rattle.sc_rules.specs.declared.entity_types.entity_type.EntityType.{EntityType}
use Rattle.sc_rules.specs.declared.entity_types.tag.Tag.TheVariants as tag
use Rattle.sc_rules.specs.entity_types.Conformance.{void, boolean}
use Rattle.sc_rules.specs.entity_types.Combiners.{result_tag, combined_result}
use Rattle.sc_rules.specs.declared.position.Context.TheVariants as context
use Rattle.sc_rules.specs.declared.position.Position.{Position}
use Rattle.sc_rules.specs.declared.position.Position.TheVariants as spot
use Rattle.sc_rules.specs.Positions.{is_old, is_equality, is_condition, operand_position, shares_names}
use Rattle.sc_rules.specs.Types.{declared_type, is_boolean, is_comparable, unary_result, binary_result}
use Rattle.sc_rules.specs.Names.{RoutineName, RoutineContext, Signature, named, current, given_type, print_signature, signature_of_kind, meaning_of_feature, feature_meaning}
use Rattle.sc_rules.specs.Typing as rule
use Rattle.sc_rules.specs.Typing.{Typing, typing, HasType, call, implicit}
use Rattle.sc_rules.specs.Sites.{expression, itself}
use Rattle.sc_rules.specs.SystemRules.{invariant_context, attribute_type_of, attribute_type_in, attribute_type_named, is_value_type, is_reference_type, is_reference_attribute, is_formula_where, is_formula}
use Rattle.sc_rules.specs.SystemLaws.{IsText, Stands, invariant, stands_in}
use Rattle.sc_rules.specs.Versions.{OfAncestor}
use Rattle.sc_rules.proofs.EachTyped.{each_is_typed_lem}
use Rattle.sc_rules.proofs.InvariantHeirs.{attribute_there, joined_of_ancestors}
use Rattle.sc_rules.proofs.TextLaws.{clauses_are_boolean, invariants_are_formulas}
use Rattle.sc_model.specs.Environments.{Binding}
use Rattle.sc_model.specs.Invariants.{attribute_named, integer_numbered, boolean_numbered, arithmetic_term, term_of, comparison_formula, connective_formula, void_test, void_formula, formula_of, with_clause, clauses_of}
use Rattle.sc_model.specs.Objects.{fresh_attributes}
use Rattle.sc_model.specs.Operators.{arithmetic_of, comparison_of, connective_of}
use Rattle.sc_model.specs.Values.{Value, default_of}
use Rattle.sc_model.specs.Laws.{InvariantsHaveFormulas}
use Rattle.sc_model.proofs.ReadOperators.{Numbered, Reads, ReadsAs, attribute_numbered, binary_read, given, unary_read}

-- ---- attributes, as expressions

abbrev as_term : Option (ℕ × Value) → Option PlainTerm
as_term found = option_and_then (λ found. integer_numbered found.0 found.1) found

abbrev as_formula : Option (ℕ × Value) → Option PlainFormula
as_formula found = option_and_then (λ found. boolean_numbered found.0 found.1) found

-- an attribute's number makes a term or a formula, by the class of its default
value_read : (c : ClassId) (i : ℕ) (found : Option (ℕ × Value)) → found ≡ Some (i, default_of c) →
    is_expanded c ≡ true → Reads (as_term found) (as_formula found) c
value_read class.Integer i found e v = ap (λ found. is_some (as_term found)) e
value_read class.Boolean i found e v = ap (λ found. is_some (as_formula found)) e
value_read class.Any i found e v = cc
value_read class.None i found e v = cc
value_read (class.Declared k) i found e v = cc

-- one is of a value type, or of a reference type, where all that is known of its type says so
typed_value : (o : Option (Option EntityType)) → is_value_type false o ≡ true →
    (t : EntityType) × (o ≡ Some (Some t)) × (is_expanded t.class ≡ true)
typed_value None e = cc
typed_value (Some None) e = cc
typed_value (Some (Some t)) e = (t, refl, e)

typed_reference : (o : Option (Option EntityType)) → is_reference_type false o ≡ true →
    (t : EntityType) × (o ≡ Some (Some t))
typed_reference None e = cc
typed_reference (Some None) e = cc
typed_reference (Some (Some t)) e = (t, refl)

same_class : (a t : EntityType) → (combined_result a t).class ≡ t.class
same_class a t = by (is_expanded t.class)
  where
    chosen : Bool → EntityType
    chosen b =
        if b
        then record { attached = true; tag = tag.Own; class = t.class }
        else record { attached = t.attached; tag = result_tag a.tag t.tag; class = t.class }

    by : (b : Bool) → (chosen b).class ≡ t.class
    by true = refl
    by false = refl

same_signature : (g k : Signature) → named g ≡ named k → g ≡ k
same_signature g k e = cc

-- an attribute of this type, seen from its own object, gives what is of the type's class
abbrev GivesClass : Option EntityType → EntityType → Type 0
GivesClass o t = (u : EntityType) × (o ≡ Some u) × (u.class ≡ t.class)

module _ (s : System) (pure : RoutineName → Bool) (k : ℕ) where
  abbrev text : RoutineContext
  text = invariant_context s pure k

  attribute_gives : (x : List ℕ) (t : EntityType) (g : Signature) (r : Option EntityType) →
      attribute_type_named s k x ≡ Some (Some t) →
      feature_meaning text x ≡ named g → g.gives ≡ Some r → GivesClass r t
  attribute_gives x t g r e m v = by (is_print x) (feature_named s (class.Declared k) x) e m
    where
      of_kind : (f : DeclaredFeature) (k : FeatureKind) → attribute_type_of s k ≡ Some (Some t) →
          named (signature_of_kind s (current text) f k) ≡ named g →
          GivesClass r t
      of_kind f (tree.Routine routine) e m = cc
      of_kind f (tree.Attribute d) e m =
          let type : declared_type s [] d ≡ Some t = some_is (declared_type s [] d) (Some t) e in
          let same = same_signature (signature_of_kind s (current text) f (tree.Attribute d)) g m in
          let gives : Some (given_type s (current text) d) ≡ Some r = ap (λ (g : Signature). g.gives) same ∙ v in (
            combined_result (current text) t,
            sym (some_is (given_type s (current text) d) r gives)
                ∙ ap (option_map (combined_result (current text))) type,
            same_class (current text) t,
          )

      by : (b : Bool) (o : Option DeclaredFeature) → attribute_type_in s o ≡ Some (Some t) →
          (if b then named (print_signature text) else meaning_of_feature s (current text) o) ≡ named g →
          GivesClass r t
      by true o e m =
          let same = same_signature (print_signature text) g m in
          let none : None ≡ Some r = ap (λ (g : Signature). g.gives) same ∙ v in
          cc
      by false None e m = cc
      by false (Some f) e m = of_kind f f.feature.kind e m

  -- the name alone of an attribute is of its type's class
  attribute_typed : {p : Position} {q : Span} {x : Name} {r : Typing} (t : EntityType) →
      attribute_type_named s k x.text ≡ Some (Some t) →
      HasType text context.Invariant p [] (Call q no_target x no_exprs) r → GivesClass r.type t
  attribute_typed {x} t e (call {g = g} {t = r} implicit u m ds f v l w y z) = attribute_gives x.text t g r e m w

-- ---- expressions

operands_plain : (op : BinaryOperator) → is_condition (operand_position op) ≡ false
operands_plain binary.Equal = refl
operands_plain binary.NotEqual = refl
operands_plain _ = refl

none_shared : (p : Position) (op : BinaryOperator) → is_condition p ≡ false → shares_names p op ≡ true → ⊥
none_shared spot.Plain op e f = cc
none_shared spot.Source op e f = cc
none_shared spot.Condition op e f = cc

halves : (a b : Bool) → (a && b) ≡ true → (a ≡ true) × (b ≡ true)
halves true b e = (refl, e)
halves false b e = cc

-- what a test for Void gives
void_read : (u : Option PlainTerm) (op : BinaryOperator) (number : Option ℕ) (t v : EntityType)
    (r : Option EntityType) → is_equality op ≡ true →
    is_some number ≡ true → binary_result op (Some t) (Some v) ≡ Some r → ReadsAs u (void_formula op number) r
void_read u op None t v r e n g = cc
void_read u binary.Equal (Some i) t v r e n g =
    subst (ReadsAs u (Some (formula.IsVoid i))) (given (is_comparable t.class v.class) boolean r g).1 refl
void_read u binary.NotEqual (Some i) t v r e n g =
    subst (ReadsAs u (Some (formula.NotVoid i))) (given (is_comparable t.class v.class) boolean r g).1 refl
void_read u _ (Some i) t v r e n g = cc

module _ (s : System) (root : Root) (faultless : IsFaultless s root) (pure : RoutineName → Bool) (j k : ℕ)
    (above : is_ancestor s j k ≡ true) where
  abbrev attributes : List Binding
  attributes = fresh_attributes s (features s j)

  abbrev judged : RoutineContext
  judged = invariant_context s pure k

  -- the expression can be read as what has this type
  abbrev IsRead : Expr → Option EntityType → Type 0
  IsRead e t = ReadsAs (term_of attributes e) (formula_of attributes e) t

  -- an attribute of the class above has a number in the object
  numbered : (x : List ℕ) (t : EntityType) → attribute_type_named s k x ≡ Some (Some t) →
      Numbered x attributes (default_of t.class)
  numbered x t e = attribute_numbered s x (features s j) t (attribute_there s root faultless j k above x (Some t) e)

  attribute_read : (q : Span) (x : Name) {p : Position} {r : Typing} →
      is_value_type false (attribute_type_named s k x.text) ≡ true →
      HasType judged context.Invariant p [] (Call q no_target x no_exprs) r →
      IsRead (Call q no_target x no_exprs) r.type
  attribute_read q x {r = r} f d =
      let (t, e, v) = typed_value (attribute_type_named s k x.text) f in
      let (u, g, c) = attribute_typed s pure k t e d in
      let (i, n) = numbered x.text t e in
      let found = attribute_named x.text attributes in
      subst (IsRead (Call q no_target x no_exprs)) (sym g)
      (subst (Reads (as_term found) (as_formula found)) (sym c) (value_read t.class i found n v))

  call_read : (q : Span) (a : Target) (x : Name) (es : Exprs) {p : Position} {r : Typing} →
      is_formula s k (Call q a x es) ≡ true →
      HasType judged context.Invariant p [] (Call q a x es) r → IsRead (Call q a x es) r.type
  unfolding is_formula_where
  call_read q no_target x no_exprs f d = attribute_read q x f d
  call_read q no_target x (expr_then e es) f d = cc
  call_read q (target a) x es f d = cc

  -- the comparison of an attribute of references with Void
  void_test_read : (q o : Span) (op : BinaryOperator) (a : Expr) {p : Position} {t u : Typing}
      (r : Option EntityType) → is_equality op ≡ true →
      is_reference_attribute false s k a ≡ true → HasType judged context.Invariant p [] a t →
      HasType judged context.Invariant p [] (tree.Void o) u →
      binary_result op t.type u.type ≡ Some r → IsRead (Binary q op a (tree.Void o)) r
  void_test_read q o op (Call z no_target x no_exprs) {t = t} r e f d (rule.void {s = _} v) g =
      let (w, i) = typed_reference (attribute_type_named s k x.text) f in
      let (y, h, c) = attribute_typed s pure k w i d in
      let (n, m) = numbered x.text w i in
      let tested = Call z no_target x no_exprs in
      void_read (term_of attributes (Binary q op tested (tree.Void o))) op (void_test attributes tested) y void r e
      (ap (λ found. is_some (option_map (λ (found : ℕ × Value). found.0) found)) m)
      (ap (λ t. binary_result op t (Some void)) (sym h) ∙ g)
  void_test_read q o op (Call z no_target x (expr_then y ys)) r e f d v g = cc
  void_test_read q o op (Call z (target y) x es) r e f d v g = cc
  void_test_read q o op (tree.Integer z v) r e f d w g = cc
  void_test_read q o op (tree.Boolean z v) r e f d w g = cc
  void_test_read q o op (tree.Void z) r e f d v g = cc
  void_test_read q o op (tree.Current z) r e f d v g = cc
  void_test_read q o op (tree.Result z) r e f d v g = cc
  void_test_read q o op (Unary z x a) r e f d v g = cc
  void_test_read q o op (Binary z x a b) r e f d v g = cc
  void_test_read q o op (tree.ObjectTest z c a x) r e f d v g = cc

  -- an attribute of references that is compared with Void
  abbrev TestsVoid : BinaryOperator → Expr → Expr → Type 0
  TestsVoid op a b =
      (o : Span) × (b ≡ tree.Void o) × (is_equality op ≡ true) × (is_reference_attribute false s k a ≡ true)

  -- what an operator with another right operand than Void is read as
  abbrev joined_formula : BinaryOperator → Expr → Expr → Option PlainFormula
  joined_formula op a b =
      option_or
      (comparison_formula (comparison_of op) (term_of attributes a) (term_of attributes b))
      (connective_formula (connective_of op) (formula_of attributes a) (formula_of attributes b))

  abbrev Joins : Span → BinaryOperator → Expr → Expr → Type 0
  Joins q op a b =
      (is_formula s k a ≡ true) × (is_formula s k b ≡ true) ×
      (joined_formula op a b ≡ formula_of attributes (Binary q op a b))

  -- The right operand is Void, or it isn't.
  operands : (q : Span) (op : BinaryOperator) (a b : Expr) → is_formula s k (Binary q op a b) ≡ true →
      TestsVoid op a b ⊎ Joins q op a b
  unfolding is_formula_where
  operands q op a (tree.Void o) f =
      let g = halves (is_equality op) (is_reference_attribute false s k a) f in inl (o, refl, g.0, g.1)
  operands q op a b f = let g = halves (is_formula s k a) (is_formula s k b) f in inr (g.0, g.1, refl)

  binary_is_read : (q : Span) (op : BinaryOperator) (a b : Expr) {p : Position} {t u : Typing} (r : Option EntityType) →
      HasType judged context.Invariant p [] a t → HasType judged context.Invariant p [] b u →
      (is_formula s k a ≡ true → IsRead a t.type) → (is_formula s k b ≡ true → IsRead b u.type) →
      binary_result op t.type u.type ≡ Some r →
      is_formula s k (Binary q op a b) ≡ true → IsRead (Binary q op a b) r
  binary_is_read q op a b {p} {t} {u} r d e v w g f = by (operands q op a b f)
    where
      by : TestsVoid op a b ⊎ Joins q op a b → IsRead (Binary q op a b) r
      by (inl (o, i, m, n)) =
          subst (λ b. IsRead (Binary q op a b) r) (sym i)
          (void_test_read q o op a r m n d (subst (λ b. HasType judged context.Invariant p [] b u) i e) g)
      by (inr (m, n, i)) =
          let left = term_of attributes a in
          let right = term_of attributes b in
          subst (λ f. ReadsAs (arithmetic_term (arithmetic_of op) left right) f r) i
          (binary_read left right (formula_of attributes a) (formula_of attributes b) op t.type u.type r (v m) (w n) g)

  unary_is_read : (q : Span) (op : UnaryOperator) (a : Expr) (t r : Option EntityType) →
      (is_formula s k a ≡ true → IsRead a t) → unary_result op t ≡ Some r →
      is_formula s k (Unary q op a) ≡ true → IsRead (Unary q op a) r
  unfolding is_formula_where
  unary_is_read q op a t r v g f =
      let h = halves (not (is_old op)) (is_formula s k a) f in
      unary_read op (term_of attributes a) (formula_of attributes a) t r h.0 (v h.1) g

  -- a formula can be read as what it has the type of
  is_read : {p : Position} {e : Expr} {t : Typing} → HasType judged context.Invariant p [] e t →
      is_condition p ≡ false → is_formula s k e ≡ true → IsRead e t.type
  unfolding is_formula_where
  is_read rule.number c f = refl
  is_read rule.truth c f = refl
  is_read (rule.void v) c f = cc
  is_read rule.current_object c f = cc
  is_read (rule.result v) c f = cc
  is_read {p} (call {s = q} {a = a} {x = x} {es = es} v u m ds i o l g w y) c f =
      call_read q a x es {p = p} f (call v u m ds i o l g w y)
  is_read (rule.untyped_target_call v e ds) c f = cc
  is_read (rule.unary {s = q} {op = unary.Old} {a = a} {t = t} {r = r} d o e) c f = cc
  is_read (rule.unary {s = q} {op = unary.Not} {a = a} {t = t} {r = r} d o e) c f =
      unary_is_read q unary.Not a t.type r (is_read d refl) e f
  is_read (rule.unary {s = q} {op = unary.Plus} {a = a} {t = t} {r = r} d o e) c f =
      unary_is_read q unary.Plus a t.type r (is_read d refl) e f
  is_read (rule.unary {s = q} {op = unary.Minus} {a = a} {t = t} {r = r} d o e) c f =
      unary_is_read q unary.Minus a t.type r (is_read d refl) e f
  is_read (rule.binary {s = q} {op = op} {a = a} {b = b} {r = r} n d e g) c f =
      binary_is_read q op a b r d e (is_read d (operands_plain op)) (is_read e (operands_plain op)) g f
  is_read {p} (rule.and_then {op = op} n d g e h) c f = absurd (none_shared p op c n)
  is_read (rule.test v d) c f = cc

-- ---- the joined invariant

first_of : {A : Type 0} (x : A) (xs : List A) → Contains (x ∷ xs) x
first_of x xs = (zero, omega arith, refl)

later_of : {A : Type 0} (x y : A) (xs : List A) → Contains xs x → Contains (y ∷ xs) x
later_of x y xs (k, l, e) = (suc k, more l, e)
  where
    more : k < length xs → suc k < suc (length xs)
    more l = omega (arith, l)

-- clauses of which each is a formula are a list of formulas
clauses_read : (bs : List Binding) (qs : List Clause) →
    ((q : Clause) → Contains qs q → is_some (formula_of bs q.condition) ≡ true) →
    (formulas : List PlainFormula) × (clauses_of bs qs ≡ Some formulas)
clauses_read bs [] f = ([], refl)
clauses_read bs (q ∷ qs) f =
    by (formula_of bs q.condition) (f q (first_of q qs)) (clauses_of bs qs)
    (clauses_read bs qs (λ r c. f r (later_of r q qs c)))
  where
    by : (first : Option PlainFormula) → is_some first ≡ true → (others : Option (List PlainFormula)) →
        (formulas : List PlainFormula) × (others ≡ Some formulas) →
        (formulas : List PlainFormula) × (with_clause first others ≡ Some formulas)
    by None i others e = cc
    by (Some first) i others (formulas, e) = (first ∷ formulas, ap (with_clause (Some first)) e)

-- a truth value is read as a formula
truth_read : (u : Option PlainTerm) (f : Option PlainFormula) (c : ClassId) → is_boolean c ≡ true → Reads u f c →
    is_some f ≡ true
truth_read u f class.Boolean e a = a
truth_read u f class.Integer e a = cc
truth_read u f class.Any e a = absurd a
truth_read u f class.None e a = absurd a
truth_read u f (class.Declared k) e a = absurd a

pub invariants_have_formulas : InvariantsHaveFormulas
invariants_have_formulas s root pure faultless well tells j =
    clauses_read own (invariant_of s j) (λ q c. of_clause q (joined_of_ancestors s j q c))
  where
    own : List Binding
    own = fresh_attributes s (features s j)

    of_clause : (q : Clause) → OfAncestor s j q → is_some (formula_of own q.condition) ≡ true
    of_clause q a = by (each_is_typed_lem s pure well tells h context.Invariant spot.Plain [] q.condition stands)
      where
        h : RoutineContext
        h = invariant_context s pure a.number

        stated : IsText s pure h (expression context.Invariant spot.Plain [] q.condition)
        stated = invariant a.is_class a.states

        stands : Stands s pure h (expression context.Invariant spot.Plain [] q.condition)
        stands = stands_in stated itself

        formed : is_formula s a.number q.condition ≡ true
        formed = invariants_are_formulas s pure well tells a.number a.class q a.is_class a.states

        by : (t : EntityType) × (b : Bool) × HasType h context.Invariant spot.Plain [] q.condition (typing (Some t) b) →
            is_some (formula_of own q.condition) ≡ true
        by (t, b, d) =
            truth_read (term_of own q.condition) (formula_of own q.condition) t.class
            (clauses_are_boolean s pure well tells h context.Invariant spot.Plain [] q.condition stated t b d)
            (is_read s root faultless pure j a.number a.is_above d refl formed)
