-- What the formulas of an invariant see: the attributes of the class, and none after them.
use Rattle.std.proofs.Common.{◌≡◌, ◌<◌, ◌≤◌, ℕ, zero, suc, Bool, true, false, List, [], ◌∷◌, ◌++◌, Option, Some, None, length, refl, ap, ◌∙◌, arith}
use Rattle.std.specs.Prelude.{◌&&◌, bytes_eq, not, slice_get, unwrap_or, if◌then◌else◌}
use Rattle.std.specs.Option.{option_map, option_and_then, option_or}
use Rattle.std.specs.Result.{result_ok}
use Rattle.sc_formula.specs.declared.arithmetic.ArithmeticOperator.{ArithmeticOperator}
use Rattle.sc_formula.specs.declared.atom.Atom.{Atom}
use Rattle.sc_formula.specs.declared.comparison.Comparison.{Comparison}
use Rattle.sc_formula.specs.declared.connective.Connective.{Connective}
use Rattle.sc_formula.specs.Arithmetic.{opposite_of, result_of}
use Rattle.sc_formula.specs.Atom.{as_boolean, as_integer, as_void}
use Rattle.sc_formula.specs.Comparison.{compares}
use Rattle.sc_formula.specs.Connective.{connection_of}
use Rattle.sc_formula.specs.Formula.{PlainFormula, truth_of}
use Rattle.sc_formula.specs.Term.{PlainTerm, value_of, with_both}
use Rattle.sc_tree.specs.declared.expression.UnaryOperator.{UnaryOperator}
use Rattle.sc_tree.specs.declared.expression.UnaryOperator.TheVariants as unary
use Rattle.sc_tree.specs.declared.expression.BinaryOperator.{BinaryOperator}
use Rattle.sc_tree.specs.declared.expression.BinaryOperator.TheVariants as binary
use Rattle.sc_tree.specs.Plain as tree
use Rattle.sc_tree.specs.Plain.{Clause, Expr, System}
use Rattle.sc_class.specs.Tables.Features.{features, invariant_of}
use Rattle.sc_model.specs.Environments.{Binding}
use Rattle.sc_model.specs.Invariants.{attribute_named, arithmetic_term, boolean_numbered, clauses_of, comparison_formula, connective_formula, formula_of, formulas_of, integer_numbered, term_of, unary_formula, unary_term, void_formula, void_test, with_clause}
use Rattle.sc_model.specs.Objects.{fresh_attributes}
use Rattle.sc_model.specs.Operators.{arithmetic_of, comparison_of, connective_of}
use Rattle.sc_model.specs.Values.{Value, Integer, Boolean, Void, Attached}
use Rattle.sc_code.specs.Attributes.{known_formulas}
use Rattle.sc_region.specs.Classes.{all_hold}

-- What comes of atoms doesn't change with others after them, where there are so many.
abbrev Sees : {A : Type 0} → ℕ → (List Atom → A) → Type 0
Sees n g = (front more : List Atom) → n ≤ length front → g (front ++ more) ≡ g front

abbrev TermSees : ℕ → Option PlainTerm → Type 0
TermSees n None = Unit {0}
TermSees n (Some t) = Sees n (value_of t)

abbrev FormulaSees : ℕ → Option PlainFormula → Type 0
FormulaSees n None = Unit {0}
FormulaSees n (Some f) = Sees n (truth_of f)

abbrev ClausesSee : ℕ → Option (List PlainFormula) → Type 0
ClausesSee n None = Unit {0}
ClausesSee n (Some clauses) = Sees n (all_hold clauses)

-- ---- numbers of attributes

get_front : {A : Type 0} (xs ys : List A) (k : ℕ) → k < length xs → slice_get (xs ++ ys) k ≡ slice_get xs k
get_front [] ys k l = absurd (omega (arith, l))
get_front (x ∷ xs) ys zero l = refl
get_front (x ∷ xs) ys (suc k) l = get_front xs ys k (omega (arith, l))

abbrev FoundWithin : ℕ → Option (ℕ × Value) → Type 0
FoundWithin n None = Unit {0}
FoundWithin n (Some found) = found.0 < n

abbrev NumberWithin : ℕ → Option ℕ → Type 0
NumberWithin n None = Unit {0}
NumberWithin n (Some k) = k < n

found_within : (x : List ℕ) (bs : List Binding) → FoundWithin (length bs) (attribute_named x bs)
found_within x [] = tt
found_within x (b ∷ bs) = by (bytes_eq b.name x) (found_within x bs)
  where
    later : (o : Option (ℕ × Value)) → FoundWithin (length bs) o → FoundWithin (suc (length bs)) (option_map (λ (found : ℕ × Value). (suc found.0, found.1)) o)
    later None l = tt
    later (Some found) l = omega (arith, l)

    by : (c : Bool) → FoundWithin (length bs) (attribute_named x bs) → FoundWithin (suc (length bs)) (if c then Some (zero, b.value) else option_map (λ (found : ℕ × Value). (suc found.0, found.1)) (attribute_named x bs))
    by true rest = omega arith
    by false rest = later (attribute_named x bs) rest

module _ (n : ℕ) where
  -- ---- terms

  attribute_term : (k : ℕ) (v : Value) → k < n → TermSees n (integer_numbered k v)
  attribute_term k (Integer z) l = λ front more m. ap (option_and_then as_integer) (get_front front more k (omega (arith, l, m)))
  attribute_term k (Boolean b) l = tt
  attribute_term k Void l = tt
  attribute_term k (Attached r) l = tt

  found_term : (o : Option (ℕ × Value)) → FoundWithin n o → TermSees n (option_and_then (λ (found : ℕ × Value). integer_numbered found.0 found.1) o)
  found_term None l = tt
  found_term (Some found) l = attribute_term found.0 found.1 l

  unary_sees : (op : UnaryOperator) (o : Option PlainTerm) → TermSees n o → TermSees n (unary_term op o)
  unary_sees unary.Plus None h = tt
  unary_sees unary.Plus (Some t) h = h
  unary_sees unary.Minus None h = tt
  unary_sees unary.Minus (Some t) h = λ front more m. ap (option_and_then (λ z. result_ok (opposite_of z))) (h front more m)
  unary_sees unary.Not o h = tt
  unary_sees unary.Old o h = tt

  arithmetic_sees : (op : Option ArithmeticOperator) (l r : Option PlainTerm) → TermSees n l → TermSees n r → TermSees n (arithmetic_term op l r)
  arithmetic_sees (Some op) (Some l) (Some r) h k = λ front more m.
      ap (λ u. with_both (λ a b. result_ok (result_of op a b)) u (value_of r (front ++ more))) (h front more m)
      ∙ ap (with_both (λ a b. result_ok (result_of op a b)) (value_of l front)) (k front more m)
  arithmetic_sees (Some op) (Some l) None h k = tt
  arithmetic_sees (Some op) None r h k = tt
  arithmetic_sees None l r h k = tt

  -- ---- formulas

  attribute_formula : (k : ℕ) (v : Value) → k < n → FormulaSees n (boolean_numbered k v)
  attribute_formula k (Boolean b) l = λ front more m. ap (option_and_then as_boolean) (get_front front more k (omega (arith, l, m)))
  attribute_formula k (Integer z) l = tt
  attribute_formula k Void l = tt
  attribute_formula k (Attached r) l = tt

  found_formula : (o : Option (ℕ × Value)) → FoundWithin n o → FormulaSees n (option_and_then (λ (found : ℕ × Value). boolean_numbered found.0 found.1) o)
  found_formula None l = tt
  found_formula (Some found) l = attribute_formula found.0 found.1 l

  number_of : (o : Option (ℕ × Value)) → FoundWithin n o → NumberWithin n (option_map (λ (found : ℕ × Value). found.0) o)
  number_of None l = tt
  number_of (Some found) l = l

  void_sees : (op : BinaryOperator) (o : Option ℕ) → NumberWithin n o → FormulaSees n (void_formula op o)
  void_sees op None l = none op
    where
      none : (op : BinaryOperator) → FormulaSees n (void_formula op None)
      none binary.Equal = tt
      none binary.NotEqual = tt
      none _ = tt
  void_sees binary.Equal (Some k) l = λ front more m. ap (option_and_then as_void) (get_front front more k (omega (arith, l, m)))
  void_sees binary.NotEqual (Some k) l = λ front more m. ap (λ o. option_map not (option_and_then as_void o)) (get_front front more k (omega (arith, l, m)))
  void_sees _ (Some k) l = tt

  not_sees : (op : UnaryOperator) (o : Option PlainFormula) → FormulaSees n o → FormulaSees n (unary_formula op o)
  not_sees unary.Not None h = tt
  not_sees unary.Not (Some f) h = λ front more m. ap (option_map not) (h front more m)
  not_sees unary.Plus o h = tt
  not_sees unary.Minus o h = tt
  not_sees unary.Old o h = tt

  comparison_sees : (op : Option Comparison) (l r : Option PlainTerm) → TermSees n l → TermSees n r → FormulaSees n (comparison_formula op l r)
  comparison_sees (Some op) (Some l) (Some r) h k = λ front more m.
      ap (λ u. with_both (λ a b. Some (compares op a b)) u (value_of r (front ++ more))) (h front more m)
      ∙ ap (with_both (λ a b. Some (compares op a b)) (value_of l front)) (k front more m)
  comparison_sees (Some op) (Some l) None h k = tt
  comparison_sees (Some op) None r h k = tt
  comparison_sees None l r h k = tt

  connective_sees : (op : Option Connective) (l r : Option PlainFormula) → FormulaSees n l → FormulaSees n r → FormulaSees n (connective_formula op l r)
  connective_sees (Some op) (Some l) (Some r) h k = λ front more m.
      ap (λ u. connection_of op u (truth_of r (front ++ more))) (h front more m) ∙ ap (connection_of op (truth_of l front)) (k front more m)
  connective_sees (Some op) (Some l) None h k = tt
  connective_sees (Some op) None r h k = tt
  connective_sees None l r h k = tt

  or_sees : (o p : Option PlainFormula) → FormulaSees n o → FormulaSees n p → FormulaSees n (option_or o p)
  or_sees None p h k = k
  or_sees (Some f) p h k = h

  clause_sees : (o : Option PlainFormula) (others : Option (List PlainFormula)) → FormulaSees n o → ClausesSee n others → ClausesSee n (with_clause o others)
  clause_sees (Some f) (Some fs) h k = λ front more m.
      ap (λ t. unwrap_or t false && all_hold fs (front ++ more)) (h front more m) ∙ ap (λ b. unwrap_or (truth_of f front) false && b) (k front more m)
  clause_sees (Some f) None h k = tt
  clause_sees None others h k = tt

-- ---- expressions

module _ (bs : List Binding) where
  term_sees : (e : Expr) → TermSees (length bs) (term_of bs e)
  term_sees (tree.Integer q z) = λ front more m. refl
  term_sees (tree.Boolean q b) = tt
  term_sees (tree.Void q) = tt
  term_sees (tree.Current q) = tt
  term_sees (tree.Result q) = tt
  term_sees (tree.Call q tree.no_target x tree.no_exprs) = found_term (length bs) (attribute_named x.text bs) (found_within x.text bs)
  term_sees (tree.Call q tree.no_target x (tree.expr_then e es)) = tt
  term_sees (tree.Call q (tree.target a) x es) = tt
  term_sees (tree.Unary q op a) = unary_sees (length bs) op (term_of bs a) (term_sees a)
  term_sees (tree.Binary q op l r) = arithmetic_sees (length bs) (arithmetic_of op) (term_of bs l) (term_of bs r) (term_sees l) (term_sees r)
  term_sees (tree.ObjectTest q d a x) = tt

  void_within : (e : Expr) → NumberWithin (length bs) (void_test bs e)
  void_within (tree.Call q tree.no_target x tree.no_exprs) = number_of (length bs) (attribute_named x.text bs) (found_within x.text bs)
  void_within (tree.Call q tree.no_target x (tree.expr_then e es)) = tt
  void_within (tree.Call q (tree.target a) x es) = tt
  void_within (tree.Integer q z) = tt
  void_within (tree.Boolean q b) = tt
  void_within (tree.Void q) = tt
  void_within (tree.Current q) = tt
  void_within (tree.Result q) = tt
  void_within (tree.Unary q op a) = tt
  void_within (tree.Binary q op l r) = tt
  void_within (tree.ObjectTest q d a x) = tt

  formula_sees : (e : Expr) → FormulaSees (length bs) (formula_of bs e)
  formula_sees (tree.Integer q z) = tt
  formula_sees (tree.Boolean q b) = λ front more m. refl
  formula_sees (tree.Void q) = tt
  formula_sees (tree.Current q) = tt
  formula_sees (tree.Result q) = tt
  formula_sees (tree.Call q tree.no_target x tree.no_exprs) = found_formula (length bs) (attribute_named x.text bs) (found_within x.text bs)
  formula_sees (tree.Call q tree.no_target x (tree.expr_then e es)) = tt
  formula_sees (tree.Call q (tree.target a) x es) = tt
  formula_sees (tree.Unary q op a) = not_sees (length bs) op (formula_of bs a) (formula_sees a)
  formula_sees (tree.ObjectTest q d a x) = tt
  formula_sees (tree.Binary q op l (tree.Void h)) = void_sees (length bs) op (void_test bs l) (void_within l)
  formula_sees (tree.Binary q op l r) =
      or_sees (length bs) (comparison_formula (comparison_of op) (term_of bs l) (term_of bs r)) (connective_formula (connective_of op) (formula_of bs l) (formula_of bs r))
      (comparison_sees (length bs) (comparison_of op) (term_of bs l) (term_of bs r) (term_sees l) (term_sees r))
      (connective_sees (length bs) (connective_of op) (formula_of bs l) (formula_of bs r) (formula_sees l) (formula_sees r))

  clauses_see : (cs : List Clause) → ClausesSee (length bs) (clauses_of bs cs)
  clauses_see [] = λ front more m. refl
  clauses_see (c ∷ cs) = clause_sees (length bs) (formula_of bs c.condition) (clauses_of bs cs) (formula_sees c.condition) (clauses_see cs)

known_see : (n : ℕ) (o : Option (List PlainFormula)) → ClausesSee n o → Sees n (all_hold (known_formulas o))
known_see n None h = λ front more m. refl
known_see n (Some clauses) h = h

-- The invariant of a class doesn't see what lies after the attributes of the class.
pub invariant_sees : (s : System) (k : ℕ) → Sees (length (fresh_attributes s (features s k))) (all_hold (known_formulas (formulas_of s k)))
invariant_sees s k =
    let bs = fresh_attributes s (features s k) in
    known_see (length bs) (formulas_of s k) (clauses_see bs (invariant_of s k))
