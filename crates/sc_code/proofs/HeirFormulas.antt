-- A clause that is a formula over a class's attributes is the same one, moved, over those of an heir, which declares others.
use Rattle.std.proofs.Common.{◌≡◌, ℕ, zero, suc, ◌+◌, Bool, true, false, List, [], ◌∷◌, ◌++◌, Option, Some, None, is_some, length, map, refl, ap, sym, subst, ◌∙◌, arith}
use Rattle.std.specs.Prelude.{bytes_eq, if◌then◌else◌}
use Rattle.std.specs.Option.{option_map, option_and_then, option_or}
use Rattle.sc_formula.specs.declared.arithmetic.ArithmeticOperator.{ArithmeticOperator}
use Rattle.sc_formula.specs.declared.comparison.Comparison.{Comparison}
use Rattle.sc_formula.specs.declared.connective.Connective.{Connective}
use Rattle.sc_formula.specs.Formula.{PlainFormula}
use Rattle.sc_formula.specs.Formula as formula
use Rattle.sc_formula.specs.Term.{PlainTerm}
use Rattle.sc_formula.specs.Term as term
use Rattle.sc_tree.specs.declared.expression.UnaryOperator.{UnaryOperator}
use Rattle.sc_tree.specs.declared.expression.UnaryOperator.TheVariants as unary
use Rattle.sc_tree.specs.declared.expression.BinaryOperator.{BinaryOperator}
use Rattle.sc_tree.specs.declared.expression.BinaryOperator.TheVariants as binary
use Rattle.sc_tree.specs.Plain as tree
use Rattle.sc_tree.specs.Plain.{Clause, Expr}
use Rattle.sc_model.specs.Environments.{Binding}
use Rattle.sc_model.specs.Invariants.{attribute_named, arithmetic_term, boolean_numbered, clauses_of, comparison_formula, connective_formula, formula_of, integer_numbered, term_of, unary_formula, unary_term, void_formula, void_test, with_clause}
use Rattle.sc_model.specs.Operators.{arithmetic_of, comparison_of, connective_of}
use Rattle.sc_model.specs.Values.{Value, Integer, Boolean, Void, Attached}
use Rattle.sc_code.specs.JoinedInvariants.{moved, moved_term}
use Rattle.sc_code.proofs.MovedFormulas.{none_in_front}

-- ---- a formula is no term

no_term : (l : Option ArithmeticOperator) (t : Option PlainTerm) → arithmetic_term l t None ≡ None
no_term None t = refl
no_term (Some op) None = refl
no_term (Some op) (Some t) = refl

not_both : (op : BinaryOperator) (l r : Option PlainTerm) (f g : Option PlainFormula) →
    is_some (option_or (comparison_formula (comparison_of op) l r) (connective_formula (connective_of op) f g)) ≡ true → arithmetic_term (arithmetic_of op) l r ≡ None
not_both binary.Times l r f g e = cc
not_both binary.Quotient l r f g e = cc
not_both binary.Remainder l r f g e = cc
not_both binary.Plus l r f g e = cc
not_both binary.Minus l r f g e = cc
not_both binary.Equal l r f g e = refl
not_both binary.NotEqual l r f g e = refl
not_both binary.Less l r f g e = refl
not_both binary.Greater l r f g e = refl
not_both binary.LessEqual l r f g e = refl
not_both binary.GreaterEqual l r f g e = refl
not_both binary.And l r f g e = refl
not_both binary.AndThen l r f g e = refl
not_both binary.Or l r f g e = refl
not_both binary.OrElse l r f g e = refl
not_both binary.Xor l r f g e = refl
not_both binary.Implies l r f g e = refl

module _ (bs : List Binding) where
  found_no_term : (o : Option (ℕ × Value)) → is_some (option_and_then (λ (found : ℕ × Value). boolean_numbered found.0 found.1) o) ≡ true →
      option_and_then (λ (found : ℕ × Value). integer_numbered found.0 found.1) o ≡ None
  found_no_term None e = refl
  found_no_term (Some (k, Integer z)) e = cc
  found_no_term (Some (k, Boolean b)) e = refl
  found_no_term (Some (k, Void)) e = refl
  found_no_term (Some (k, Attached r)) e = refl

  unary_no_term : (op : UnaryOperator) (t : Option PlainTerm) (f : Option PlainFormula) → is_some (unary_formula op f) ≡ true → unary_term op t ≡ None
  unary_no_term unary.Not t f e = refl
  unary_no_term unary.Plus t f e = cc
  unary_no_term unary.Minus t f e = cc
  unary_no_term unary.Old t f e = refl

  pub is_no_term : (e : Expr) → is_some (formula_of bs e) ≡ true → term_of bs e ≡ None
  is_no_term (tree.Integer q z) h = cc
  is_no_term (tree.Boolean q b) h = refl
  is_no_term (tree.Void q) h = refl
  is_no_term (tree.Current q) h = refl
  is_no_term (tree.Result q) h = refl
  is_no_term (tree.Call q tree.no_target x tree.no_exprs) h = found_no_term (attribute_named x.text bs) h
  is_no_term (tree.Call q tree.no_target x (tree.expr_then e es)) h = refl
  is_no_term (tree.Call q (tree.target a) x es) h = refl
  is_no_term (tree.Unary q op a) h = unary_no_term op (term_of bs a) (formula_of bs a) h
  is_no_term (tree.ObjectTest q d a x) h = refl
  is_no_term (tree.Binary q op l (tree.Void here)) h = no_term (arithmetic_of op) (term_of bs l)
  is_no_term (tree.Binary q op l r) h = not_both op (term_of bs l) (term_of bs r) (formula_of bs l) (formula_of bs r) h

-- ---- attributes

abbrev behind : ℕ → Option (ℕ × Value) → Option (ℕ × Value)
behind n found = option_map (λ (found : ℕ × Value). (n + found.0, found.1)) found

behind_none : (o : Option (ℕ × Value)) → o ≡ behind 0 o
behind_none None = refl
behind_none (Some found) = ap (λ k. Some (k, found.1)) (sym (none_in_front found.0))

behind_more : (n : ℕ) (o : Option (ℕ × Value)) → option_map (λ (found : ℕ × Value). (suc found.0, found.1)) (behind n o) ≡ behind (suc n) o
behind_more n None = refl
behind_more n (Some found) = let more : suc (n + found.0) ≡ suc n + found.0 = omega arith in ap (λ k. Some (k, found.1)) more

-- an attribute that isn't one of the first is found behind them
named_behind : (x : List ℕ) (own bs : List Binding) → attribute_named x own ≡ None → attribute_named x (own ++ bs) ≡ behind (length own) (attribute_named x bs)
named_behind x [] bs e = behind_none (attribute_named x bs)
named_behind x (b ∷ own) bs e = by (bytes_eq b.name x) (attribute_named x own) refl (named_behind x own bs) e
  where
    first_or : Bool → Option (ℕ × Value) → Option (ℕ × Value)
    first_or c o = if c then Some (zero, b.value) else option_map (λ (found : ℕ × Value). (suc found.0, found.1)) o

    by : (c : Bool) (o : Option (ℕ × Value)) → attribute_named x own ≡ o →
        (attribute_named x own ≡ None → attribute_named x (own ++ bs) ≡ behind (length own) (attribute_named x bs)) → first_or c o ≡ None →
        first_or c (attribute_named x (own ++ bs)) ≡ behind (suc (length own)) (attribute_named x bs)
    by true o g h e = cc
    by false (Some found) g h e = cc
    by false None g h e =
        ap (option_map (λ (found : ℕ × Value). (suc found.0, found.1))) (h g) ∙ behind_more (length own) (attribute_named x bs)

-- ---- formulas

module _ (n : ℕ) where
  -- what is a term here is this one there
  abbrev TermMoves : Option PlainTerm → Option PlainTerm → Type 0
  TermMoves None there = Unit {0}
  TermMoves (Some t) there = there ≡ Some (moved_term n t)

  abbrev FormulaMoves : Option PlainFormula → Option PlainFormula → Type 0
  FormulaMoves None there = Unit {0}
  FormulaMoves (Some f) there = there ≡ Some (moved n f)

  abbrev NumberMoves : Option ℕ → Option ℕ → Type 0
  NumberMoves None there = Unit {0}
  NumberMoves (Some k) there = there ≡ Some (n + k)

  abbrev ClausesMove : Option (List PlainFormula) → Option (List PlainFormula) → Type 0
  ClausesMove None there = Unit {0}
  ClausesMove (Some fs) there = there ≡ Some (map (moved n) fs)

  integer_moves : (k : ℕ) (v : Value) → TermMoves (integer_numbered k v) (integer_numbered (n + k) v)
  integer_moves k (Integer z) = refl
  integer_moves k (Boolean b) = tt
  integer_moves k Void = tt
  integer_moves k (Attached r) = tt

  boolean_moves : (k : ℕ) (v : Value) → FormulaMoves (boolean_numbered k v) (boolean_numbered (n + k) v)
  boolean_moves k (Boolean b) = refl
  boolean_moves k (Integer z) = tt
  boolean_moves k Void = tt
  boolean_moves k (Attached r) = tt

  unary_moves : (op : UnaryOperator) (o p : Option PlainTerm) → TermMoves o p → TermMoves (unary_term op o) (unary_term op p)
  unary_moves unary.Plus None p h = tt
  unary_moves unary.Plus (Some t) p h = ap (option_map term.Identity) h
  unary_moves unary.Minus None p h = tt
  unary_moves unary.Minus (Some t) p h = ap (option_map term.Opposite) h
  unary_moves unary.Not o p h = tt
  unary_moves unary.Old o p h = tt

  arithmetic_moves : (op : Option ArithmeticOperator) (l r l' r' : Option PlainTerm) → TermMoves l l' → TermMoves r r' →
      TermMoves (arithmetic_term op l r) (arithmetic_term op l' r')
  arithmetic_moves (Some op) (Some l) (Some r) l' r' h k =
      ap (λ t. arithmetic_term (Some op) t r') h ∙ ap (arithmetic_term (Some op) (Some (moved_term n l))) k
  arithmetic_moves (Some op) (Some l) None l' r' h k = tt
  arithmetic_moves (Some op) None r l' r' h k = tt
  arithmetic_moves None l r l' r' h k = tt

  not_moves : (op : UnaryOperator) (o p : Option PlainFormula) → FormulaMoves o p → FormulaMoves (unary_formula op o) (unary_formula op p)
  not_moves unary.Not None p h = tt
  not_moves unary.Not (Some f) p h = ap (option_map formula.Not) h
  not_moves unary.Plus o p h = tt
  not_moves unary.Minus o p h = tt
  not_moves unary.Old o p h = tt

  void_moves : (op : BinaryOperator) (o p : Option ℕ) → NumberMoves o p → FormulaMoves (void_formula op o) (void_formula op p)
  void_moves op None p h = none op
    where
      none : (op : BinaryOperator) → FormulaMoves (void_formula op None) (void_formula op p)
      none binary.Equal = tt
      none binary.NotEqual = tt
      none _ = tt
  void_moves binary.Equal (Some k) p h = ap (void_formula binary.Equal) h
  void_moves binary.NotEqual (Some k) p h = ap (void_formula binary.NotEqual) h
  void_moves _ (Some k) p h = tt

  comparison_moves : (op : Option Comparison) (l r l' r' : Option PlainTerm) → TermMoves l l' → TermMoves r r' →
      FormulaMoves (comparison_formula op l r) (comparison_formula op l' r')
  comparison_moves (Some op) (Some l) (Some r) l' r' h k =
      ap (λ t. comparison_formula (Some op) t r') h ∙ ap (comparison_formula (Some op) (Some (moved_term n l))) k
  comparison_moves (Some op) (Some l) None l' r' h k = tt
  comparison_moves (Some op) None r l' r' h k = tt
  comparison_moves None l r l' r' h k = tt

  connective_moves : (op : Option Connective) (l r l' r' : Option PlainFormula) → FormulaMoves l l' → FormulaMoves r r' →
      FormulaMoves (connective_formula op l r) (connective_formula op l' r')
  connective_moves (Some op) (Some l) (Some r) l' r' h k =
      ap (λ f. connective_formula (Some op) f r') h ∙ ap (connective_formula (Some op) (Some (moved n l))) k
  connective_moves (Some op) (Some l) None l' r' h k = tt
  connective_moves (Some op) None r l' r' h k = tt
  connective_moves None l r l' r' h k = tt

  -- where the second of two is there, the first isn't there in the heir either
  or_moves : (o p o' p' : Option PlainFormula) → FormulaMoves o o' → FormulaMoves p p' → (is_some p ≡ true → o' ≡ None) →
      FormulaMoves (option_or o p) (option_or o' p')
  or_moves (Some f) p o' p' h k none = ap (λ o. option_or o p') h
  or_moves None None o' p' h k none = tt
  or_moves None (Some f) o' p' h k none = ap (λ o. option_or o p') (none refl) ∙ k

  clause_moves : (o o' : Option PlainFormula) (others others' : Option (List PlainFormula)) → FormulaMoves o o' → ClausesMove others others' →
      ClausesMove (with_clause o others) (with_clause o' others')
  clause_moves (Some f) o' (Some fs) others' h k = ap (λ o. with_clause o others') h ∙ ap (with_clause (Some (moved n f))) k
  clause_moves (Some f) o' None others' h k = tt
  clause_moves None o' others others' h k = tt

comparison_none : (op : Option Comparison) (l r : Option PlainTerm) → l ≡ None → comparison_formula op l r ≡ None
comparison_none None l r e = refl
comparison_none (Some op) None r e = refl
comparison_none (Some op) (Some l) r e = cc

-- ---- expressions

-- no attribute that is declared further down has the name of one of these
abbrev pub AreApart : List Binding → List Binding → Type 0
AreApart own bs = (x : List ℕ) → is_some (attribute_named x bs) ≡ true → attribute_named x own ≡ None

module _ (own bs : List Binding) (apart : AreApart own bs) where
  abbrev n : ℕ
  n = length own

  found_there : (x : List ℕ) (found : ℕ × Value) → attribute_named x bs ≡ Some found → attribute_named x (own ++ bs) ≡ Some (n + found.0, found.1)
  found_there x found e = named_behind x own bs (apart x (ap is_some e)) ∙ ap (behind n) e

  term_there : (x : List ℕ) (o : Option (ℕ × Value)) → attribute_named x bs ≡ o →
      TermMoves n (option_and_then (λ (found : ℕ × Value). integer_numbered found.0 found.1) o)
      (option_and_then (λ (found : ℕ × Value). integer_numbered found.0 found.1) (attribute_named x (own ++ bs)))
  term_there x None e = tt
  term_there x (Some found) e =
      subst (λ o. TermMoves n (integer_numbered found.0 found.1) (option_and_then (λ (found : ℕ × Value). integer_numbered found.0 found.1) o))
      (sym (found_there x found e)) (integer_moves n found.0 found.1)

  formula_there : (x : List ℕ) (o : Option (ℕ × Value)) → attribute_named x bs ≡ o →
      FormulaMoves n (option_and_then (λ (found : ℕ × Value). boolean_numbered found.0 found.1) o)
      (option_and_then (λ (found : ℕ × Value). boolean_numbered found.0 found.1) (attribute_named x (own ++ bs)))
  formula_there x None e = tt
  formula_there x (Some found) e =
      subst (λ o. FormulaMoves n (boolean_numbered found.0 found.1) (option_and_then (λ (found : ℕ × Value). boolean_numbered found.0 found.1) o))
      (sym (found_there x found e)) (boolean_moves n found.0 found.1)

  number_there : (x : List ℕ) (o : Option (ℕ × Value)) → attribute_named x bs ≡ o →
      NumberMoves n (option_map (λ (found : ℕ × Value). found.0) o) (option_map (λ (found : ℕ × Value). found.0) (attribute_named x (own ++ bs)))
  number_there x None e = tt
  number_there x (Some found) e = ap (option_map (λ (found : ℕ × Value). found.0)) (found_there x found e)

  void_there : (e : Expr) → NumberMoves n (void_test bs e) (void_test (own ++ bs) e)
  void_there (tree.Call q tree.no_target x tree.no_exprs) = number_there x.text (attribute_named x.text bs) refl
  void_there (tree.Call q tree.no_target x (tree.expr_then e es)) = tt
  void_there (tree.Call q (tree.target a) x es) = tt
  void_there (tree.Integer q z) = tt
  void_there (tree.Boolean q b) = tt
  void_there (tree.Void q) = tt
  void_there (tree.Current q) = tt
  void_there (tree.Result q) = tt
  void_there (tree.Unary q op a) = tt
  void_there (tree.Binary q op l r) = tt
  void_there (tree.ObjectTest q d a x) = tt

  term_moves : (e : Expr) → TermMoves n (term_of bs e) (term_of (own ++ bs) e)
  term_moves (tree.Integer q z) = refl
  term_moves (tree.Boolean q b) = tt
  term_moves (tree.Void q) = tt
  term_moves (tree.Current q) = tt
  term_moves (tree.Result q) = tt
  term_moves (tree.Call q tree.no_target x tree.no_exprs) = term_there x.text (attribute_named x.text bs) refl
  term_moves (tree.Call q tree.no_target x (tree.expr_then e es)) = tt
  term_moves (tree.Call q (tree.target a) x es) = tt
  term_moves (tree.Unary q op a) = unary_moves n op (term_of bs a) (term_of (own ++ bs) a) (term_moves a)
  term_moves (tree.Binary q op l r) =
      arithmetic_moves n (arithmetic_of op) (term_of bs l) (term_of bs r) (term_of (own ++ bs) l) (term_of (own ++ bs) r) (term_moves l) (term_moves r)
  term_moves (tree.ObjectTest q d a x) = tt

  -- a truth value on the left is a truth value in the heir, and so nothing to compare
  nothing_compared : (op : BinaryOperator) (l : Expr) (o g : Option PlainFormula) (r : Option PlainTerm) → FormulaMoves n o (formula_of (own ++ bs) l) →
      is_some (connective_formula (connective_of op) o g) ≡ true → comparison_formula (comparison_of op) (term_of (own ++ bs) l) r ≡ None
  nothing_compared op l (Some f) g r h e =
      comparison_none (comparison_of op) (term_of (own ++ bs) l) r (is_no_term (own ++ bs) l (ap is_some h))
  nothing_compared op l None g r h e = by (connective_of op) e
    where
      by : (c : Option Connective) → is_some (connective_formula c None g) ≡ true → comparison_formula (comparison_of op) (term_of (own ++ bs) l) r ≡ None
      by None e = cc
      by (Some c) e = cc

  formula_moves : (e : Expr) → FormulaMoves n (formula_of bs e) (formula_of (own ++ bs) e)
  formula_moves (tree.Integer q z) = tt
  formula_moves (tree.Boolean q b) = refl
  formula_moves (tree.Void q) = tt
  formula_moves (tree.Current q) = tt
  formula_moves (tree.Result q) = tt
  formula_moves (tree.Call q tree.no_target x tree.no_exprs) = formula_there x.text (attribute_named x.text bs) refl
  formula_moves (tree.Call q tree.no_target x (tree.expr_then e es)) = tt
  formula_moves (tree.Call q (tree.target a) x es) = tt
  formula_moves (tree.Unary q op a) = not_moves n op (formula_of bs a) (formula_of (own ++ bs) a) (formula_moves a)
  formula_moves (tree.ObjectTest q d a x) = tt
  formula_moves (tree.Binary q op l (tree.Void here)) = void_moves n op (void_test bs l) (void_test (own ++ bs) l) (void_there l)
  formula_moves (tree.Binary q op l r) =
      or_moves n (comparison_formula (comparison_of op) (term_of bs l) (term_of bs r)) (connective_formula (connective_of op) (formula_of bs l) (formula_of bs r))
      (comparison_formula (comparison_of op) (term_of (own ++ bs) l) (term_of (own ++ bs) r))
      (connective_formula (connective_of op) (formula_of (own ++ bs) l) (formula_of (own ++ bs) r))
      (comparison_moves n (comparison_of op) (term_of bs l) (term_of bs r) (term_of (own ++ bs) l) (term_of (own ++ bs) r) (term_moves l) (term_moves r))
      (connective_moves n (connective_of op) (formula_of bs l) (formula_of bs r) (formula_of (own ++ bs) l) (formula_of (own ++ bs) r) (formula_moves l) (formula_moves r))
      (nothing_compared op l (formula_of bs l) (formula_of bs r) (term_of (own ++ bs) r) (formula_moves l))

  clauses_move : (cs : List Clause) → ClausesMove n (clauses_of bs cs) (clauses_of (own ++ bs) cs)
  clauses_move [] = refl
  clauses_move (c ∷ cs) =
      clause_moves n (formula_of bs c.condition) (formula_of (own ++ bs) c.condition) (clauses_of bs cs) (clauses_of (own ++ bs) cs) (formula_moves c.condition) (clauses_move cs)

  -- the clauses that are formulas over these attributes are, moved, those over the heir's
  pub clauses_there : (cs : List Clause) (fs : List PlainFormula) → clauses_of bs cs ≡ Some fs → clauses_of (own ++ bs) cs ≡ Some (map (moved n) fs)
  clauses_there cs fs e = subst (λ o. ClausesMove n o (clauses_of (own ++ bs) cs)) e (clauses_move cs)
