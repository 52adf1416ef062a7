-- The steps of an attribute, and of its test for Void, come to the truth of their formula.
use Rattle.std.proofs.Common.{◌≡◌, ℕ, ℤ, Bool, true, false, List, Option, Some, None, refl, sym, ap, subst, cond, ◌∙◌}
use Rattle.std.specs.Prelude.{not, slice_get}
use Rattle.std.specs.Option.{option_map, option_and_then}
use Rattle.sc_formula.specs.declared.atom.Atom.{Atom}
use Rattle.sc_formula.specs.declared.atom.AtomKind.{AtomKind}
use Rattle.sc_formula.specs.declared.atom.AtomKind.TheVariants as kind
use Rattle.sc_formula.specs.Atom.{as_integer, as_boolean, as_void, kind_of, kinds_of}
use Rattle.sc_formula.specs.Fit.{HasKind, IsFit}
use Rattle.sc_formula.specs.Formula.{PlainFormula, truth_of}
use Rattle.sc_formula.specs.Term.{PlainTerm, value_of}
use Rattle.sc_text.specs.declared.token.Span.{Span}
use Rattle.sc_tree.specs.declared.expression.BinaryOperator.{BinaryOperator}
use Rattle.sc_tree.specs.declared.expression.BinaryOperator.TheVariants as binary
use Rattle.sc_tree.specs.Plain as tree
use Rattle.sc_tree.specs.Plain.{System, FeatureKind, Expr, no_exprs, Name}
use Rattle.sc_class.specs.Tables.Features.{DeclaredFeature}
use Rattle.sc_rules.specs.entity_types.Conformance.{void, boolean}
use Rattle.sc_rules.specs.declared.entity_types.entity_type.EntityType.{EntityType}
use Rattle.sc_model.specs.declared.cause.Cause.TheVariants as cause
use Rattle.sc_model.specs.Values.{Reference, Value, Integer, Boolean, Void, Attached, Operand}
use Rattle.sc_model.specs.Environments.{Binding, binding_named}
use Rattle.sc_model.specs.Objects.{attributes_of}
use Rattle.sc_model.specs.Invariants.{atom_of, atoms_of, attribute_named, integer_numbered, boolean_numbered, void_test, void_formula}
use Rattle.sc_model.specs.Operators.{is_short}
use Rattle.sc_model.specs.Tasks.{Task}
use Rattle.sc_model.specs.Steps.{Point, fails, gives, gives_boolean, reads_as}
use Rattle.sc_model.specs.Expressions.{apply_binary, decided_by, begins_name, begins_feature, begins_kind, reads_own}
use Rattle.sc_model.specs.Exits.{is_unset_value}
use Rattle.sc_machine_laws.specs.Formulas.{ReadsAttributes}
use Rattle.sc_machine_laws.proofs.FormulaAttributes.{Numbered, attribute_numbered, kind_at}
use Rattle.sc_machine_laws.proofs.LeadingSteps.{leads_once}
use Rattle.sc_machine_laws.proofs.OperandTruths.{Evaluates, both}

module _ (s : System) (me : Reference) where
  module _ (p : Point) where
    -- the point with these tasks and values
    abbrev at : List Task → List Operand → Point
    at ts vs = record p { tasks = ts; values = vs }

    abbrev integer_value : Option ℤ → Option Value
    integer_value o = option_map Integer o

    abbrev truth_value : Option Bool → Option Value
    truth_value o = option_map Boolean o

    -- ---- formulas and terms

    module _ (defaults : List Binding) (reads : ReadsAttributes s me defaults p) where
      abbrev pub bs : List Binding
      bs = attributes_of me.number p.objects

      abbrev pub atoms : List Atom
      atoms = atoms_of bs

      abbrev pub IsTerm : Expr → Option PlainTerm → Type 0
      IsTerm e None = Unit {0}
      IsTerm e (Some t) = Evaluates s me p e (integer_value (value_of t atoms))

      abbrev pub IsFormula : Expr → Option PlainFormula → Type 0
      IsFormula e None = Unit {0}
      IsFormula e (Some f) = IsFit f (kinds_of (atoms_of defaults)) → Evaluates s me p e (truth_value (truth_of f atoms))

      -- ---- attributes

      numbered : (x : List ℕ) (n : ℕ) (v : Value) → attribute_named x defaults ≡ Some (n, v) → Numbered x bs n v
      numbered x n v e = attribute_numbered x bs defaults n v reads.names_are reads.kinds_are e

      set_is_read : (t : EntityType) (v : Value) (y : Point) → is_unset_value v t ≡ false →
          reads_as t v t y ≡ gives v t y
      set_is_read t (Integer z) y e = refl
      set_is_read t (Boolean b) y e = refl
      set_is_read t (Attached r) y e = refl
      set_is_read t Void y e = ap (λ b. cond b (fails cause.UnsetEntity y) (gives Void t y)) e

      attribute_given : (q : Span) (x : Name) (b : Binding) → binding_named x.text bs ≡ Some b →
          Evaluates s me p (tree.Call q tree.no_target x no_exprs) (Some b.value)
      attribute_given q x b e i ts vs =
          let r = reads.are_read x.text b e in
          let y = at ts vs in
          record {
            type = r.type;
            leads = leads_once s me
                (ap (λ (c : Option Binding). begins_name s me x.text c i no_exprs y) r.is_no_entity
                ∙ ap (λ (f : Option DeclaredFeature). begins_feature s me x.text f i no_exprs y) r.is_feature
                ∙ ap (λ (k : FeatureKind). begins_kind s me x.text k i no_exprs y) r.is_attribute
                ∙ ap (λ (t : Option EntityType). reads_own t (binding_named x.text bs) y) r.has_type
                ∙ ap (λ (c : Option Binding). reads_own (Some r.type) c y) e
                ∙ set_is_read r.type b.value y r.is_set);
          }

      pub attribute_term : (q : Span) (x : Name) (found : Option (ℕ × Value)) →
          attribute_named x.text defaults ≡ found →
          IsTerm (tree.Call q tree.no_target x no_exprs)
          (option_and_then (λ found. integer_numbered found.0 found.1) found)
      attribute_term q x None e = _
      attribute_term q x (Some (n, Boolean b)) e = _
      attribute_term q x (Some (n, Void)) e = _
      attribute_term q x (Some (n, Attached r)) e = _
      attribute_term q x (Some (n, Integer z)) e =
          let m = numbered x.text n (Integer z) e in
          subst (λ a. Evaluates s me p (tree.Call q tree.no_target x no_exprs)
          (integer_value (option_and_then as_integer a))) (sym m.is_numbered)
          (by m.binding.value m.has_kind (attribute_given q x m.binding m.is_named))
        where
          by : (v : Value) → kind_of (atom_of v) ≡ kind_of (atom_of (Integer z)) →
              Evaluates s me p (tree.Call q tree.no_target x no_exprs) (Some v) →
              Evaluates s me p (tree.Call q tree.no_target x no_exprs) (integer_value (as_integer (atom_of v)))
          by (Integer y) k g = g
          by (Boolean b) k g = cc
          by Void k g = cc
          by (Attached r) k g = cc

      pub attribute_formula : (q : Span) (x : Name) (found : Option (ℕ × Value)) →
          attribute_named x.text defaults ≡ found →
          IsFormula (tree.Call q tree.no_target x no_exprs)
          (option_and_then (λ found. boolean_numbered found.0 found.1) found)
      attribute_formula q x None e = _
      attribute_formula q x (Some (n, Integer z)) e = _
      attribute_formula q x (Some (n, Void)) e = _
      attribute_formula q x (Some (n, Attached r)) e = _
      attribute_formula q x (Some (n, Boolean b)) e = λ fit.
          let m = numbered x.text n (Boolean b) e in
          subst (λ a. Evaluates s me p (tree.Call q tree.no_target x no_exprs)
          (truth_value (option_and_then as_boolean a))) (sym m.is_numbered)
          (by m.binding.value m.has_kind (attribute_given q x m.binding m.is_named))
        where
          by : (v : Value) → kind_of (atom_of v) ≡ kind_of (atom_of (Boolean b)) →
              Evaluates s me p (tree.Call q tree.no_target x no_exprs) (Some v) →
              Evaluates s me p (tree.Call q tree.no_target x no_exprs) (truth_value (as_boolean (atom_of v)))
          by (Boolean y) k g = g
          by (Integer b) k g = cc
          by Void k g = cc
          by (Attached r) k g = cc

      -- ---- a test for Void

      compared_with_void : (q : Span) (op : BinaryOperator) (a : Expr) (here : Span) (v : Value) (t : Bool) →
          decided_by op v ≡ None → is_short op ≡ false →
          ((y : Point) → apply_binary op v Void y ≡ gives_boolean t y) → Evaluates s me p a (Some v) →
          Evaluates s me p (tree.Binary q op a (tree.Void here)) (Some (Boolean t))
      compared_with_void q op a here v t d f i h =
          both s me p q op a (tree.Void here) v Void (Some (Boolean t)) d f h
          (λ i ts vs. record { type = void; leads = leads_once s me refl })
          (λ ts vs z g. record { type = boolean; leads = leads_once s me (g ∙ i (at ts vs)) })

      is_void : (q : Span) (a : Expr) (here : Span) (v : Value) → Some (kind_of (atom_of v)) ≡ Some kind.Reference →
          Evaluates s me p a (Some v) →
          Evaluates s me p (tree.Binary q binary.Equal a (tree.Void here)) (truth_value (as_void (atom_of v)))
      is_void q a here (Integer z) k h = cc
      is_void q a here (Boolean z) k h = cc
      is_void q a here Void k h = compared_with_void q binary.Equal a here Void true refl refl (λ y. refl) h
      is_void q a here (Attached r) k h =
          compared_with_void q binary.Equal a here (Attached r) false refl refl (λ y. refl) h

      not_void : (q : Span) (a : Expr) (here : Span) (v : Value) → Some (kind_of (atom_of v)) ≡ Some kind.Reference →
          Evaluates s me p a (Some v) →
          Evaluates s me p (tree.Binary q binary.NotEqual a (tree.Void here))
          (truth_value (option_map not (as_void (atom_of v))))
      not_void q a here (Integer z) k h = cc
      not_void q a here (Boolean z) k h = cc
      not_void q a here Void k h = compared_with_void q binary.NotEqual a here Void false refl refl (λ y. refl) h
      not_void q a here (Attached r) k h =
          compared_with_void q binary.NotEqual a here (Attached r) true refl refl (λ y. refl) h

      -- the atom of the number is of the kind that fits
      kind_fits : (n : ℕ) (a : Atom) (k : AtomKind) → slice_get atoms n ≡ Some a →
          HasKind (kinds_of (atoms_of defaults)) n k → Some (kind_of a) ≡ Some k
      kind_fits n a k e f =
          sym (kind_at atoms n a e) ∙ ap (λ (ks : List AtomKind). slice_get ks n) reads.kinds_are ∙ f

      no_void_test : (e : Expr) (op : BinaryOperator) → IsFormula e (void_formula op None)
      no_void_test e binary.Equal = _
      no_void_test e binary.NotEqual = _
      no_void_test e _ = _

      attribute_tested : (q : Span) (op : BinaryOperator) (r : Span) (x : Name) (here : Span)
          (found : Option (ℕ × Value)) → attribute_named x.text defaults ≡ found →
          IsFormula (tree.Binary q op (tree.Call r tree.no_target x no_exprs) (tree.Void here))
          (void_formula op (option_map (λ found. found.0) found))
      attribute_tested q op r x here None e =
          no_void_test (tree.Binary q op (tree.Call r tree.no_target x no_exprs) (tree.Void here)) op
      attribute_tested q binary.Equal r x here (Some (n, v)) e = λ fit.
          let m = numbered x.text n v e in
          let a = tree.Call r tree.no_target x no_exprs in
          subst (λ o. Evaluates s me p (tree.Binary q binary.Equal a (tree.Void here))
          (truth_value (option_and_then as_void o))) (sym m.is_numbered)
          (is_void q a here m.binding.value (kind_fits n (atom_of m.binding.value) kind.Reference m.is_numbered fit)
          (attribute_given r x m.binding m.is_named))
      attribute_tested q binary.NotEqual r x here (Some (n, v)) e = λ fit.
          let m = numbered x.text n v e in
          let a = tree.Call r tree.no_target x no_exprs in
          subst (λ o. Evaluates s me p (tree.Binary q binary.NotEqual a (tree.Void here))
          (truth_value (option_map not (option_and_then as_void o)))) (sym m.is_numbered)
          (not_void q a here m.binding.value (kind_fits n (atom_of m.binding.value) kind.Reference m.is_numbered fit)
          (attribute_given r x m.binding m.is_named))
      attribute_tested q _ r x here (Some (n, v)) e = _

      pub void_is_formula : (q : Span) (op : BinaryOperator) (a : Expr) (here : Span) →
          IsFormula (tree.Binary q op a (tree.Void here)) (void_formula op (void_test defaults a))
      void_is_formula q op (tree.Call r tree.no_target x no_exprs) here =
          attribute_tested q op r x here (attribute_named x.text defaults) refl
      void_is_formula q op a here = no_void_test (tree.Binary q op a (tree.Void here)) op
