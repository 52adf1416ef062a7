-- An object meets its class invariant exactly where the steps of each clause end with True.
use Rattle.std.proofs.Common.{◌≡◌, true, List, [], ◌∷◌, Option, Some, None, sym, ap, subst}
use Rattle.std.specs.Prelude.{◌↔◌, All}
use Rattle.std.proofs.lemmas.List.Elements.{All-nil, All-cons, All-head, All-tail}
use Rattle.sc_formula.specs.declared.atom.Atom.{Atom}
use Rattle.sc_formula.specs.Atom.{kinds_of}
use Rattle.sc_formula.specs.Fit.{IsFit}
use Rattle.sc_formula.specs.Formula.{PlainFormula}
use Rattle.sc_formula.specs.Invariant.{Holds}
use Rattle.sc_tree.specs.Plain.{System, Clause}
use Rattle.sc_class.specs.Tables.Features.{invariant_of}
use Rattle.sc_model.specs.Values.{Reference, Boolean}
use Rattle.sc_model.specs.Environments.{Binding}
use Rattle.sc_model.specs.Objects.{Object, attributes_in, attributes_of}
use Rattle.sc_model.specs.Invariants.{atoms_of, formula_of, with_clause, clauses_of, MeetsClauses}
use Rattle.sc_model.specs.Steps.{Point}
use Rattle.sc_machine_laws.specs.Formulas.{ReadsAttributes, evaluating, EndsWith, InvariantsAreSteps, defaults_of}
use Rattle.sc_machine_laws.proofs.FormulaSteps.{formulas_are_steps}

module _ (s : System) (me : Reference) (p : Point) (defaults : List Binding)
    (reads : ReadsAttributes s me defaults p) where
  abbrev atoms : List Atom
  atoms = atoms_of (attributes_of me.number p.objects)

  abbrev Fits : PlainFormula → Type 0
  Fits f = IsFit f (kinds_of (atoms_of defaults))

  abbrev IsTrue : Clause → Type 0
  IsTrue k = EndsWith s me (evaluating 0 k.condition p) (Boolean true)

  clause_is_steps : (k : Clause) (f : PlainFormula) → formula_of defaults k.condition ≡ Some f → Fits f →
      IsTrue k ↔ Holds atoms f
  clause_is_steps k f e fits = (formulas_are_steps s me defaults p 0 k.condition f reads e fits).truths true

  -- the clauses and their formulas, one by one
  first_is : (f : Option PlainFormula) (gs : Option (List PlainFormula)) (g : PlainFormula)
      (hs : List PlainFormula) → with_clause f gs ≡ Some (g ∷ hs) → (f ≡ Some g) × (gs ≡ Some hs)
  first_is None gs g hs e = cc
  first_is (Some f) None g hs e = cc
  first_is (Some f) (Some gs) g hs e = (cc, cc)

  none_is : (f : Option PlainFormula) (gs : Option (List PlainFormula)) → with_clause f gs ≡ Some [] → ⊥
  none_is None gs e = cc
  none_is (Some f) None e = cc
  none_is (Some f) (Some gs) e = cc

  clauses_are_steps : (ks : List Clause) (fs : List PlainFormula) → clauses_of defaults ks ≡ Some fs → All Fits fs →
      All (Holds atoms) fs ↔ All IsTrue ks
  clauses_are_steps [] [] e a = ((λ h. All-nil IsTrue), (λ h. All-nil (Holds atoms)))
  clauses_are_steps [] (f ∷ fs) e a = cc
  clauses_are_steps (k ∷ ks) [] e a = absurd (none_is (formula_of defaults k.condition) (clauses_of defaults ks) e)
  clauses_are_steps (k ∷ ks) (f ∷ fs) e a =
      let both = first_is (formula_of defaults k.condition) (clauses_of defaults ks) f fs e in
      let first = clause_is_steps k f both.0 (All-head Fits f fs a) in
      let later = clauses_are_steps ks fs both.1 (All-tail Fits f fs a) in (
        (λ h. All-cons IsTrue k ks (first.1 (All-head (Holds atoms) f fs h))
            (later.0 (All-tail (Holds atoms) f fs h))),
        (λ h. All-cons (Holds atoms) f fs (first.0 (All-head IsTrue k ks h)) (later.1 (All-tail IsTrue k ks h))),
      )

pub invariants_are_steps : InvariantsAreSteps
invariants_are_steps s me o p fs there reads formulas fits =
    let l = clauses_are_steps s me p (defaults_of s o.class) reads (invariant_of s o.class) fs formulas fits in
    let same = ap (λ (c : Option Object). atoms_of (attributes_in c)) there in
    subst (λ gs. MeetsClauses gs (atoms_of o.attributes) ↔ All (IsTrue s me p (defaults_of s o.class) reads)
    (invariant_of s o.class)) (sym formulas)
    (subst (λ seen. All (Holds seen) fs ↔ All (IsTrue s me p (defaults_of s o.class) reads)
    (invariant_of s o.class)) same l)
