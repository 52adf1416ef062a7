-- What the test of an invariant says.
use Rattle.std.proofs.Common.{◌≡◌, List, [], ◌∷◌, Option, Some, None, Bool, true, false, subst}
use Rattle.std.proofs.lemmas.List.Elements.{All-nil, All-cons}
use Rattle.std.specs.Prelude.{◌&&◌, unwrap_or}
use Rattle.std.specs.List.{list_all}
use Rattle.sc_formula.specs.declared.atom.Atom.{Atom}
use Rattle.sc_formula.specs.Formula.{PlainFormula, truth_of}
use Rattle.sc_formula.specs.Invariant.{Holds, Meets}
use Rattle.sc_tree.specs.Plain.{System}
use Rattle.sc_model.specs.Invariants.{atoms_of, formulas_of, MeetsClauses, MeetsInvariant, meets_clauses, meets_invariant}
use Rattle.sc_model.specs.Objects.{Object}
use Rattle.sc_model.specs.Preconditions.{object_meets}

both : (a b : Bool) → a && b ≡ true → (a ≡ true) × (b ≡ true)
both true true e = (e, e)
both true false e = cc
both false b e = cc

holds_is : (o : Option Bool) → unwrap_or o false ≡ true → o ≡ Some true
holds_is None e = cc
holds_is (Some true) e = cc
holds_is (Some false) e = cc

all_are_true : (clauses : List PlainFormula) (atoms : List Atom) → list_all (λ (c : PlainFormula). unwrap_or (truth_of c atoms) false) clauses ≡ true → Meets clauses atoms
all_are_true [] atoms e = All-nil (Holds atoms)
all_are_true (clause ∷ clauses) atoms e =
    let t = both (unwrap_or (truth_of clause atoms) false) (list_all (λ (c : PlainFormula). unwrap_or (truth_of c atoms) false) clauses) e in
    All-cons (Holds atoms) clause clauses (holds_is (truth_of clause atoms) t.0) (all_are_true clauses atoms t.1)

clauses_meet : (formulas : Option (List PlainFormula)) (atoms : List Atom) → meets_clauses formulas atoms ≡ true → MeetsClauses formulas atoms
clauses_meet None atoms e = cc
clauses_meet (Some clauses) atoms e = all_are_true clauses atoms e

-- An object that passes the test meets its class invariant.
pub tested_meets : (s : System) (o : Object) → meets_invariant s o ≡ true → MeetsInvariant s o
tested_meets s o e = clauses_meet (formulas_of s o.class) (atoms_of o.attributes) e

-- So does the one that is found.
pub found_meets : (s : System) (found : Option Object) (o : Object) → found ≡ Some o → object_meets s found ≡ true → MeetsInvariant s o
found_meets s None o e t = cc
found_meets s (Some it) o e t =
    let same : it ≡ o = cc in
    subst (MeetsInvariant s) same (tested_meets s it t)
