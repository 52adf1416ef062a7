-- What the test of an invariant says.
use Rattle.std.proofs.Common.{◌≡◌, List, [], ◌∷◌, Option, Some, None, Bool, true, false, not, refl, ap, sym, ◌∙◌, subst}
use Rattle.std.proofs.lemmas.List.Elements.{All-nil, All-cons, All-head, All-tail}
use Rattle.std.specs.Prelude.{◌&&◌, unwrap_or, IsTrue, ◌↔◌}
use Rattle.sc_formula.specs.declared.atom.Atom.{Atom}
use Rattle.sc_formula.specs.Formula.{PlainFormula, truth_of}
use Rattle.sc_formula.specs.Invariant.{Holds, Meets}
use Rattle.sc_code.specs.declared.program.Image.{Image}
use Rattle.sc_region.specs.Values.{atoms_of}
use Rattle.sc_region.specs.Objects.{PlainObject}
use Rattle.sc_region.specs.Classes.{invariant_of, MeetsInvariant, MeetsAt, all_hold, meets_invariant, object_meets, object_breaks}

pub and_left : (a b : Bool) → a && b ≡ true → a ≡ true
and_left true b e = refl
and_left false b e = e

pub and_right : (a b : Bool) → a && b ≡ true → b ≡ true
and_right true b e = e
and_right false b e = cc

not_false : (a : Bool) → not a ≡ false → a ≡ true
not_false true e = refl
not_false false e = cc

holds_is : (o : Option Bool) → unwrap_or o false ≡ true → o ≡ Some true
holds_is None e = cc
holds_is (Some true) e = refl
holds_is (Some false) e = cc

all_are_true : (clauses : List PlainFormula) (atoms : List Atom) → all_hold clauses atoms ≡ true → Meets clauses atoms
all_are_true [] atoms e = All-nil (Holds atoms)
all_are_true (clause ∷ clauses) atoms e =
    All-cons (Holds atoms) clause clauses
    (holds_is (truth_of clause atoms) (and_left (unwrap_or (truth_of clause atoms) false) (all_hold clauses atoms) e))
    (all_are_true clauses atoms (and_right (unwrap_or (truth_of clause atoms) false) (all_hold clauses atoms) e))

-- an object that passes the test meets its class invariant
pub tested_meets : (p : Image) (o : PlainObject) → meets_invariant p o ≡ true → MeetsInvariant p o
tested_meets p o e = all_are_true (invariant_of p o.class) (atoms_of o.attributes) e

pub unbroken_meets : (p : Image) (found : Option PlainObject) (o : PlainObject) → found ≡ Some o → object_breaks p found ≡ false → MeetsInvariant p o
unbroken_meets p None o e b = cc
unbroken_meets p (Some it) o e b =
    let same : it ≡ o = cc in
    subst (MeetsInvariant p) same (tested_meets p it (not_false (meets_invariant p it) b))

all_tested : (clauses : List PlainFormula) (atoms : List Atom) → Meets clauses atoms → all_hold clauses atoms ≡ true
all_tested [] atoms m = refl
all_tested (clause ∷ clauses) atoms m =
    ap (λ o. unwrap_or o false && all_hold clauses atoms) (All-head (Holds atoms) clause clauses m)
    ∙ all_tested clauses atoms (All-tail (Holds atoms) clause clauses m)

-- what says whether the clauses hold is what the test gives
pub truth_is : (b : Bool) (clauses : List PlainFormula) (atoms : List Atom) → (IsTrue b ↔ Meets clauses atoms) → b ≡ all_hold clauses atoms
truth_is true clauses atoms h = sym (all_tested clauses atoms (h.0 refl))
truth_is false clauses atoms h =
    elim (all_hold clauses atoms) as (λ t. (t ≡ true → Meets clauses atoms) → false ≡ t) [
      | true ↦ λ m. h.1 (m refl)
      | false ↦ λ m. refl
    ] (all_are_true clauses atoms)

-- the object is there and meets its invariant exactly where it passes the test
pub test_tells : (p : Image) (found : Option PlainObject) (b : Bool) → b ≡ object_meets p found → IsTrue b ↔ MeetsAt p found
test_tells p None b e = ((λ t. let wrong : true ≡ false = sym t ∙ e in cc), (λ m. absurd m))
test_tells p (Some o) b e =
    ((λ t. tested_meets p o (sym e ∙ t)), (λ m. e ∙ all_tested (invariant_of p o.class) (atoms_of o.attributes) m))

-- an object that meets its invariant doesn't break it
pub meets_unbroken : (p : Image) (found : Option PlainObject) → MeetsAt p found → object_breaks p found ≡ false
meets_unbroken p None m = absurd m
meets_unbroken p (Some o) m = ap not (all_tested (invariant_of p o.class) (atoms_of o.attributes) m)
