-- The joined invariant of a class, tested class by class.
use Rattle.std.proofs.Common.{◌≡◌, ◌-◌, ℕ, Bool, true, false, List, [], ◌∷◌, Option, Some, None, drop, length, map, refl, ap, sym, ◌∙◌}
use Rattle.std.specs.Prelude.{All, IsTrue, ◌↔◌, ◌&&◌, slice_get, unwrap_or}
use Rattle.std.specs.List.{list_all}
use Rattle.std.specs.Option.{option_map}
use Rattle.std.proofs.lemmas.List.{length-map}
use Rattle.std.proofs.lemmas.List.Elements.{All-nil, All-cons, All-head, All-tail}
use Rattle.std.proofs.lemmas.List.Folds.{list_all-append}
use Rattle.std.proofs.lemmas.Option.{slice_get-map}
use Rattle.sc_formula.specs.declared.atom.Atom.{Atom}
use Rattle.sc_formula.specs.Formula.{PlainFormula, truth_of}
use Rattle.sc_formula.specs.Plain.{plain_formula}
use Rattle.sc_code.specs.declared.program.ClassCode.{ClassCode}
use Rattle.sc_code.specs.declared.program.Image.{Image}
use Rattle.sc_code.specs.JoinedInvariants.{joined_in, kept_along, kept_from, moved}
use Rattle.sc_code.specs.Programs.{PlainClass, attribute_in, class_in}
use Rattle.sc_code.proofs.MovedFormulas.{moved_truth}
use Rattle.sc_region.specs.Classes.{all_hold, class_at, classes_of, invariant_of, joined_of}
use Rattle.sc_region.proofs.InvariantTests.{and_left, and_right}

-- ---- truth values

and_swapped : (a b : Bool) → (a && b) ≡ (b && a)
and_swapped true true = refl
and_swapped true false = refl
and_swapped false true = refl
and_swapped false false = refl

all_pass : {A : Type 0} (p : A → Bool) (xs : List A) → All (λ x. p x ≡ true) xs → list_all p xs ≡ true
all_pass p [] h = refl
all_pass p (x ∷ xs) h =
    ap (λ b. b && list_all p xs) (All-head (λ x. p x ≡ true) x xs h) ∙ all_pass p xs (All-tail (λ x. p x ≡ true) x xs h)

passed : {A : Type 0} (p : A → Bool) (xs : List A) → list_all p xs ≡ true → All (λ x. p x ≡ true) xs
passed p [] e = All-nil (λ x. p x ≡ true)
passed p (x ∷ xs) e = All-cons (λ x. p x ≡ true) x xs (and_left (p x) (list_all p xs) e) (passed p xs (and_right (p x) (list_all p xs) e))

pub all_told : {A : Type 0} (b : Bool) (p : A → Bool) (xs : List A) → (IsTrue b ↔ All (λ x. p x ≡ true) xs) → b ≡ list_all p xs
all_told true p xs h = sym (all_pass p xs (h.0 refl))
all_told false p xs h = by (list_all p xs) refl
  where
    by : (c : Bool) → list_all p xs ≡ c → false ≡ c
    by false e = refl
    by true e = h.1 (passed p xs e)

-- ---- clauses

all_moved : (n : ℕ) (clauses : List PlainFormula) (atoms : List Atom) → all_hold (map (moved n) clauses) atoms ≡ all_hold clauses (drop n atoms)
all_moved n [] atoms = refl
all_moved n (clause ∷ clauses) atoms =
    ap (λ t. unwrap_or t false && all_hold (map (moved n) clauses) atoms) (moved_truth n atoms clause)
    ∙ ap (λ b. unwrap_or (truth_of clause (drop n atoms)) false && b) (all_moved n clauses atoms)

-- what a class declares itself, of an object with so many attributes: of the last ones
pub own_hold : (n : ℕ) (c : ClassCode) (atoms : List Atom) →
    all_hold (kept_from n (Some (class_in c))) atoms ≡ all_hold (map plain_formula c.invariant.items) (drop (n - length c.attributes.items) atoms)
own_hold n c atoms =
    all_moved (n - length (map attribute_in c.attributes.items)) (map plain_formula c.invariant.items) atoms
    ∙ ap (λ m. all_hold (map plain_formula c.invariant.items) (drop (n - m) atoms)) (length-map c.attributes.items attribute_in)

-- The joined invariant is met where that of each class is.
pub each_holds : (classes : List PlainClass) (n : ℕ) (ks : List ℕ) (atoms : List Atom) →
    all_hold (kept_along classes n ks) atoms ≡ list_all (λ k. all_hold (kept_from n (slice_get classes k)) atoms) ks
each_holds classes n [] atoms = refl
each_holds classes n (k ∷ ks) atoms =
    let here = all_hold (kept_from n (slice_get classes k)) atoms in
    list_all-append (λ clause. unwrap_or (truth_of clause atoms) false) (kept_along classes n ks) (kept_from n (slice_get classes k))
    ∙ and_swapped (all_hold (kept_along classes n ks) atoms) here ∙ ap (λ b. here && b) (each_holds classes n ks atoms)

-- ---- classes of an image

pub class_there : (p : Image) (k : ℕ) (o : Option ClassCode) → class_at p k ≡ o → slice_get (classes_of p) k ≡ option_map class_in o
class_there p k o e = slice_get-map class_in p.classes.items k ∙ ap (option_map class_in) e

pub joined_there : (p : Image) (k : ℕ) (c : ClassCode) → class_at p k ≡ Some c → invariant_of p k ≡ joined_of p c
joined_there p k c e = ap (joined_in (classes_of p)) (class_there p k (Some c) e)

pub joined_nowhere : (p : Image) (k : ℕ) → class_at p k ≡ None → invariant_of p k ≡ []
joined_nowhere p k e = ap (joined_in (classes_of p)) (class_there p k None e)
