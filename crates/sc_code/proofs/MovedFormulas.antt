-- A formula over an ancestor's attributes, of an heir's object: what stands in front of them is no matter.
use Rattle.std.proofs.Common.{◌≡◌, ℕ, zero, suc, ◌+◌, List, [], ◌∷◌, Some, drop, map, refl, ap, ◌∙◌, arith}
use Rattle.std.specs.Prelude.{not, slice_get}
use Rattle.std.specs.Option.{option_map, option_and_then}
use Rattle.std.specs.Result.{result_ok}
use Rattle.sc_formula.specs.declared.atom.Atom.{Atom}
use Rattle.sc_formula.specs.Arithmetic.{opposite_of, result_of}
use Rattle.sc_formula.specs.Atom.{as_boolean, as_integer, as_void}
use Rattle.sc_formula.specs.Comparison.{compares}
use Rattle.sc_formula.specs.Connective.{connection_of}
use Rattle.sc_formula.specs.Formula.{PlainFormula, truth_of, Constant, Attribute, IsVoid, NotVoid, Not, Compared, Connected}
use Rattle.sc_formula.specs.Term as term
use Rattle.sc_formula.specs.Term.{PlainTerm, value_of, with_both}
use Rattle.sc_code.specs.JoinedInvariants.{moved, moved_term}

pub none_in_front : (k : ℕ) → 0 + k ≡ k
none_in_front k = omega arith

one_in_front : (n k : ℕ) → suc n + k ≡ suc (n + k)
one_in_front n k = omega arith

get_behind : {A : Type 0} (n k : ℕ) (xs : List A) → slice_get xs (n + k) ≡ slice_get (drop n xs) k
get_behind zero k xs = ap (slice_get xs) (none_in_front k)
get_behind (suc n) k [] = refl
get_behind (suc n) k (x ∷ xs) = ap (slice_get (x ∷ xs)) (one_in_front n k) ∙ get_behind n k xs

-- ---- what it comes to

moved_value : (n : ℕ) (atoms : List Atom) (t : PlainTerm) → value_of (moved_term n t) atoms ≡ value_of t (drop n atoms)
moved_value n atoms (term.Integer z) = refl
moved_value n atoms (term.Attribute k) = ap (option_and_then as_integer) (get_behind n k atoms)
moved_value n atoms (term.Identity t) = moved_value n atoms t
moved_value n atoms (term.Opposite t) = ap (option_and_then (λ z. result_ok (opposite_of z))) (moved_value n atoms t)
moved_value n atoms (term.Arithmetic l op r) =
    ap (λ u. with_both (λ a b. result_ok (result_of op a b)) u (value_of (moved_term n r) atoms)) (moved_value n atoms l)
    ∙ ap (with_both (λ a b. result_ok (result_of op a b)) (value_of l (drop n atoms))) (moved_value n atoms r)

pub moved_truth : (n : ℕ) (atoms : List Atom) (f : PlainFormula) → truth_of (moved n f) atoms ≡ truth_of f (drop n atoms)
moved_truth n atoms (Constant b) = refl
moved_truth n atoms (Attribute k) = ap (option_and_then as_boolean) (get_behind n k atoms)
moved_truth n atoms (IsVoid k) = ap (option_and_then as_void) (get_behind n k atoms)
moved_truth n atoms (NotVoid k) = ap (λ o. option_map not (option_and_then as_void o)) (get_behind n k atoms)
moved_truth n atoms (Not f) = ap (option_map not) (moved_truth n atoms f)
moved_truth n atoms (Compared l c r) =
    ap (λ u. with_both (λ a b. Some (compares c a b)) u (value_of (moved_term n r) atoms)) (moved_value n atoms l)
    ∙ ap (with_both (λ a b. Some (compares c a b)) (value_of l (drop n atoms))) (moved_value n atoms r)
moved_truth n atoms (Connected l c r) =
    ap (λ t. connection_of c t (truth_of (moved n r) atoms)) (moved_truth n atoms l)
    ∙ ap (connection_of c (truth_of l (drop n atoms))) (moved_truth n atoms r)

-- ---- moved by none, and moved twice

still_term : (t : PlainTerm) → moved_term 0 t ≡ t
still_term (term.Integer z) = refl
still_term (term.Attribute k) = ap term.Attribute (none_in_front k)
still_term (term.Identity t) = ap term.Identity (still_term t)
still_term (term.Opposite t) = ap term.Opposite (still_term t)
still_term (term.Arithmetic l op r) = ap (λ u. term.Arithmetic u op (moved_term 0 r)) (still_term l) ∙ ap (term.Arithmetic l op) (still_term r)

still : (f : PlainFormula) → moved 0 f ≡ f
still (Constant b) = refl
still (Attribute k) = ap Attribute (none_in_front k)
still (IsVoid k) = ap IsVoid (none_in_front k)
still (NotVoid k) = ap NotVoid (none_in_front k)
still (Not f) = ap Not (still f)
still (Compared l c r) = ap (λ u. Compared u c (moved_term 0 r)) (still_term l) ∙ ap (Compared l c) (still_term r)
still (Connected l c r) = ap (λ g. Connected g c (moved 0 r)) (still l) ∙ ap (Connected l c) (still r)

pub all_still : (fs : List PlainFormula) → map (moved 0) fs ≡ fs
all_still [] = refl
all_still (f ∷ fs) = ap (λ g. g ∷ map (moved 0) fs) (still f) ∙ ap (λ gs. f ∷ gs) (all_still fs)

module _ (m n : ℕ) where
  further : (k : ℕ) → m + (n + k) ≡ (m + n) + k
  further k = omega arith

  twice_term : (t : PlainTerm) → moved_term m (moved_term n t) ≡ moved_term (m + n) t
  twice_term (term.Integer z) = refl
  twice_term (term.Attribute k) = ap term.Attribute (further k)
  twice_term (term.Identity t) = ap term.Identity (twice_term t)
  twice_term (term.Opposite t) = ap term.Opposite (twice_term t)
  twice_term (term.Arithmetic l op r) =
      ap (λ u. term.Arithmetic u op (moved_term m (moved_term n r))) (twice_term l) ∙ ap (term.Arithmetic (moved_term (m + n) l) op) (twice_term r)

  twice : (f : PlainFormula) → moved m (moved n f) ≡ moved (m + n) f
  twice (Constant b) = refl
  twice (Attribute k) = ap Attribute (further k)
  twice (IsVoid k) = ap IsVoid (further k)
  twice (NotVoid k) = ap NotVoid (further k)
  twice (Not f) = ap Not (twice f)
  twice (Compared l c r) =
      ap (λ u. Compared u c (moved_term m (moved_term n r))) (twice_term l) ∙ ap (Compared (moved_term (m + n) l) c) (twice_term r)
  twice (Connected l c r) = ap (λ g. Connected g c (moved m (moved n r))) (twice l) ∙ ap (Connected (moved (m + n) l) c) (twice r)

  pub all_twice : (fs : List PlainFormula) → map (moved m) (map (moved n) fs) ≡ map (moved (m + n)) fs
  all_twice [] = refl
  all_twice (f ∷ fs) = ap (λ g. g ∷ map (moved m) (map (moved n) fs)) (twice f) ∙ ap (λ gs. moved (m + n) f ∷ gs) (all_twice fs)
