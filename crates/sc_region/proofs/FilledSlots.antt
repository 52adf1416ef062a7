-- What an invariant sees of each attribute, written one after another.
use Rattle.std.proofs.Common.{append_assoc, ◌≡◌, ℕ, zero, suc, ◌+◌, ◌-◌, ◌<◌, ◌≤◌, List, [], ◌∷◌, ◌++◌, length, take, get_or, refl, sym, ap, ◌∙◌, arith}
use Rattle.std.proofs.lemmas.List.{take_more, take_more_set, replicate-append-replicate}
use Rattle.std.specs.Prelude.{replicate, slice_set}
use Rattle.sc_formula.specs.declared.atom.Atom.{Atom}
use Rattle.sc_region.specs.declared.value.Value.{Value}
use Rattle.sc_region.specs.Values.{atom_of, atoms_of}

taken_suc : (vs : List Value) (i : ℕ) (d : Value) → i < length vs → take (suc i) (atoms_of vs) ≡ take i (atoms_of vs) ++ atom_of (get_or vs i d) ∷ []
taken_suc [] i d l = absurd (omega arith)
taken_suc (v ∷ vs) zero d l = refl
taken_suc (v ∷ vs) (suc i) d l = ap (λ atoms. atom_of v ∷ atoms) (taken_suc vs i d (omega arith))

-- one more
pub filled : (atoms : List Atom) (vs : List Value) (i : ℕ) (d : Value) → i < length atoms → i < length vs → take i atoms ≡ take i (atoms_of vs)
    → take (i + 1) (slice_set atoms i (atom_of (get_or vs i d))) ≡ take (i + 1) (atoms_of vs)
filled atoms vs i d l m e =
    let next : i + 1 ≡ suc i = omega arith in
    take_more_set atoms i (atom_of (get_or vs i d)) l ∙ ap (λ l. l ++ atom_of (get_or vs i d) ∷ []) e ∙ sym (taken_suc vs i d m) ∙ ap (λ n. take n (atoms_of vs)) (sym next)

-- one more slot
pub slot_more : (vs : List Value) (n : ℕ) (v : Value) → vs ++ replicate (n + 1) v ≡ (vs ++ replicate n v) ++ v ∷ []
slot_more vs n v = ap (λ l. vs ++ l) (sym (replicate-append-replicate n 1 v)) ∙ sym (append_assoc vs (replicate n v) (v ∷ []))

-- one more slot has its actual
pub copied : (us vs : List Value) (i : ℕ) (d e : Value) → i < length us → i < length vs → take i us ≡ take i vs → take (i + 1) (slice_set us i (get_or vs i d)) ≡ take (i + 1) vs
copied us vs i d e l m h = take_more_set us i (get_or vs i d) l ∙ ap (λ l. l ++ get_or vs i d ∷ []) h ∙ sym (take_more vs i d m)

-- one more is Void behind them
pub voided : (us vs : List Value) (i n : ℕ) (v : Value) → n ≤ i → i < length us → take i us ≡ vs ++ replicate (i - n) v → take (i + 1) (slice_set us i v) ≡ vs ++ replicate (i + 1 - n) v
voided us vs i n v some l h =
    let more : i + 1 - n ≡ (i - n) + 1 = omega (arith, some) in
    take_more_set us i v l ∙ ap (λ l. l ++ v ∷ []) h ∙ sym (slot_more vs (i - n) v) ∙ ap (λ k. vs ++ replicate k v) (sym more)
