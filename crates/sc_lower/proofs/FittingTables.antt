-- Names of which no two are equal stand at one number each, and operations that are read one after the other fit.
use Rattle.std.proofs.Common.{◌≡◌, ◌<◌, ℕ, length, get_or, zero, suc, Bool, true, false, List, [], ◌∷◌, ◌++◌, map, Some, refl, sym, ap, subst, ◌∙◌}
use Rattle.std.specs.Prelude.{◌&&◌, bytes_eq, slice_get}
use Rattle.std.specs.List.{AllByRecursion, IsDistinct, list_all}
use Rattle.std.specs.Borrow.{Bor}
use Rattle.std.proofs.lemmas.Slice.Eq.{bytes_eq-Decides}
use Rattle.sc_class.proofs.Items.{item_in, some_is}
use Rattle.sc_code.specs.Operations.{Operation}
use Rattle.sc_code.specs.RequestRoom.{AreDistinct}
use Rattle.sc_lower.specs.Fitting.{AllFit, fits}

-- the names that are borrowed
abbrev names_of : List (Bor (List ℕ)) → List (List ℕ)
names_of ks = map (λ (k : Bor (List ℕ)). k.now) ks

same_bytes : (x : List ℕ) → bytes_eq x x ≡ true
same_bytes x = (bytes_eq-Decides x x).1 refl

-- a name that is equal to none of these stands at no number
apart : (k : Bor (List ℕ)) (ks : List (Bor (List ℕ))) → AllByRecursion (λ (l : Bor (List ℕ)). bytes_eq k.now l.now ≡ false) ks → (n : ℕ) → slice_get (names_of ks) n ≡ Some k.now → ⊥
apart k [] f n e = cc
apart k (l ∷ ks) f zero e =
    let no : true ≡ false = sym (same_bytes k.now) ∙ ap (bytes_eq k.now) (sym (some_is l.now k.now e)) ∙ f.0 in cc
apart k (l ∷ ks) f (suc n) e = apart k ks f.1 n e

-- Where no two of them are equal, no name stands at two numbers.
pub names_distinct : (ks : List (Bor (List ℕ))) → IsDistinct (λ (k l : Bor (List ℕ)). bytes_eq k.now l.now) ks → AreDistinct (map (λ (k : Bor (List ℕ)). k.now) ks)
unfolding IsDistinct
names_distinct [] d m n x e f = cc
names_distinct (k ∷ ks) d zero zero x e f = refl
names_distinct (k ∷ ks) d zero (suc n) x e f = absurd (apart k ks d.0 n (f ∙ sym e))
names_distinct (k ∷ ks) d (suc m) zero x e f = absurd (apart k ks d.0 m (e ∙ sym f))
names_distinct (k ∷ ks) d (suc m) (suc n) x e f = ap (λ k. suc k) (names_distinct ks d.1 m n x e f)

-- ---- operations

both : (a b : Bool) → (a && b) ≡ true → (a ≡ true) × (b ≡ true)
both true b e = (refl, e)
both false b e = cc

one_fits : (os : List Operation) (n : ℕ) (o : Operation) → AllFit os → slice_get os n ≡ Some o → fits o ≡ true
one_fits [] n o f e = cc
one_fits (p ∷ os) zero o f e = ap fits (sym (some_is p o e)) ∙ (both (fits p) (list_all fits os) f).0
one_fits (p ∷ os) (suc n) o f e = one_fits os n o (both (fits p) (list_all fits os) f).1 e

-- the operation that a loop has read
pub read_fits : {U : Type 0} (f : U → Operation) (us : List U) (n : ℕ) (u : U) → n < length us → u ≡ get_or us n u → AllFit (map f us) → fits (f u) ≡ true
read_fits f us n u l e a = one_fits (map f us) n (f u) a (item_in f us n u l e)
