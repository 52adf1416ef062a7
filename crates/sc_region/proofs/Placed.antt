-- An object that differs in one attribute, in a list of what stands for objects.
use Rattle.std.proofs.Common.{◌≡◌, ◌≢◌, ℕ, zero, suc, ◌-◌, ◌<◌, ◌≤◌, List, [], ◌∷◌, ◌++◌, Some, false, drop, take, length, map, get_or, refl, sym, ap, ◌∙◌, arith}
use Rattle.std.proofs.lemmas.Bool.Decides.{nat_tests}
use Rattle.std.proofs.Math.Seq.{take-append_seam}
use Rattle.std.proofs.lemmas.List.{set_past}
use Rattle.std.proofs.lemmas.Option.{slice_get_past, slice_get-map}
use Rattle.std.specs.Option.{option_map}
use Rattle.std.specs.Prelude.{◌==◌, slice_get, slice_set, if◌then◌else◌}
use Rattle.sc_region.specs.declared.object.Object.{Object}
use Rattle.sc_region.specs.declared.value.Value.{Value}
use Rattle.sc_region.specs.Objects.{PlainObject, object_numbered, object_of, with_slot, with_object, with_attribute}
use Rattle.sc_region.proofs.Numbered.{numbered_suc, with_suc}
use Rattle.sc_region.specs.Lending.{with_object_there}

get_map : {A : Type 0} (g : A → PlainObject) (xs : List A) (i : ℕ) (d : A) → i < length xs → slice_get (map g xs) i ≡ Some (g (get_or xs i d))
get_map g [] i d l = absurd (omega arith)
get_map g (x ∷ xs) zero d l = refl
get_map g (x ∷ xs) (suc i) d l = get_map g xs i d (omega arith)

map_set : {A : Type 0} (g : A → PlainObject) (xs : List A) (i : ℕ) (w : A) → map g (slice_set xs i w) ≡ slice_set (map g xs) i (g w)
map_set g [] i w = refl
map_set g (x ∷ xs) zero w = refl
map_set g (x ∷ xs) (suc i) w = ap (λ l. g x ∷ l) (map_set g xs i w)

placed_suc : {A : Type 0} (g : A → PlainObject) (xs : List A) (i slot : ℕ) (v : Value) (d w : A) → i < length xs → g w ≡ with_slot slot v (g (get_or xs i d)) →
    map g (slice_set xs i w) ≡ with_attribute (suc i) slot v (map g xs)
placed_suc g xs i slot v d w l e =
    map_set g xs i w ∙ ap (slice_set (map g xs) i) e ∙ ap (with_object i slot v (map g xs)) (sym (get_map g xs i d l)) ∙ sym (with_suc i slot v (map g xs))

pub there_suc : (n : ℕ) (o : PlainObject) (os : List PlainObject) → with_object_there (suc n) o os ≡ slice_set os n o
there_suc n o os =
    let f : (suc n == 0) ≡ false = grind (arith, nat_tests) in
    let e : suc n - 1 ≡ n = omega arith in
    ap (λ b. if b then os else slice_set os (suc n - 1) o) f ∙ ap (λ j. slice_set os j o) e

-- another in the place of the one of the number, which differs in the attribute alone
pub placed : {A : Type 0} (g : A → PlainObject) (xs : List A) (number slot : ℕ) (v : Value) (d w : A) → number ≢ 0 → number ≤ length xs → g w ≡ with_slot slot v (g (get_or xs (number - 1) d)) →
    map g (slice_set xs (number - 1) w) ≡ with_attribute number slot v (map g xs)
placed g xs zero slot v d w ne l e = absurd (ne refl)
placed g xs (suc i) slot v d w ne l e =
    let same : suc i - 1 ≡ i = omega arith in
    ap (λ j. map g (slice_set xs j w)) same ∙ placed_suc g xs i slot v d w (omega arith) (e ∙ ap (λ j. with_slot slot v (g (get_or xs j d))) same)

-- ---- the object of a number

pub object_at : (xs : List Object) (number n : ℕ) → (number ≡ 0 → length xs ≤ n) → (0 < number → n ≡ number - 1) → option_map object_of (slice_get xs n) ≡ object_numbered number (map object_of xs)
object_at xs zero n none some = ap (option_map object_of) (slice_get_past xs n (none refl))
object_at xs (suc i) n none some =
    let same : n ≡ i = omega (arith, some (omega arith)) in
    ap (λ j. option_map object_of (slice_get xs j)) same ∙ sym (slice_get-map object_of xs i) ∙ sym (numbered_suc i (map object_of xs))

pub object_put : (xs : List Object) (number n : ℕ) (w : Object) → (number ≡ 0 → length xs ≤ n) → (0 < number → n ≡ number - 1) → map object_of (slice_set xs n w) ≡ with_object_there number (object_of w) (map object_of xs)
object_put xs zero n w none some = ap (map object_of) (set_past xs n w (none refl))
object_put xs (suc i) n w none some =
    let same : n ≡ i = omega (arith, some (omega arith)) in
    ap (λ j. map object_of (slice_set xs j w)) same ∙ map_set object_of xs i w ∙ sym (there_suc i (object_of w) (map object_of xs))

-- ---- attributes that were lent

-- as many as there were
pub refilled : (vs us : List Value) (n : ℕ) → length vs ≡ n → length us ≡ length vs → take n (us ++ drop (length us) vs) ≡ us
refilled vs us n e f =
    let all : n ≡ length us = omega (arith, e, f) in
    ap (λ k. take k (us ++ drop (length us) vs)) all ∙ take-append_seam us (drop (length us) vs)
