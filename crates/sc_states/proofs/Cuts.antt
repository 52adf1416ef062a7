-- Lists that lie one after the other.
use Rattle.std.proofs.Common.{◌≡◌, ◌≤◌, ◌<◌, ◌+◌, ◌-◌, ◌++◌, ◌∷◌, [], ◌∙◌, ℕ, zero, suc, List, Some, length, drop, get_or, take, slice_get, refl, ap, arith, length-drop}
use Rattle.std.specs.Prelude.{slice_range}
use Rattle.std.proofs.lemmas.List.{drop-append-le, take-append-le}
use Rattle.std.proofs.Math.Seq.{drop-append_seam, take-length}
use Rattle.sc_states.specs.Cuts.{IsCut, cut, start_at}

pub length_cut : {A : Type 0} (from : ℕ) (ends : List ℕ) (flat : List A) → length (cut from ends flat) ≡ length ends
length_cut from [] flat = refl
length_cut from (end ∷ ends) flat = ap (λ (k : ℕ). suc k) (length_cut end ends flat)

-- ---- where a list lies

pub start_first : (from : ℕ) (ends : List ℕ) → start_at from ends 0 ≡ from
start_first from [] = refl
start_first from (end ∷ ends) = refl

pub start_next : (from : ℕ) (ends : List ℕ) (i d : ℕ) → i < length ends → start_at from ends (suc i) ≡ get_or ends i d
start_next from [] i d below = absurd (omega (arith, below))
start_next from (end ∷ ends) zero d below = start_first end ends
start_next from (end ∷ ends) (suc i) d below = start_next end ends i d (omega (arith, below))

pub cut_at : {A : Type 0} (from : ℕ) (ends : List ℕ) (flat : List A) (i d : ℕ) → i < length ends →
    slice_get (cut from ends flat) i ≡ Some (slice_range flat (start_at from ends i) (get_or ends i d))
cut_at from [] flat i d below = absurd (omega (arith, below))
cut_at from (end ∷ ends) flat zero d below = refl
cut_at from (end ∷ ends) flat (suc i) d below = cut_at end ends flat i d (omega (arith, below))

pub ends_within : (from : ℕ) (ends : List ℕ) (len : ℕ) → IsCut from ends len → from ≤ len
ends_within from [] len is = is.0
ends_within from (end ∷ ends) len is = let rest = ends_within end ends len is.1 in omega (arith, is.0, rest)

pub starts_before : (from : ℕ) (ends : List ℕ) (len i d : ℕ) → IsCut from ends len → i < length ends → start_at from ends i ≤ get_or ends i d
starts_before from [] len i d is below = absurd (omega (arith, below))
starts_before from (end ∷ ends) len zero d is below = is.0
starts_before from (end ∷ ends) len (suc i) d is below = starts_before end ends len i d is.1 (omega (arith, below))

pub end_within : (from : ℕ) (ends : List ℕ) (len i d : ℕ) → IsCut from ends len → i < length ends → get_or ends i d ≤ len
end_within from [] len i d is below = absurd (omega (arith, below))
end_within from (end ∷ ends) len zero d is below = ends_within end ends len is.1
end_within from (end ∷ ends) len (suc i) d is below = end_within end ends len i d is.1 (omega (arith, below))

-- ---- one more

range_more : {A : Type 0} (xs ys : List A) (a b : ℕ) → a ≤ b → b ≤ length xs → slice_range (xs ++ ys) a b ≡ slice_range xs a b
range_more {A = A} xs ys a b up within =
    ap (λ (zs : List A). take (b - a) zs) (drop-append-le a xs ys (omega arith)) ∙ take-append-le (b - a) (drop a xs) ys (omega (arith, length-drop a xs))

range_last : {A : Type 0} (xs ys : List A) (a b : ℕ) → a ≡ length xs → b ≡ length xs + length ys → slice_range (xs ++ ys) a b ≡ ys
range_last {A = A} xs ys a b is_a is_b =
    let count : b - a ≡ length ys = omega arith in
    ap (λ (n : ℕ). take n (drop a (xs ++ ys))) count ∙ ap (λ (n : ℕ). take (length ys) (drop n (xs ++ ys))) is_a
    ∙ ap (λ (zs : List A). take (length ys) zs) (drop-append_seam xs ys) ∙ take-length ys

pub cut_more : {A : Type 0} (from : ℕ) (ends : List ℕ) (flat xs : List A) (end : ℕ) → IsCut from ends (length flat) →
    end ≡ length flat + length xs → cut from (ends ++ end ∷ []) (flat ++ xs) ≡ cut from ends flat ++ xs ∷ []
cut_more {A = A} from [] flat xs end is at =
    let here : from ≡ length flat = omega (arith, is.0, is.1) in
    ap (λ (ys : List A). ys ∷ []) (range_last flat xs from end here at)
cut_more {A = A} from (first ∷ ends) flat xs end is at =
    let one : slice_range (flat ++ xs) from first ≡ slice_range flat from first =
    range_more flat xs from first is.0 (ends_within first ends (length flat) is.1) in
    let rest : cut first (ends ++ end ∷ []) (flat ++ xs) ≡ cut first ends flat ++ xs ∷ [] = cut_more first ends flat xs end is.1 at in
    ap (λ (ys : List A). ys ∷ cut first (ends ++ end ∷ []) (flat ++ xs)) one ∙ ap (λ (zs : List (List A)). slice_range flat from first ∷ zs) rest

pub is_cut_more : (from : ℕ) (ends : List ℕ) (len more end : ℕ) → IsCut from ends len → len ≤ more → end ≡ more → IsCut from (ends ++ end ∷ []) more
is_cut_more from [] len more end is up at = (omega (arith, is.0, is.1, up, at), (omega (arith, at), omega (arith, at)))
is_cut_more from (first ∷ ends) len more end is up at = (is.0, is_cut_more first ends len more end is.1 up at)
