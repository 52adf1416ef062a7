-- Numbers of what is kept.
use Rattle.std.proofs.Common.{◌≡◌, ◌⊎◌, ◌≤◌, ◌<◌, ◌+◌, ◌-◌, ◌++◌, ◌∷◌, [], ◌∙◌, inl, inr, ℕ, zero, suc, List, Some, drop, get_or, length, map, slice_get, take, refl, sym, ap, subst, arith, append_assoc, length-append, length-drop}
use Rattle.std.specs.Prelude.{slice_range}
use Rattle.std.proofs.lemmas.List.{append-nil, length-map, map-append, take-append-le}
use Rattle.std.proofs.lemmas.List.Elements.{All-from_get_or}
use Rattle.std.proofs.lemmas.Option.{get_or_from_slice_get, slice_get-get_or, slice_get_within}
use Rattle.std.proofs.Math.Seq.{drop-append_seam, take-length}
use Rattle.std.proofs.lemmas.List.{length-take-le}
use Rattle.sc_search.specs.Numbering.{AddsNumbers, AreNumbers, Stays, half, part_numbers, region_numbers}
use Rattle.sc_request.specs.Parts.{AreWithin, means}

-- ---- lists that grow

pub stays_same : {X : Type 0} (xs ys : List X) → ys ≡ xs → Stays xs ys
stays_same {X = X} xs ys same = λ i x at. subst (λ (zs : List X). slice_get zs i ≡ Some x) (sym same) at

get_before : {X : Type 0} (xs zs : List X) (i : ℕ) (k : X) → slice_get xs i ≡ Some k → slice_get (xs ++ zs) i ≡ Some k
get_before [] zs i k e = cc
get_before (y ∷ xs) zs zero k e = e
get_before (y ∷ xs) zs (suc i) k e = get_before xs zs i k e

get_last : {X : Type 0} (xs : List X) (x : X) → slice_get (xs ++ x ∷ []) (length xs) ≡ Some x
get_last [] x = refl
get_last (y ∷ xs) x = get_last xs x

get_split : {X : Type 0} (xs : List X) (x : X) (i : ℕ) (k : X) → slice_get (xs ++ x ∷ []) i ≡ Some k → (slice_get xs i ≡ Some k) ⊎ ((i ≡ length xs) × (k ≡ x))
get_split [] x zero k e = inr (refl, cc)
get_split [] x (suc i) k e = cc
get_split (y ∷ xs) x zero k e = inl e
get_split (y ∷ xs) x (suc i) k e = elim (get_split xs x i k e) [
  | inl before ↦ inl before
  | inr last ↦ inr (ap (λ (n : ℕ). suc n) last.0, last.1)
]

pub stays_pushed : {X Y : Type 0} (f : X → Y) (xs ys : List X) (x : X) → ys ≡ xs ++ x ∷ [] → Stays (map f xs) (map f ys)
stays_pushed {X = X} {Y = Y} f xs ys x more = λ i y at.
    subst (λ (zs : List Y). slice_get zs i ≡ Some y) (sym (ap (map f) more ∙ map-append f xs (x ∷ []))) (get_before (map f xs) (map f (x ∷ [])) i y at)

-- what is added stands at the end
pub stands_last : {X Y : Type 0} (f : X → Y) (xs ys : List X) (x : X) (n : ℕ) → ys ≡ xs ++ x ∷ [] → n ≡ length xs → slice_get (map f ys) n ≡ Some (f x)
stands_last {X = X} {Y = Y} f xs ys x n more at =
    ap (λ (k : ℕ). slice_get (map f ys) k) (at ∙ sym (length-map xs f))
    ∙ ap (λ (zs : List Y). slice_get zs (length (map f xs))) (ap (map f) more ∙ map-append f xs (x ∷ [])) ∙ get_last (map f xs) (f x)

pub stays_all : {X : Type 0} (xs ys zs : List X) → Stays xs ys → Stays ys zs → Stays xs zs
stays_all xs ys zs one two = λ i x at. two i x (one i x at)

-- as much stands in the longer one
pub stays_longer : {X : Type 0} (xs ys : List X) → Stays xs ys → length xs ≤ length ys
stays_longer [] ys stay = omega arith
stays_longer (x ∷ xs) ys stay =
    let last : slice_get (x ∷ xs) (length xs) ≡ Some (get_or (x ∷ xs) (length xs) x) = slice_get-get_or (x ∷ xs) (length xs) x (omega arith) in
    let below = slice_get_within ys (length xs) (get_or (x ∷ xs) (length xs) x) (stay (length xs) (get_or (x ∷ xs) (length xs) x) last) in
    omega (arith, below)

-- ---- what numbers stand for

module _ {X : Type 0} where
  pub numbers_none : (values : List X) (at : ℕ → X) (before after : List ℕ) → after ≡ before → AddsNumbers values at 0 before after
  numbers_none values at before after same = record {
    numbers = [];
    all = same ∙ sym (append-nil before);
    are = record { count_is = refl; each = λ h n e. cc };
  }

  -- one more
  pub numbers_next : (values more : List X) (at : ℕ → X) (count n : ℕ) (before after longer : List ℕ) → AddsNumbers values at count before after → Stays values more →
      slice_get more n ≡ Some (at count) → longer ≡ after ++ n ∷ [] → AddsNumbers more at (count + 1) before longer
  numbers_next values more at count n before after longer adds stay stands is = record {
    numbers = adds.numbers ++ n ∷ [];
    all = is ∙ ap (λ (xs : List ℕ). xs ++ n ∷ []) adds.all ∙ append_assoc before adds.numbers (n ∷ []);
    are = record {
      count_is = omega (arith, length-append adds.numbers (n ∷ []), adds.are.count_is);
      each = λ h m e. elim (get_split adds.numbers n h m e) [
        | inl old ↦ stay m (at h) (adds.are.each h m old)
        | inr new ↦
            let here : h ≡ count = new.0 ∙ adds.are.count_is in
            subst (λ (k : ℕ). slice_get more k ≡ Some (at h)) (sym new.1) (subst (λ (k : ℕ). slice_get more n ≡ Some (at k)) (sym here) stands)
      ];
    };
  }

  -- they are numbers of values,
  pub numbers_within : (values : List X) (at : ℕ → X) (count : ℕ) (numbers : List ℕ) → AreNumbers values at count numbers → AreWithin numbers (length values)
  numbers_within values at count numbers are =
      All-from_get_or (λ n. n < length values) numbers 0 (λ i below.
      slice_get_within values (get_or numbers i 0) (at i) (are.each i (get_or numbers i 0) (slice_get-get_or numbers i 0 below)))

  pub length_means : (values : List X) (d : X) (numbers : List ℕ) → length (means values d numbers) ≡ length numbers
  length_means values d numbers = length-map numbers (λ (n : ℕ). get_or values n d)

  get_means : (values : List X) (d : X) (numbers : List ℕ) (h n : ℕ) → slice_get numbers h ≡ Some n → slice_get (means values d numbers) h ≡ Some (get_or values n d)
  get_means values d [] h n e = cc
  get_means values d (m ∷ ns) zero n e = let same : m ≡ n = cc in ap (λ (k : ℕ). Some (get_or values k d)) same
  get_means values d (m ∷ ns) (suc h) n e = get_means values d ns h n e

  -- whose values stand at their places
  pub numbers_mean : (values : List X) (d : X) (at : ℕ → X) (count : ℕ) (numbers : List ℕ) (h : ℕ) → AreNumbers values at count numbers → h < count →
      slice_get (means values d numbers) h ≡ Some (at h)
  numbers_mean values d at count numbers h are below =
      let n = get_or numbers h 0 in
      let here : slice_get numbers h ≡ Some n = slice_get-get_or numbers h 0 (omega (arith, below, are.count_is)) in
      get_means values d numbers h n here ∙ ap Some (get_or_from_slice_get values n (at h) d (are.each h n here))

  -- numbers keep their values
  pub means_stay : (xs ys : List X) (d : X) (numbers : List ℕ) → Stays xs ys → AreWithin numbers (length xs) → means ys d numbers ≡ means xs d numbers
  means_stay xs ys d [] stay within = refl
  means_stay xs ys d (n ∷ ns) stay within =
      let first : get_or ys n d ≡ get_or xs n d = get_or_from_slice_get ys n (get_or xs n d) d (stay n (get_or xs n d) (slice_get-get_or xs n d (within 0 0 (omega arith)))) in
      let rest : means ys d ns ≡ means xs d ns = means_stay xs ys d ns stay (λ k e below. within (suc k) e (omega (arith, below))) in
      cc

pub within_up : (numbers : List ℕ) (count more : ℕ) → count ≤ more → AreWithin numbers count → AreWithin numbers more
within_up numbers count more up within = λ k d below. let here = within k d below in omega (arith, here, up)

-- what is equal at each member is equal
pub map_same : {X Y : Type 0} (f g : X → Y) (xs : List X) → ((i : ℕ) (x : X) → slice_get xs i ≡ Some x → f x ≡ g x) → map f xs ≡ map g xs
map_same f g [] each = refl
map_same f g (x ∷ xs) each =
    let first : f x ≡ g x = each 0 x refl in
    let rest : map f xs ≡ map g xs = map_same f g xs (λ i y at. each (suc i) y at) in
    cc

-- ---- the halves of a tuple

module _ (tuple first second : List ℕ) (count n : ℕ) (all : tuple ≡ (count ∷ [] ++ first) ++ second) (one : length first ≡ n) (two : length second ≡ n) where
  pub tuple_long : length tuple ≡ 1 + n + n
  tuple_long = ap length all ∙ length-append (count ∷ first) second ∙ omega (arith, one, two)

  pub half_of : half tuple ≡ n
  half_of = omega (arith, tuple_long)

  pub count_of : get_or tuple 0 0 ≡ count
  count_of = ap (λ (xs : List ℕ). get_or xs 0 0) all

  pub first_of_tuple : region_numbers tuple ≡ first
  first_of_tuple =
      ap (λ (k : ℕ). slice_range tuple 1 (1 + k)) half_of
      ∙ ap (λ (xs : List ℕ). slice_range xs 1 (1 + n)) all
      ∙ ap (λ (k : ℕ). take k (first ++ second)) (omega (arith, one))
      ∙ take-append-le (length first) first second (omega arith) ∙ take-length first

  pub second_of_tuple : part_numbers tuple ≡ second
  second_of_tuple =
      let long : 1 + n + n - (1 + n) ≡ length second = omega (arith, two) in
      let place : 1 + n ≡ length (count ∷ first) = omega (arith, one) in
      ap (λ (k : ℕ). slice_range tuple (1 + k) (length tuple)) half_of
      ∙ ap (λ (k : ℕ). slice_range tuple (1 + n) k) tuple_long
      ∙ ap (λ (xs : List ℕ). slice_range xs (1 + n) (1 + n + n)) all
      ∙ ap (λ (k : ℕ). take k (drop (1 + n) (count ∷ first ++ second))) long
      ∙ ap (λ (k : ℕ). take (length second) (drop k (count ∷ first ++ second))) place
      ∙ ap (take (length second)) (drop-append_seam (count ∷ first) second) ∙ take-length second

-- ---- how long its halves are

module _ (tuple : List ℕ) (whole : length tuple ≡ 1 + half tuple + half tuple) where
  pub regions_long : length (region_numbers tuple) ≡ half tuple
  regions_long =
      let few : half tuple ≤ length (drop 1 tuple) = omega (arith, whole, length-drop 1 tuple) in
      let count : 1 + half tuple - 1 ≡ half tuple = omega arith in
      ap (λ (k : ℕ). length (take k (drop 1 tuple))) count ∙ length-take-le (half tuple) (drop 1 tuple) few

  pub parts_long : length (part_numbers tuple) ≡ half tuple
  parts_long =
      let rest : length (drop (1 + half tuple) tuple) ≡ half tuple = omega (arith, whole, length-drop (1 + half tuple) tuple) in
      let count : length tuple - (1 + half tuple) ≡ half tuple = omega (arith, whole) in
      ap (λ (k : ℕ). length (take k (drop (1 + half tuple) tuple))) count
      ∙ length-take-le (half tuple) (drop (1 + half tuple) tuple) (omega (arith, rest))
