-- Regions that are put in the place of others.
use Rattle.std.proofs.Common.{◌≡◌, ◌∙◌, ◌<◌, ◌≤◌, ◌+◌, ◌++◌, inl, inr, ℕ, zero, suc, List, [], ◌∷◌, Option, Some, None, length, map, refl, sym, ap, subst, arith}
use Rattle.std.proofs.lemmas.Bool.{cases_eq, cases_lt}
use Rattle.std.proofs.lemmas.List.{length-append, length-map}
use Rattle.std.proofs.lemmas.Option.{get_or_from_slice_get, slice_get-map, slice_get_past}
use Rattle.std.specs.Option.{option_map}
use Rattle.std.specs.Prelude.{get_or, slice_get}
use Rattle.sc_code.specs.declared.program.Image.{Image}
use Rattle.sc_play.specs.Contents.{Contents, contents_at, contents_in, contents_of, new_contents}
use Rattle.sc_play.specs.Regions.{PlainRegion}
use Rattle.sc_world.specs.Loading.{AreOf, ChangesAreOf, LeadsTo, contents_after, contents_by, held_in}

-- ---- lists

none_some : {A B : Type 0} (x : B) → None ≡ Some x → A
none_some x e = cc

same_some : {A : Type 0} (x y : A) → Some x ≡ Some y → x ≡ y
same_some x y e = cc

pushed_below : {A : Type 0} (xs : List A) (y : A) (k : ℕ) → k < length xs → slice_get (xs ++ y ∷ []) k ≡ slice_get xs k
pushed_below [] y k l = absurd (omega (arith, l))
pushed_below (x ∷ xs) y zero l = refl
pushed_below (x ∷ xs) y (suc k) l = pushed_below xs y k (omega (arith, l))

pushed_last : {A : Type 0} (xs : List A) (y : A) → slice_get (xs ++ y ∷ []) (length xs) ≡ Some y
pushed_last [] y = refl
pushed_last (x ∷ xs) y = pushed_last xs y

pub pushed_many : {A : Type 0} (xs ys : List A) (n : ℕ) (x : A) → length xs ≡ n → ys ≡ xs ++ x ∷ [] → length ys ≡ n + 1
pushed_many xs ys n x many more = let e : length ys ≡ length xs + 1 = ap length more ∙ length-append xs (x ∷ []) in omega (arith, e, many)

-- ---- of one program

pushed_of : (p : Image) (cs : List (Option PlainRegion)) (c : Option PlainRegion) → ((x : PlainRegion) → c ≡ Some x → x.store.program ≡ p) → ChangesAreOf p cs →
    ChangesAreOf p (cs ++ c ∷ [])
pushed_of p [] c one all zero x e = one x (same_some c (Some x) e)
pushed_of p [] c one all (suc k) x e = none_some (Some x) e
pushed_of p (d ∷ cs) c one all zero x e = all zero x e
pushed_of p (d ∷ cs) c one all (suc k) x e = pushed_of p cs c one (λ j. all (suc j)) k x e

-- ---- what is to change

module _ (T xs : List PlainRegion) (ns : List ℕ) where
  -- what is to be held at a place
  abbrev pub wanted : ℕ → Contents
  wanted h = held_in h (slice_get (contents_by T ns) h)

  wanted_at : (k number : ℕ) (y : PlainRegion) → slice_get ns k ≡ Some number → slice_get T number ≡ Some y → wanted k ≡ contents_of y
  wanted_at k number y e f =
      let f_of : ℕ → Contents = λ n. get_or (map contents_of T) n (new_contents 0) in
      ap (held_in k) (slice_get-map f_of ns k ∙ ap (option_map f_of) e)
      ∙ get_or_from_slice_get (map contents_of T) number (contents_of y) (new_contents 0) (slice_get-map contents_of T number ∙ ap (option_map contents_of) f)

  led : (k : ℕ) (c : Option PlainRegion) (x y : PlainRegion) → slice_get xs k ≡ Some x → LeadsTo c x y → contents_after k xs (Some c) ≡ contents_of y
  led k None x y at same = ap (contents_in k) at ∙ same
  led k (Some z) x y at same = ap contents_of same

  -- with one change more
  pub changes_more : (cs ds : List (Option PlainRegion)) (i number : ℕ) (c : Option PlainRegion) (x y : PlainRegion) → length cs ≡ i → ds ≡ cs ++ c ∷ [] →
      slice_get ns i ≡ Some number → slice_get T number ≡ Some y → slice_get xs i ≡ Some x → LeadsTo c x y →
      ((k : ℕ) → k < i → contents_after k xs (slice_get cs k) ≡ wanted k) → (k : ℕ) → k < i + 1 → contents_after k xs (slice_get ds k) ≡ wanted k
  changes_more cs ds i number c x y many more e f at leads so_far k few = elim (cases_lt k i) [
    | inl below ↦
        ap (λ zs. contents_after k xs (slice_get zs k)) more ∙ ap (contents_after k xs) (pushed_below cs c k (omega (arith, below, many)))
        ∙ so_far k below
    | inr past ↦
        let here : k ≡ i = omega (arith, past, few) in
        let last : slice_get ds i ≡ Some c = ap (λ zs. slice_get zs i) more ∙ ap (slice_get (cs ++ c ∷ [])) (sym many) ∙ pushed_last cs c in
        subst (λ (j : ℕ). contents_after j xs (slice_get ds j) ≡ wanted j) (sym here)
        (ap (contents_after i xs) last ∙ led i c x y at leads ∙ sym (wanted_at i number y e f))
  ]

  -- past all there are new regions
  pub changes_all : (cs : List (Option PlainRegion)) (i : ℕ) → length cs ≡ i → length ns ≤ i → ((k : ℕ) → k < i → contents_after k xs (slice_get cs k) ≡ wanted k) →
      (k : ℕ) → contents_after k xs (slice_get cs k) ≡ wanted k
  changes_all cs i many all so_far k = elim (cases_lt k i) [
    | inl below ↦ so_far k below
    | inr past ↦
        let count : length (contents_by T ns) ≡ length ns = length-map ns (λ n. get_or (map contents_of T) n (new_contents 0)) in
        ap (contents_after k xs) (slice_get_past cs k (omega (arith, many, past)))
        ∙ sym (ap (held_in k) (slice_get_past (contents_by T ns) k (omega (arith, count, all, past))))
  ]

  led_of : (p : Image) (c : Option PlainRegion) (x y z : PlainRegion) → LeadsTo c x y → y.store.program ≡ p → c ≡ Some z → z.store.program ≡ p
  led_of p None x y z leads is e = none_some z e
  led_of p (Some w) x y z leads is e = ap (λ (r : PlainRegion). r.store.program) (sym (same_some w z e) ∙ leads) ∙ is

  pub programs_more : (cs ds : List (Option PlainRegion)) (number : ℕ) (c : Option PlainRegion) (x y : PlainRegion) → ds ≡ cs ++ c ∷ [] → slice_get T number ≡ Some y →
      LeadsTo c x y → ((p : Image) → AreOf p T → ChangesAreOf p cs) → (p : Image) → AreOf p T → ChangesAreOf p ds
  programs_more cs ds number c x y more f leads so_far p all =
      subst (ChangesAreOf p) (sym more) (pushed_of p cs c (λ z e. led_of p c x y z leads (all number y f) e) (so_far p all))

-- ---- what is put in the place of others

module _ (n i : ℕ) (xs ys : List PlainRegion) (others : (k : ℕ) → (k ≡ i → ⊥) → slice_get ys k ≡ slice_get xs k) where
  pub new_more : contents_at ys i ≡ new_contents i → ((k : ℕ) → n ≤ k → k < i → contents_at xs k ≡ new_contents k) →
      (k : ℕ) → n ≤ k → k < i + 1 → contents_at ys k ≡ new_contents k
  new_more here before k far few = elim (cases_lt k i) [
    | inl below ↦ ap (contents_in k) (others k (λ e. omega (arith, below, e))) ∙ before k far below
    | inr past ↦
        let e : k ≡ i = omega (arith, past, few) in subst (λ (j : ℕ). contents_at ys j ≡ new_contents j) (sym e) here
  ]

  pub still_more : n ≤ i → (zs : List PlainRegion) → ((k : ℕ) → k < n → slice_get xs k ≡ slice_get zs k) → (k : ℕ) → k < n → slice_get ys k ≡ slice_get zs k
  still_more far zs before k below = others k (λ e. omega (arith, far, below, e)) ∙ before k below

-- Regions past a place are as they were, which was new.
pub new_from : (n used i : ℕ) (xs ys : List PlainRegion) → ((k : ℕ) → used ≤ k → contents_at ys k ≡ new_contents k) → used ≤ i →
    ((k : ℕ) → i ≤ k → slice_get xs k ≡ slice_get ys k) → ((k : ℕ) → n ≤ k → k < i → contents_at xs k ≡ new_contents k) →
    (k : ℕ) → n ≤ k → contents_at xs k ≡ new_contents k
new_from n used i xs ys new all rest each k far = elim (cases_lt k i) [
  | inl below ↦ each k far below
  | inr past ↦ ap (contents_in k) (rest k past) ∙ new k (omega (arith, all, past))
]

-- Past all changes what is put is new.
pub put_past : (zs : List PlainRegion) (fs : List (Option PlainRegion)) (xs : List PlainRegion) (n : ℕ) → length fs ≡ n →
    ((k : ℕ) → n ≤ k → contents_at xs k ≡ new_contents k) → (k : ℕ) → n ≤ k → contents_at xs k ≡ contents_after k zs (slice_get fs k)
put_past zs fs xs n many new k far = new k far ∙ sym (ap (contents_after k zs) (slice_get_past fs k (omega (arith, many, far))))

-- A change that is popped from the list is made at its place.
module _ (zs : List PlainRegion) (fs hs gs : List (Option PlainRegion)) (c : Option PlainRegion) (xs ys : List PlainRegion) (i : ℕ) (last : i ≡ length gs)
    (popped : hs ≡ gs ++ c ∷ []) (left : (k : ℕ) → k < length hs → slice_get hs k ≡ slice_get fs k)
    (others : (k : ℕ) → (k ≡ i → ⊥) → slice_get ys k ≡ slice_get xs k) where
  many_popped : length hs ≡ length gs + 1
  many_popped = ap length popped ∙ length-append gs (c ∷ [])

  pub popped_left : (k : ℕ) → k < length gs → slice_get gs k ≡ slice_get fs k
  popped_left k below =
      let many = many_popped in
      sym (pushed_below gs c k below) ∙ ap (λ cs. slice_get cs k) (sym popped) ∙ left k (omega (arith, below, many))

  popped_at : slice_get fs i ≡ Some c
  popped_at =
      let many = many_popped in
      sym (left i (omega (arith, last, many))) ∙ ap (λ cs. slice_get cs i) popped ∙ ap (slice_get (gs ++ c ∷ [])) last ∙ pushed_last gs c

  pub popped_still : ((k : ℕ) → k < length hs → slice_get xs k ≡ slice_get zs k) → (k : ℕ) → k < length gs → slice_get ys k ≡ slice_get zs k
  popped_still still k below =
      let many = many_popped in others k (λ e. omega (arith, below, last, e)) ∙ still k (omega (arith, below, many))

  same_before : (o : Option (Option PlainRegion)) → ((k : ℕ) → k < length hs → slice_get xs k ≡ slice_get zs k) → contents_after i xs o ≡ contents_after i zs o
  same_before None still = refl
  same_before (Some None) still = let many = many_popped in ap (contents_in i) (still i (omega (arith, last, many)))
  same_before (Some (Some x)) still = refl

  pub popped_put : contents_at ys i ≡ contents_after i xs (Some c) → ((k : ℕ) → k < length hs → slice_get xs k ≡ slice_get zs k) →
      ((k : ℕ) → length hs ≤ k → contents_at xs k ≡ contents_after k zs (slice_get fs k)) →
      (k : ℕ) → length gs ≤ k → contents_at ys k ≡ contents_after k zs (slice_get fs k)
  popped_put here still put k far = elim (cases_eq k i) [
    | inl e ↦
        subst (λ (j : ℕ). contents_at ys j ≡ contents_after j zs (slice_get fs j)) (sym e)
        (here ∙ same_before (Some c) still ∙ ap (contents_after i zs) (sym popped_at))
    | inr apart ↦
        let many = many_popped in
        let above : length hs ≤ k = past_one (length gs) k (length hs) i last many far apart in
        ap (contents_in k) (others k apart) ∙ put k above
  ]
    where
      past_one : (n k m j : ℕ) → j ≡ n → m ≡ n + 1 → n ≤ k → (k ≡ j → ⊥) → m ≤ k
      past_one n k m j is more far apart = elim (cases_lt n k) [
        | inl above ↦ omega (arith, more, above)
        | inr same ↦ absurd (apart (omega (arith, is, far, same)))
      ]

  pub popped_of : (p : Image) → ChangesAreOf p fs → (x : PlainRegion) → c ≡ Some x → x.store.program ≡ p
  popped_of p all x e = all i x (popped_at ∙ ap Some e)
