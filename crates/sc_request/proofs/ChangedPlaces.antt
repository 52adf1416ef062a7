-- Handlers that are put at places, and new ones past them.
use Rattle.std.proofs.Common.{◌≡◌, ◌∙◌, ◌≤◌, ◌<◌, ◌+◌, ◌++◌, inl, inr, ℕ, zero, suc, List, [], ◌∷◌, Option, Some, None, length, slice_set, refl, sym, ap, subst, arith}
use Rattle.std.proofs.lemmas.Bool.{cases_lt}
use Rattle.std.proofs.lemmas.Option.{slice_get_past}
use Rattle.std.proofs.lemmas.List.Elements.{All-head, All-pop, All-push, All-tail, All-weaker}
use Rattle.std.specs.Prelude.{slice_get}
use Rattle.std.specs.List.{All}
use Rattle.std.specs.Option.{option_and_then}
use Rattle.sc_region.specs.declared.job.Job.{Job}
use Rattle.sc_handler.specs.declared.handler.Handler as coded
use Rattle.sc_handler.specs.Handlers.{new_handler}
use Rattle.sc_handler.specs.InMemory.{handler_of}
use Rattle.sc_request.specs.declared.loading.Change.{Change}
use Rattle.sc_request.specs.declared.parts.Part.{Part}
use Rattle.sc_request.specs.Candidates.{uncounted}
use Rattle.sc_request.specs.Loading.{AreNewPlaces, HaveParts, changed}
use Rattle.sc_request.specs.Parts.{part_in, parts_in}
use Rattle.sc_request.specs.Tables.{handler_at, handler_in, out_at}
use Rattle.sc_request.proofs.Outs.{get_other}

abbrev pub out_in : Option coded.Handler → Option Job
out_in o = option_and_then (λ (x : coded.Handler). x.out) o

-- all of these are of places below the number
abbrev pub AreBelow : ℕ → List Change → Type 0
AreBelow n cs = All (λ (c : Change). c.place < n) cs

-- ---- changes

-- The last change is made first.
pub changed_last : (cs : List Change) (c : Change) (xs : List coded.Handler) →
    changed (cs ++ c ∷ []) xs ≡ changed cs (slice_set xs c.place c.handler)
changed_last [] c xs = refl
changed_last (d ∷ cs) c xs = ap (λ ys. slice_set ys d.place d.handler) (changed_last cs c xs)

-- The last change is made where all places are there.
pub last_below : (cs ds : List Change) (c : Change) (n : ℕ) → ds ≡ cs ++ c ∷ [] → AreBelow n ds → AreBelow n cs × (c.place < n)
last_below cs ds c n more below = All-pop (λ (d : Change). d.place < n) ds cs (Some c) more below

-- What lies past all changes stays.
pub changed_past : (cs : List Change) (xs : List coded.Handler) (n k : ℕ) → AreBelow n cs → n ≤ k → slice_get (changed cs xs) k ≡ slice_get xs k
changed_past [] xs n k below far = refl
changed_past (c ∷ cs) xs n k below far =
    let here : c.place < n = All-head (λ (d : Change). d.place < n) c cs below in
    get_other (changed cs xs) c.place k c.handler (λ e. omega (arith, here, far, e))
    ∙ changed_past cs xs n k (All-tail (λ (d : Change). d.place < n) c cs below) far

set_alike : {A : Type 0} (xs ys : List A) (p k : ℕ) (x : A) → slice_get xs k ≡ slice_get ys k → slice_get (slice_set xs p x) k ≡ slice_get (slice_set ys p x) k
set_alike [] [] p k x e = refl
set_alike [] (y ∷ ys) zero zero x e = cc
set_alike [] (y ∷ ys) zero (suc k) x e = e
set_alike [] (y ∷ ys) (suc p) zero x e = e
set_alike [] (y ∷ ys) (suc p) (suc k) x e = set_alike [] ys p k x e
set_alike (z ∷ xs) [] zero zero x e = cc
set_alike (z ∷ xs) [] zero (suc k) x e = e
set_alike (z ∷ xs) [] (suc p) zero x e = e
set_alike (z ∷ xs) [] (suc p) (suc k) x e = set_alike xs [] p k x e
set_alike (z ∷ xs) (y ∷ ys) zero zero x e = refl
set_alike (z ∷ xs) (y ∷ ys) zero (suc k) x e = e
set_alike (z ∷ xs) (y ∷ ys) (suc p) zero x e = e
set_alike (z ∷ xs) (y ∷ ys) (suc p) (suc k) x e = set_alike xs ys p k x e

pub changed_alike : (cs : List Change) (xs ys : List coded.Handler) (k : ℕ) → slice_get xs k ≡ slice_get ys k → slice_get (changed cs xs) k ≡ slice_get (changed cs ys) k
changed_alike [] xs ys k e = e
changed_alike (c ∷ cs) xs ys k e = set_alike (changed cs xs) (changed cs ys) c.place k c.handler (changed_alike cs xs ys k e)

pub below_more : (cs : List Change) (n m : ℕ) → n ≤ m → AreBelow n cs → AreBelow m cs
below_more cs n m few below = All-weaker (λ (c : Change). c.place < n) (λ (c : Change). c.place < m) (λ c l. omega (arith, l, few)) cs below

below_one : (cs : List Change) (c : Change) (n : ℕ) → AreBelow n cs → c.place < n → AreBelow n (cs ++ c ∷ [])
below_one cs c n below l = All-push (λ (d : Change). d.place < n) cs c below l

-- ---- one more has its part

module _ (T : List Part) (ns : List ℕ) (xs : List coded.Handler) (i : ℕ) where
  -- where one lies that has it already
  pub had_more : (cs : List Change) → HaveParts i T ns (changed cs xs) → AreBelow i cs →
      handler_in (slice_get xs i) ≡ (part_in (slice_get (parts_in T ns) i)).handler → out_at xs i ≡ None → HaveParts (i + 1) T ns (changed cs xs)
  had_more cs so_far below has home k few = elim (cases_lt k i) [
    | inl before ↦ so_far k before
    | inr past ↦
        let e : k ≡ i = omega (arith, past, few) in
        let there : slice_get (changed cs xs) i ≡ slice_get xs i = changed_past cs xs i i below (omega arith) in
        subst (λ j. (handler_in (slice_get (changed cs xs) j) ≡ (part_in (slice_get (parts_in T ns) j)).handler) × (out_at (changed cs xs) j ≡ None)) (sym e)
        (ap handler_in there ∙ has, ap out_in there ∙ home)
  ]

  pub had_below : (cs : List Change) → AreBelow i cs → AreBelow (i + 1) cs
  had_below cs below = below_more cs i (i + 1) (omega arith) below

  -- where one that has it is put
  module _ (cs ds : List Change) (c : Change) (so_far : HaveParts i T ns (changed cs xs)) (below : AreBelow i cs) (more : ds ≡ cs ++ c ∷ []) (at : c.place ≡ i)
      (within : i < length xs) where
    put_there : slice_get (slice_set xs c.place c.handler) i ≡ Some c.handler
    put_there = ap (λ j. slice_get (slice_set xs j c.handler) i) at ∙ same_in xs i within
      where
        same_in : (ys : List coded.Handler) (j : ℕ) → j < length ys → slice_get (slice_set ys j c.handler) j ≡ Some c.handler
        same_in [] j l = absurd (omega (arith, l))
        same_in (y ∷ ys) zero l = refl
        same_in (y ∷ ys) (suc j) l = same_in ys j (omega (arith, l))

    pub put_more : handler_of c.handler ≡ (part_in (slice_get (parts_in T ns) i)).handler → c.handler.out ≡ None → HaveParts (i + 1) T ns (changed ds xs)
    put_more has home k few =
        let ys = slice_set xs c.place c.handler in
        let is : changed ds xs ≡ changed cs ys = ap (λ es. changed es xs) more ∙ changed_last cs c xs in
        subst (λ zs. (handler_in (slice_get zs k) ≡ (part_in (slice_get (parts_in T ns) k)).handler) × (out_at zs k ≡ None)) (sym is)
        (elim (cases_lt k i) [
          | inl before ↦
              let stays : slice_get (changed cs ys) k ≡ slice_get (changed cs xs) k =
              changed_alike cs ys xs k (get_other xs c.place k c.handler (λ e. omega (arith, before, at, e))) in
              let was = so_far k before in
              (ap handler_in stays ∙ was.0, ap out_in stays ∙ was.1)
          | inr past ↦
              let e : k ≡ i = omega (arith, past, few) in
              let there : slice_get (changed cs ys) i ≡ Some c.handler = changed_past cs ys i i below (omega arith) ∙ put_there in
              subst (λ j. (handler_in (slice_get (changed cs ys) j) ≡ (part_in (slice_get (parts_in T ns) j)).handler) × (out_at (changed cs ys) j ≡ None)) (sym e)
              (ap handler_in there ∙ has, ap out_in there ∙ home)
        ])

    pub put_below : AreBelow (i + 1) ds
    put_below = subst (λ es. AreBelow (i + 1) es) (sym more) (below_one cs c (i + 1) (below_more cs i (i + 1) (omega arith) below) (omega (arith, at)))

-- ---- new ones past a place

module _ (n i : ℕ) (xs ys : List coded.Handler) (others : (k : ℕ) → (k ≡ i → ⊥) → slice_get ys k ≡ slice_get xs k) where
  pub new_more : handler_in (slice_get ys i) ≡ new_handler → out_at ys i ≡ None →
      ((k : ℕ) → n ≤ k → k < i → (handler_in (slice_get xs k) ≡ new_handler) × (out_at xs k ≡ None)) →
      (k : ℕ) → n ≤ k → k < i + 1 → (handler_in (slice_get ys k) ≡ new_handler) × (out_at ys k ≡ None)
  new_more new home before k far few = elim (cases_lt k i) [
    | inl below ↦
        let same = others k (λ e. omega (arith, below, e)) in
        let was = before k far below in
        (ap handler_in same ∙ was.0, ap out_in same ∙ was.1)
    | inr past ↦
        let e : k ≡ i = omega (arith, past, few) in
        (ap (λ j. handler_in (slice_get ys j)) e ∙ new, ap (λ j. out_at ys j) e ∙ home)
  ]

-- Those past a place are as they were, which was new.
pub new_from : (n used i : ℕ) (xs ys : List coded.Handler) → AreNewPlaces used ys → used ≤ i → ((k : ℕ) → i ≤ k → slice_get xs k ≡ slice_get ys k) →
    ((k : ℕ) → n ≤ k → k < i → (handler_in (slice_get xs k) ≡ new_handler) × (out_at xs k ≡ None)) → AreNewPlaces n xs
new_from n used i xs ys new all rest each k far = elim (cases_lt k i) [
  | inl below ↦ each k far below
  | inr past ↦
      let same = rest k past in
      let was = new k (omega (arith, all, past)) in
      (ap handler_in same ∙ was.0, ap out_in same ∙ was.1)
]

-- Changes before a place leave all that are new from there on.
pub new_past : (cs : List Change) (xs ys : List coded.Handler) (n : ℕ) → ys ≡ changed cs xs → AreBelow n cs → AreNewPlaces n xs → AreNewPlaces n ys
new_past cs xs ys n is below new k far =
    let same : slice_get ys k ≡ slice_get xs k = ap (λ zs. slice_get zs k) is ∙ changed_past cs xs n k below far in
    let was = new k far in
    (ap handler_in same ∙ was.0, ap out_in same ∙ was.1)

zeroed : (o : Option coded.Handler) → uncounted (handler_in o) ≡ handler_in o
zeroed None = refl
zeroed (Some x) = refl

-- Handlers that were asked for nothing are new, and so are those that have no place.
pub fresh_there : (xs : List coded.Handler) (ss : List ℕ) (used k : ℕ) → length xs ≤ 512 → ((h : ℕ) → used ≤ h → h < 512 → uncounted (handler_at xs ss h) ≡ new_handler) →
    used ≤ k → handler_in (slice_get xs k) ≡ new_handler
fresh_there xs ss used k few fresh far = elim (cases_lt k 512) [
  | inl below ↦ sym (zeroed (slice_get xs k)) ∙ fresh k far below
  | inr past ↦ ap handler_in (slice_get_past xs k (omega (arith, few, past)))
]

pub new_places : (xs : List coded.Handler) (ss : List ℕ) (used : ℕ) → length xs ≤ 512 → ((h : ℕ) → used ≤ h → h < 512 → uncounted (handler_at xs ss h) ≡ new_handler) →
    ((h : ℕ) → used ≤ h → out_at xs h ≡ None) → AreNewPlaces used xs
new_places xs ss used few fresh home k far = (fresh_there xs ss used k few fresh far, home k far)
