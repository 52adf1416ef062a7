-- The end of a request that somebody waits for: what is so once its frame is popped.
use Rattle.std.proofs.Common.{◌≡◌, ◌≢◌, ◌⊎◌, ⊎_elim, inl, inr, ℕ, ◌<◌, ◌≤◌, List, [], ◌∷◌, Some, None, Bool, true, false, refl, sym, ap, ◌∙◌, subst, arith}
use Rattle.std.proofs.lemmas.Bool.{eq-eqb, cases_eq}
use Rattle.std.proofs.lemmas.Bool.Decides.{nat_tests}
use Rattle.std.specs.Prelude.{if◌then◌else◌}
use Rattle.sc_machine_laws.specs.states.World.{passes, Grant, Wait, Request, Frame, Handler, World, has, popped, put, pop, came_by, without_first, back, requests_of, and_this, and_begun}
use Rattle.sc_machine_laws.specs.states.Steps.{waits_for, Ends}
use Rattle.sc_machine_laws.specs.states.Consistent.{IsAway, Asks, IsFirst, HasWait, IsOpen, HasGrant, Lends, Nobody, IsTrail, IsBased, HasPassed, IsBegun, IsOrdered, HadBefore, IsOne, HasNumber, AreNumbered, HasClient, IsConsistent}
use Rattle.sc_machine_laws.proofs.states.Rights.{not_some, put-same, put-other}
use Rattle.sc_machine_laws.proofs.states.Waits.{true_false, some_wait, no_wait, stack_has}

-- h has ended r, and its frame is popped
pub record Ended (h : ℕ) (r : Request) (u : World) : Type 0 where
  pub lives : (u.handlers h).failed ≡ false
  pub older : (m : ℕ) → HasWait m (u.handlers h).stack → m < r.number
  pub rests : ((u.handlers h).stack ≡ []) ⊎ IsAway (u.handlers h)
  pub once : HasNumber r.number (requests_of (u.handlers h)) → ⊥
  pub client : HasClient u h r
  pub other : r.poster ≢ h

pub ended_asks : {A : Type 0} (h : ℕ) (r : Request) (u : World) → Ended h r u → (k lo hi : ℕ) → Asks
    (u.handlers h) k lo hi → A
ended_asks h r u e k lo hi a = ⊎_elim
    (λ empty. not_some a.for (sym (ap waits_for empty) ∙ a.waits))
    (λ away. true_false (sym away.passing ∙ ap (λ (x : Wait). x.passing)
    (some_wait away.for a.for (sym away.waits ∙ a.waits)) ∙ a.keeps))
    e.rests

one_number : (q : Request) (rs : List Request) → IsOne q rs → HasNumber q.number rs
one_number q [] i = i
one_number q (r ∷ rs) (inl e) = inl (ap (λ (x : Request). x.number) e)
one_number q (r ∷ rs) (inr i) = inr (one_number q rs i)

pub number_of : (q : Request) (n : ℕ) (rs : List Request) → q.number ≡ n → IsOne q rs → HasNumber n rs
number_of q n rs e i = subst (λ m. HasNumber m rs) e (one_number q rs i)

pub is_ended : (h : ℕ) (r : Request) (w : World) → IsConsistent w → Ends h r w → Ended h r (pop h w)
is_ended h r w fine e =
    let g : Handler = record (w.handlers h) { stack = popped (w.handlers h).stack } in
    let here : put h g w.handlers h ≡ g = put-same h g w.handlers in
    let c = fine.clear h e.active in
    let below : popped (w.handlers h).stack ≡ e.below = ap popped e.stack in
    let begun : IsBegun (Some r) e.below = subst (λ o. IsBegun o e.below) e.begun
    (subst IsOrdered e.stack (fine.ordered h)).0 in
    let all : requests_of (w.handlers h) ≡ r ∷ and_begun e.below (w.handlers h).requests =
    ap (λ o. and_this o (and_begun (w.handlers h).stack (w.handlers h).requests)) c.1
    ∙ ap (λ s. and_begun s (w.handlers h).requests) e.stack
    ∙ ap (λ o. and_this o (and_begun e.below (w.handlers h).requests)) e.begun in
    let rest : requests_of g ≡ and_begun e.below (w.handlers h).requests =
    ap (λ o. and_this o (and_begun (popped (w.handlers h).stack) (w.handlers h).requests)) c.1
    ∙ ap (λ s. and_begun s (w.handlers h).requests) below in
    let older : (m : ℕ) → HasWait m (w.handlers h).stack → m < r.number =
    λ m has. begun.0 m (lower m e.frame e.below (sym (ap waits_for e.stack) ∙ e.active.1)
    (subst (HasWait m) e.stack has)) in
    let client : HasClient w h r = fine.clients h r (subst (IsOne r) (sym all) (inl refl)) e.waited in
    let other : r.poster ≢ h = λ ph. ⊎_elim
    (λ a. true_false (sym a.0 ∙ ap (λ y. (w.handlers y).failed) ph ∙ e.active.0))
    (λ (a : (v : Wait) × IsOpen v (w.handlers r.poster) × (v.number ≡ r.number) × (v.target ≡ h) ×
    (v.passing ≡ passes r) × (v.asked ≡ r.asked)).
    absurd (let lt = older a.0.number
    (subst (λ y. HasWait a.0.number (w.handlers y).stack) ph (stack_has a.0 (w.handlers r.poster).stack a.1.0))
    in let n = a.2 in omega (arith, lt, n)))
    client in
    let there : put h g w.handlers r.poster ≡ w.handlers r.poster = put-other h g w.handlers r.poster other in
    record {
      lives = ap (λ (f : Handler). f.failed) here ∙ e.active.0;
      older = λ m has. begun.0 m (subst (HasWait m) below (subst (λ f. HasWait m f.stack) here has));
      rests = subst (λ f. (f.stack ≡ []) ⊎ IsAway f) (sym here) (⊎_elim
          (λ empty. inl (below ∙ empty))
          (λ (p : HasPassed e.below). inr
          (record {
            for = p.0;
            waits = ap waits_for below ∙ p.1;
            passing = p.2;
            unanswered = c.0;
            no_callback =
                c.1;
          }))
          begun.1);
      once = λ i. (subst (AreNumbered w.next) all (fine.numbered h)).1
          (subst (HasNumber r.number) rest (subst (λ f. HasNumber r.number (requests_of f)) here i));
      client = ⊎_elim
          (λ a. inl (ap (λ (f : Handler). f.failed) there ∙ a.0, (λ q i. a.1 q (popped_has q r.number i)), a.2))
          (λ (a : (v : Wait) × IsOpen v (w.handlers r.poster) × (v.number ≡ r.number) × (v.target ≡ h) ×
          (v.passing ≡ passes r) × (v.asked ≡ r.asked)). inr (a.0, subst (IsOpen a.0) (sym there) a.1, a.2, a.3, a.4, a.5))
          client;
      other = other;
    }
  where
    lower : (n : ℕ) (f : Frame) (fs : List Frame) → f.waits ≡ None → HasWait n (f ∷ fs) → HasWait n fs
    lower n f fs none (inl i) = no_wait n f.waits none i
    lower n f fs none (inr i) = i

    less : (n : ℕ) (fs : List Frame) → HasWait n (popped fs) → HasWait n fs
    less n [] i = i
    less n (f ∷ fs) i = inr i

    popped_has : (q n : ℕ) → HasWait n
        (put h (record (w.handlers h) { stack = popped (w.handlers h).stack }) w.handlers q).stack → HasWait n
        (w.handlers q).stack
    popped_has q n i = ⊎_elim
        (λ qh. subst (λ y. HasWait n (w.handlers y).stack) (sym qh)
        (less n (w.handlers h).stack (subst (λ f. HasWait n f.stack)
        (put-same h (record (w.handlers h) { stack = popped (w.handlers h).stack }) w.handlers)
        (subst (λ y. HasWait n (put h (record (w.handlers h) { stack = popped (w.handlers h).stack }) w.handlers
        y).stack) qh i))))
        (λ ne. subst (λ f. HasWait n f.stack)
        (put-other h (record (w.handlers h) { stack = popped (w.handlers h).stack }) w.handlers q ne) i)
        (cases_eq q h)

-- the last who got a right is the one who can give it back
pub lifo : (w : World) (L : ℕ → ℕ → ℕ → Type 0) (x n : ℕ) → ((m : ℕ) → HasWait m (w.handlers x).stack → m < n)
    → ((lo m : ℕ) → L x lo m → ⊥) → ((w.handlers x).failed ≡ false) → (t : List Grant) → IsTrail w L t
    → HasGrant x n t → IsFirst x n t
lifo w L x n old not_lent lives [] is has = absurd has
lifo w L x n old not_lent lives (e ∷ []) is (inl here) = here
lifo w L x n old not_lent lives (e ∷ []) is (inr there) = absurd there
lifo w L x n old not_lent lives (e ∷ d ∷ t) is (inl here) = here
lifo w L x n old not_lent lives (e ∷ d ∷ t) is (inr there) =
    let next = lifo w L x n old not_lent lives (d ∷ t) is.2 there in
    let lt = is.1 in
    let nd = next.1 in
    absurd (⊎_elim
    (λ waits. let le = old e.number (subst (λ i. HasWait e.number (w.handlers i).stack) next.0 waits) in omega
    (arith, le, lt, nd))
    (λ o. ⊎_elim (λ lent. not_lent d.number e.number (subst (λ y. L y d.number e.number) next.0 lent))
    (λ lost. true_false (sym lost ∙ ap (λ y. (w.handlers y).failed) next.0 ∙ lives)) o)
    is.0)

-- at the end of a request, what was passed with it is its target's, and nobody got it later
pub passed_is_here : (h : ℕ) (r : Request) (u : World) → IsConsistent u → Ended h r u → (k : ℕ) → HasGrant h r.number
    (u.queue k) → IsFirst h r.number (u.queue k)
passed_is_here h r u fine e k has = lifo u Nobody h r.number e.older (λ lo m a. a) e.lives (u.queue k)
    (fine.queue_trails k) has

pub passed_top_is_here : (h : ℕ) (r : Request) (u : World) → IsConsistent u → Ended h r u → (k : ℕ)
    → HasGrant h r.number (u.top k) → IsFirst h r.number (u.top k)
passed_top_is_here h r u fine e k has = lifo u (Lends u k) h r.number e.older
    (λ lo m l. ended_asks h r u e k lo m l.0) e.lives (u.top k) (fine.top_trails k) has

-- top_grants grow older downwards
pub lower_grants : (w : World) (L : ℕ → ℕ → ℕ → Type 0) (e : Grant) (t : List Grant) → IsTrail w L (e ∷ t) → (x m : ℕ)
    → HasGrant x m t → m < e.number
lower_grants w L e [] is x m i = absurd i
lower_grants w L e (d ∷ t) is x m (inl i) = let lt = is.1 in let n = i.1 in omega (arith, lt, n)
lower_grants w L e (d ∷ t) is x m (inr i) = let lt = is.1 in let less = lower_grants w L d t is.2 x m i in omega
    (arith, lt, less)

pub first_newest : (w : World) (L : ℕ → ℕ → ℕ → Type 0) (t : List Grant) → IsTrail w L t → (x n y m : ℕ)
    → IsFirst x n t → HasGrant y m t → m ≤ n
first_newest w L [] is x n y m f i = absurd i
first_newest w L (e ∷ t) is x n y m f (inl i) = let a = f.1 in let b = i.1 in omega (arith, a, b)
first_newest w L (e ∷ t) is x n y m f (inr i) = let a = f.1 in let lt = lower_grants w L e t is y m i in omega
    (arith, a, lt)

pub back_sub : (n x m : ℕ) (t : List Grant) → HasGrant x m (back n t) → HasGrant x m t
back_sub n x m t has = by (came_by n t) has
  where
    more : (u : List Grant) → HasGrant x m (without_first u) → HasGrant x m u
    more [] i = i
    more (e ∷ u) i = inr i

    by : (b : Bool) → HasGrant x m (if b then without_first t else t) → HasGrant x m t
    by true i = more t i
    by false i = i

-- a grant that is not n's own stays
pub back_has : (n x m : ℕ) (t : List Grant) → m ≢ n → HasGrant x m t → HasGrant x m (back n t)
back_has n x m t ne has = by (came_by n t) refl
  where
    less : (u : List Grant) → came_by n u ≡ true → HasGrant x m u → HasGrant x m (without_first u)
    less [] so i = i
    less (e ∷ u) so (inl i) = absurd (let a : e.number ≡ n = grind (arith, nat_tests) in ne (sym i.1 ∙ a))
    less (e ∷ u) so (inr i) = i

    by : (b : Bool) → came_by n t ≡ b → HasGrant x m (if b then without_first t else t)
    by true so = less t so has
    by false so = has

-- what h gives back leaves nobody else's standing
pub back_had : (h n q m : ℕ) (t : List Grant) → ((x : ℕ) → HasGrant x n t → x ≡ h) → (q ≡ h → m < n) → HadBefore q m t
    → HadBefore q m (back n t)
back_had h n q m t only old had = by (came_by n t) refl
  where
    less : (u : List Grant) → ((x : ℕ) → HasGrant x n u → x ≡ h) → came_by n u ≡ true → HadBefore q m u
        → HadBefore q m (without_first u)
    less [] only so i = i
    less (e ∷ u) only so (inl i) =
        let a : e.number ≡ n = grind (arith, nat_tests) in
        let lt = i.1 in
        absurd (let o = old (sym i.0 ∙ only e.holder (inl (refl, a))) in omega (arith, a, lt, o))
    less (e ∷ u) only so (inr i) = i.1

    by : (b : Bool) → came_by n t ≡ b → HadBefore q m (if b then without_first t else t)
    by true so = less t only so had
    by false so = had

pub first_came : (x n : ℕ) (t : List Grant) → IsFirst x n t → came_by n t ≡ true
first_came x n [] is = absurd is
first_came x n (e ∷ t) is = eq-eqb e.number n is.1

pub back_gone : (w : World) (L : ℕ → ℕ → ℕ → Type 0) (x n y : ℕ) (t : List Grant) → IsTrail w L t → IsFirst x n t
    → HasGrant y n (back n t) → ⊥
back_gone w L x n y t is first i = less t is first
    (subst (λ (b : Bool). HasGrant y n (if b then without_first t else t)) (first_came x n t first) i)
  where
    less : (u : List Grant) → IsTrail w L u → IsFirst x n u → HasGrant y n (without_first u) → ⊥
    less [] is f i = i
    less (e ∷ u) is f i = absurd (let lt = lower_grants w L e u is y n i in let a = f.1 in omega (arith, lt, a))

pub back_trail : (v : World) (M : ℕ → ℕ → ℕ → Type 0) (n : ℕ) (t : List Grant) → IsTrail v M t → IsTrail v M
    (back n t)
back_trail v M n t is = by (came_by n t)
  where
    less : (u : List Grant) → IsTrail v M u → IsTrail v M (without_first u)
    less [] i = tt
    less (e ∷ []) i = tt
    less (e ∷ d ∷ u) i = i.2

    by : (b : Bool) → IsTrail v M (if b then without_first t else t)
    by true = less t is
    by false = is

pub back_based : (n : ℕ) (fs : List Frame) (t : List Grant) → IsBased fs t → IsBased fs (back n t)
back_based n fs t is = by (came_by n t)
  where
    less : (u : List Grant) → IsBased fs u → IsBased fs (without_first u)
    less [] i = tt
    less (e ∷ []) i = tt
    less (e ∷ d ∷ u) i = i

    by : (b : Bool) → IsBased fs (if b then without_first t else t)
    by true = less t is
    by false = is

-- who holds a right after what came by n went back
pub record WentBack (n x i : ℕ) (t : List Grant) : Type 0 where
  pub first : Grant
  pub second : Grant
  pub rest : List Grant
  pub is : t ≡ first ∷ second ∷ rest
  pub number : first.number ≡ n
  pub holder : second.holder ≡ x
  pub second_number : second.number ≡ i

pub after_back : (n x i : ℕ) (t : List Grant) → IsFirst x i (back n t) → ((came_by n t ≡ false) × IsFirst x i t)
    ⊎ WentBack n x i t
after_back n x i t is = by (came_by n t) refl is
  where
    two : (u : List Grant) → came_by n u ≡ true → IsFirst x i (without_first u) → WentBack n x i u
    two [] so f = absurd f
    two (e ∷ []) so f = absurd f
    two (e ∷ d ∷ t) so f = record {
      first = e;
      second = d;
      rest = t;
      is = refl;
      number = grind
          (arith, nat_tests);
      holder = f.0;
      second_number = f.1;
    }

    by : (b : Bool) → came_by n t ≡ b → IsFirst x i (if b then without_first t else t)
        → ((came_by n t ≡ false) × IsFirst x i t) ⊎ WentBack n x i t
    by true so f = inr (two t so f)
    by false so f = inl (so, f)

pub base_wait : (fs : List Frame) (x i : ℕ) (t : List Grant) → IsBased fs t → IsFirst x i t → (m : ℕ) × HasWait m fs
base_wait fs x i [] is f = absurd f
base_wait fs x i (e ∷ []) is f = (e.number, is)
base_wait fs x i (e ∷ d ∷ t) is f = base_wait fs d.holder d.number (d ∷ t) is (refl, refl)

-- while somebody has top (h), h stands where it has passed
pub ended_away : (h : ℕ) (r : Request) (u : World) → IsConsistent u → Ended h r u → (x i : ℕ) → IsFirst x i (u.top h)
    → IsAway (u.handlers h)
ended_away h r u fine e x i first = ⊎_elim
    (λ empty. let b = base_wait (u.handlers h).stack x i (u.top h) (fine.based h e.lives) first in absurd
    (subst (HasWait b.0) empty b.1))
    (λ a. a)
    e.rests
