-- The first of a round of numbers that has something to do.
use Rattle.std.proofs.Common.{◌≡◌, ◌+◌, ◌-◌, ◌<◌, ◌≤◌, ◌++◌, ℕ, zero, suc, true, false, List, [], ◌∷◌, Option, Some, None, refl, sym, ap, subst, ◌∙◌, inl, inr, min, arith}
use Rattle.std.proofs.lemmas.Bool.{both_ways, cases_eq, cases_lt, false_from_ne_true, le-ltb, lt-ltb, ne_eqb}
use Rattle.std.specs.Option.{option_map}
use Rattle.std.specs.Prelude.{is_some, not, nat_lt, ◌==◌, ◌&&◌, if◌then◌else◌}
use Rattle.sc_lockpass.specs.Tables.{is_member}
use Rattle.sc_region.specs.declared.job.Job.{Job}
use Rattle.sc_request.specs.Candidates.{HasNoneIn, IsFirstIn, AreCandidates}
use Rattle.sc_request.specs.Logs.{Center, pick_for, picked_if, picks, numbers_from, first_from, first_with_job, next}

none_is : (o : Option Job) → is_some o ≡ false → o ≡ None
none_is None e = refl
none_is (Some j) e = cc

-- numbers that have nothing to do are passed over
skip : (c : Center) (n a m t : ℕ) → t ≡ n + m → ((k : ℕ) → a ≤ k → k < a + n → is_some (pick_for k c) ≡ false) →
    first_with_job (numbers_from a t) c ≡ first_with_job (numbers_from (a + n) m) c
skip c zero a m t e none =
    let same : t ≡ m = omega (arith, e) in
    let from : a ≡ a + 0 = omega arith in
    ap (λ x. first_with_job (numbers_from a x) c) same ∙ ap (λ x. first_with_job (numbers_from x m) c) from
skip c (suc n) a m t e none =
    let more : t ≡ suc (n + m) = omega (arith, e) in
    let from : suc a + n ≡ a + suc n = omega arith in
    let here : pick_for a c ≡ None = none_is (pick_for a c) (none a (omega arith) (omega arith)) in
    ap (λ x. first_with_job (numbers_from a x) c) more
    ∙ ap (λ (o : Option Job). first_from a o (first_with_job (numbers_from (suc a) (n + m)) c)) here
    ∙ skip c n (suc a) m (n + m) refl (λ k l u. none k (omega (arith, l)) (omega (arith, u)))
    ∙ ap (λ x. first_with_job (numbers_from x m) c) from

-- none of the set is there, so nobody there has something to do
idle_in : (words : List ℕ) (c : Center) (a b : ℕ) → AreCandidates words c → HasNoneIn words a b → (k : ℕ) → a ≤ k → k < b → is_some (pick_for k c) ≡ false
idle_in words c a b all none k l u = false_from_ne_true (is_some (pick_for k c)) (λ is. both_ways (is_member words k) (none k l u) (all k is))

pub none_left : (words : List ℕ) (c : Center) (a b : ℕ) → AreCandidates words c → HasNoneIn words a b → first_with_job (numbers_from a (b - a)) c ≡ None
none_left words c a b all none =
    let same : b - a ≡ (b - a) + 0 = omega arith in
    skip c (b - a) a 0 (b - a) same (λ k l u. idle_in words c a b all none k l (omega (arith, l, u)))

-- the least of the set comes first, if it has something to do
pub first_there : (words : List ℕ) (c : Center) (a b h : ℕ) (j : Job) → AreCandidates words c → IsFirstIn words a b h → pick_for h c ≡ Some j →
    first_with_job (numbers_from a (b - a)) c ≡ Some (h, j)
first_there words c a b h j all is e =
    let start = is.start in
    let end = is.below in
    let parts : b - a ≡ (h - a) + (b - h) = omega (arith, start, end) in
    let rest : b - h ≡ suc (b - suc h) = omega (arith, end) in
    let there : a + (h - a) ≡ h = omega (arith, start) in
    skip c (h - a) a (b - h) (b - a) parts (λ k l u. idle_in words c a h all is.least k l (omega (arith, start, u)))
    ∙ ap (λ x. first_with_job (numbers_from x (b - h)) c) there
    ∙ ap (λ x. first_with_job (numbers_from h x) c) rest
    ∙ ap (λ (o : Option Job). first_from h o (first_with_job (numbers_from (suc h) (b - suc h)) c)) e

-- and is passed over, if it has not
pub passed_over : (words : List ℕ) (c : Center) (a b h : ℕ) → AreCandidates words c → IsFirstIn words a b h → pick_for h c ≡ None →
    first_with_job (numbers_from a (b - a)) c ≡ first_with_job (numbers_from (h + 1) (b - (h + 1))) c
passed_over words c a b h all is e =
    let start = is.start in
    let end = is.below in
    let parts : b - a ≡ (h - a) + (b - h) = omega (arith, start, end) in
    let rest : b - h ≡ suc (b - (h + 1)) = omega (arith, end) in
    let there : a + (h - a) ≡ h = omega (arith, start) in
    let next : suc h ≡ h + 1 = omega arith in
    skip c (h - a) a (b - h) (b - a) parts (λ k l u. idle_in words c a h all is.least k l (omega (arith, start, u)))
    ∙ ap (λ x. first_with_job (numbers_from x (b - h)) c) there
    ∙ ap (λ x. first_with_job (numbers_from h x) c) rest
    ∙ ap (λ (o : Option Job). first_from h o (first_with_job (numbers_from (suc h) (b - (h + 1))) c)) e
    ∙ ap (λ x. first_with_job (numbers_from x (b - (h + 1))) c) next

-- ---- the round

-- who was picked last doesn't matter
pub any_last : (xs : List ℕ) (c : Center) (n : ℕ) → first_with_job xs (record c { last = n }) ≡ first_with_job xs c
any_last [] c n = refl
any_last (x ∷ xs) c n = ap (λ (r : Option (ℕ × Job)). first_from x (pick_for x c) r) (any_last xs c n)

found_first : (x : ℕ) (o : Option Job) (r r' : Option (ℕ × Job)) (p : ℕ × Job) → (r ≡ Some p → r' ≡ Some p) → first_from x o r ≡ Some p → first_from x o r' ≡ Some p
found_first x (Some j) r r' p f e = e
found_first x None r r' p f e = f e

pub found_append : (xs ys : List ℕ) (c : Center) (p : ℕ × Job) → first_with_job xs c ≡ Some p → first_with_job (xs ++ ys) c ≡ Some p
found_append [] ys c p e = cc
found_append (x ∷ xs) ys c p e = found_first x (pick_for x c) (first_with_job xs c) (first_with_job (xs ++ ys) c) p (found_append xs ys c p) e

none_first : (x : ℕ) (o : Option Job) (r r' r'' : Option (ℕ × Job)) → (r ≡ None → r' ≡ r'') → first_from x o r ≡ None → first_from x o r' ≡ r''
none_first x (Some j) r r' r'' f e = cc
none_first x None r r' r'' f e = f e

pub none_append : (xs ys : List ℕ) (c : Center) → first_with_job xs c ≡ None → first_with_job (xs ++ ys) c ≡ first_with_job ys c
none_append [] ys c e = refl
none_append (x ∷ xs) ys c e = none_first x (pick_for x c) (first_with_job xs c) (first_with_job (xs ++ ys) c) (first_with_job ys c) (none_append xs ys c) e

-- one that has nothing to do is taken out
pub tried_without : (words later : List ℕ) (c : Center) (h : ℕ) → AreCandidates words c → pick_for h c ≡ None →
    ((k : ℕ) → is_member later k ≡ (not (k == h) && is_member words k)) → AreCandidates later c
tried_without words later c h all none removed k is = elim (cases_eq k h) [
  | inl same ↦ let own = rw same at is in absurd (both_ways (is_some (pick_for h c)) (ap (λ (o : Option Job). is_some o) none) own)
  | inr apart ↦ removed k ∙ rw (ne_eqb k h apart) (all k is)
]

pub round_found : (c : Center) (p : ℕ × Job) → Some p ≡ first_with_job (numbers_from (c.last + 1) (c.state.count - (c.last + 1))) c → Some p ≡ next c
round_found c p e =
    let one : suc c.last ≡ c.last + 1 = omega arith in
    sym (found_append _ _ c p (ap (λ x. first_with_job (numbers_from x (c.state.count - x)) c) one ∙ sym e))

round_end : (last count : ℕ) → min count (last + 1) ≡ (if nat_lt last count then suc last else count)
round_end last count = elim (cases_lt last count) [
  | inl l ↦ rw (lt-ltb last count l) (omega (arith, l))
  | inr l ↦ rw (le-ltb last count l) (omega (arith, l))
]

pub round_rest : (c : Center) (r : Option (ℕ × Job)) → None ≡ first_with_job (numbers_from (c.last + 1) (c.state.count - (c.last + 1))) c →
    r ≡ first_with_job (numbers_from 0 (min c.state.count (c.last + 1) - 0)) c → r ≡ next c
round_rest c r none e =
    let one : suc c.last ≡ c.last + 1 = omega arith in
    let all : min c.state.count (c.last + 1) - 0 ≡ min c.state.count (c.last + 1) = omega arith in
    e ∙ ap (λ x. first_with_job (numbers_from 0 x) c) (all ∙ round_end c.last c.state.count)
    ∙ sym (none_append _ _ c (ap (λ x. first_with_job (numbers_from x (c.state.count - x)) c) one ∙ sym none))

some_pair : (p q : ℕ × Job) → Some p ≡ Some q → p ≡ q
some_pair p q e = cc

job_first : (x : ℕ) (o : Option Job) (c : Center) (r : Option (ℕ × Job)) (p : ℕ × Job) → pick_for x c ≡ o → (r ≡ Some p → pick_for p.0 c ≡ Some p.1) →
    first_from x o r ≡ Some p → pick_for p.0 c ≡ Some p.1
job_first x (Some i) c r p is rest e = subst (λ (q : ℕ × Job). pick_for q.0 c ≡ Some q.1) (some_pair (x, i) p e) is
job_first x None c r p is rest e = rest e

-- what comes first has its job
pub has_job : (xs : List ℕ) (c : Center) (p : ℕ × Job) → first_with_job xs c ≡ Some p → pick_for p.0 c ≡ Some p.1
has_job [] c p e = cc
has_job (x ∷ xs) c p e = job_first x (pick_for x c) c (first_with_job xs c) p refl (has_job xs c p) e

-- ---- the number alone

abbrev pub number_of : Option (ℕ × Job) → Option ℕ
number_of o = option_map (λ (p : ℕ × Job). p.0) o

pub none_of : (h : ℕ) (c : Center) → is_some (pick_for h c) ≡ false → pick_for h c ≡ None
none_of h c e = none_is (pick_for h c) e

numbered : (words : List ℕ) (c : Center) (a b h : ℕ) (o : Option Job) → AreCandidates words c → IsFirstIn words a b h → pick_for h c ≡ o → is_some o ≡ true →
    number_of (first_with_job (numbers_from a (b - a)) c) ≡ Some h
numbered words c a b h (Some j) all is e some = ap number_of (first_there words c a b h j all is e)
numbered words c a b h None all is e some = cc

-- the least of the set comes first, if it has something to do
pub some_there : (words : List ℕ) (c : Center) (a b h : ℕ) → AreCandidates words c → IsFirstIn words a b h → is_some (pick_for h c) ≡ true →
    number_of (first_with_job (numbers_from a (b - a)) c) ≡ Some h
some_there words c a b h all is some = numbered words c a b h (pick_for h c) all is refl some

found_of : (h : ℕ) (o r : Option (ℕ × Job)) → Some h ≡ number_of o → ((p : ℕ × Job) → Some p ≡ o → Some p ≡ r) → Some h ≡ number_of r
found_of h (Some p) r e f = e ∙ ap number_of (f p refl)
found_of h None r e f = cc

pub number_found : (c : Center) (h : ℕ) → Some h ≡ number_of (first_with_job (numbers_from (c.last + 1) (c.state.count - (c.last + 1))) c) →
    Some h ≡ number_of (next c)
number_found c h e = found_of h (first_with_job (numbers_from (c.last + 1) (c.state.count - (c.last + 1))) c) (next c) e (λ p f. round_found c p f)

none_from : (o : Option (ℕ × Job)) → None ≡ number_of o → None ≡ o
none_from (Some p) e = cc
none_from None e = refl

pub some_numbered : (o : Option (ℕ × Job)) → is_some (number_of o) ≡ is_some o
some_numbered (Some p) = refl
some_numbered None = refl

pub number_rest : (c : Center) (r : Option ℕ) → None ≡ number_of (first_with_job (numbers_from (c.last + 1) (c.state.count - (c.last + 1))) c) →
    r ≡ number_of (first_with_job (numbers_from 0 (min c.state.count (c.last + 1) - 0)) c) → r ≡ number_of (next c)
number_rest c r none e = e ∙ ap number_of (round_rest c _ (none_from _ none) refl)

pair_of : (h : ℕ) (j : Job) (p : ℕ × Job) → h ≡ p.0 → j ≡ p.1 → (h, j) ≡ p
pair_of h j p e f = λ i. (e i, f i)

some_number : (h k : ℕ) → Some h ≡ Some k → h ≡ k
some_number h k e = cc

some_job : (i j : Job) → Some i ≡ Some j → i ≡ j
some_job i j e = cc

with_job_of : (h : ℕ) (j : Job) (o : Option (ℕ × Job)) (c : Center) → Some h ≡ number_of o → pick_for h c ≡ Some j →
    ((p : ℕ × Job) → o ≡ Some p → pick_for p.0 c ≡ Some p.1) → Some (h, j) ≡ o
with_job_of h j (Some p) c e own has =
    let same : h ≡ p.0 = some_number h p.0 e in
    ap Some (pair_of h j p same (some_job j p.1 (sym own ∙ ap (λ k. pick_for k c) same ∙ has p refl)))
with_job_of h j None c e own has = cc

has_some : (h : ℕ) (o : Option (ℕ × Job)) (c : Center) → Some h ≡ number_of o → pick_for h c ≡ None →
    ((p : ℕ × Job) → o ≡ Some p → pick_for p.0 c ≡ Some p.1) → ⊥
has_some h (Some p) c e none has =
    let both : None ≡ Some p.1 = sym none ∙ ap (λ k. pick_for k c) (some_number h p.0 e) ∙ has p refl in cc
has_some h None c e none has = cc

-- the one that is next, with its job
pub next_is : (c : Center) (h : ℕ) (j : Job) → Some h ≡ number_of (next c) → pick_for h c ≡ Some j → Some (h, j) ≡ next c
next_is c h j e own = with_job_of h j (next c) c e own (has_job _ c)

pub never_none : (c : Center) (h : ℕ) → Some h ≡ number_of (next c) → pick_for h c ≡ None → ⊥
never_none c h e none = has_some h (next c) c e none (has_job _ c)

-- The next one is picked: it has a job.
pub picks_next : (c : Center) (h : ℕ) (o : Option Job) → pick_for h c ≡ o → Some h ≡ number_of (next c) → picked_if h (pick_for h c) c ≡ picks (next c) c
picks_next c h (Some j) own e = ap (λ (o : Option Job). picked_if h o c) own ∙ ap (λ (o : Option (ℕ × Job)). picks o c) (next_is c h j e own)
picks_next c h None own e = absurd (never_none c h e own)

pub next_has : (c : Center) (h : ℕ) (o : Option Job) → pick_for h c ≡ o → Some h ≡ number_of (next c) → is_some o ≡ true
next_has c h (Some j) own e = refl
next_has c h None own e = absurd (never_none c h e own)
