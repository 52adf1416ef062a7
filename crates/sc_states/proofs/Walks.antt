-- The turns that lead to each state, and the walk back over them.
use Rattle.std.proofs.Common.{◌≡◌, ◌<◌, ◌+◌, ◌++◌, ◌∷◌, [], ◌∙◌, inl, inr, ℕ, zero, suc, List, length, get_or, reverse, refl, sym, ap, subst, arith, append_assoc, length-append}
use Rattle.std.proofs.lemmas.List.{get_or_append_left, reverse-append, reverse-reverse}
use Rattle.std.proofs.Math.Seq.{get_or-append_seam}
use Rattle.std.proofs.lemmas.Bool.{cases_lt}
use Rattle.sc_states.specs.Orders.{AreEarlier, orders_in, orders_on}

-- what lies at the end of the orders and the turns to one more state
abbrev longer : List (List ℕ) → ℕ → List ℕ → List (List ℕ)
longer os p t = os ++ (get_or os p [] ++ t) ∷ []

length_longer : (os : List (List ℕ)) (p : ℕ) (t : List ℕ) → length (longer os p t) ≡ length os + 1
length_longer os p t = length-append os ((get_or os p [] ++ t) ∷ [])

pub orders_more : (os : List (List ℕ)) (ps : List ℕ) (ts : List (List ℕ)) (p : ℕ) (t : List ℕ) → length ts ≡ length ps →
    orders_on os (ps ++ p ∷ []) (ts ++ t ∷ []) ≡ orders_on os ps ts ++ (get_or (orders_on os ps ts) p [] ++ t) ∷ []
orders_more os [] [] p t same = refl
orders_more os [] (u ∷ ts) p t same = absurd (omega (arith, same))
orders_more os (q ∷ ps) [] p t same = absurd (omega (arith, same))
orders_more os (q ∷ ps) (u ∷ ts) p t same = orders_more (longer os q u) ps ts p t (omega (arith, same))

pub orders_count : (os : List (List ℕ)) (ps : List ℕ) (ts : List (List ℕ)) → length ts ≡ length ps → length (orders_on os ps ts) ≡ length os + length ts
orders_count os [] [] same = omega arith
orders_count os [] (u ∷ ts) same = absurd (omega (arith, same))
orders_count os (q ∷ ps) [] same = absurd (omega (arith, same))
orders_count os (q ∷ ps) (u ∷ ts) same =
    let rest = orders_count (longer os q u) ps ts (omega (arith, same)) in
    omega (arith, rest, length_longer os q u)

-- what stood before stays
orders_stay : (os : List (List ℕ)) (ps : List ℕ) (ts : List (List ℕ)) (i : ℕ) → i < length os → get_or (orders_on os ps ts) i [] ≡ get_or os i []
orders_stay os [] ts i below = refl
orders_stay os (q ∷ ps) [] i below = refl
orders_stay os (q ∷ ps) (u ∷ ts) i below =
    orders_stay (longer os q u) ps ts i (omega (arith, length_longer os q u))
    ∙ get_or_append_left os ((get_or os q [] ++ u) ∷ []) [] i below

-- the first order is the first step
pub first_order : (ps : List ℕ) (ts : List (List ℕ)) → length ts ≡ length ps → get_or (orders_in ps ts) 0 [] ≡ get_or ts 0 []
first_order [] [] same = refl
first_order [] (u ∷ ts) same = absurd (omega (arith, same))
first_order (q ∷ ps) [] same = absurd (omega (arith, same))
first_order (q ∷ ps) (u ∷ ts) same = orders_stay (u ∷ []) ps ts 0 (omega arith)

-- each order is that of the state before, and a step
pub order_at : (os : List (List ℕ)) (ps : List ℕ) (ts : List (List ℕ)) (i : ℕ) → length ts ≡ length ps → i < length ps → get_or ps i 0 < length os + i →
    get_or (orders_on os ps ts) (length os + i) [] ≡ get_or (orders_on os ps ts) (get_or ps i 0) [] ++ get_or ts i []
order_at os [] ts i same below earlier = absurd (omega (arith, below))
order_at os (q ∷ ps) [] i same below earlier = absurd (omega (arith, same))
order_at os (q ∷ ps) (u ∷ ts) zero same below earlier =
    let more : List (List ℕ) = longer os q u in
    let here : length os + 0 ≡ length os = omega arith in
    let there : length os < length more = omega (arith, length_longer os q u) in
    let before : q < length more = omega (arith, length_longer os q u, earlier) in
    ap (λ (k : ℕ). get_or (orders_on more ps ts) k []) here ∙ orders_stay more ps ts (length os) there ∙ get_or-append_seam os (get_or os q [] ++ u) [] []
    ∙ ap (λ (o : List ℕ). o ++ u)
    (sym (get_or_append_left os ((get_or os q [] ++ u) ∷ []) [] q (omega (arith, earlier))) ∙ sym (orders_stay more ps ts q before))
order_at os (q ∷ ps) (u ∷ ts) (suc i) same below earlier =
    let more : List (List ℕ) = longer os q u in
    let e : length os + suc i ≡ length more + i = omega (arith, length_longer os q u) in
    ap (λ (k : ℕ). get_or (orders_on more ps ts) k []) e
    ∙ order_at more ps ts i (omega (arith, same)) (omega (arith, below)) (omega (arith, earlier, e))

-- ---- the walk back

-- The turns that are taken end the order, and those to this state come before them.
pub record IsWalked (ps : List ℕ) (ts : List (List ℕ)) (at : ℕ) (turns order : List ℕ) : Type 0 where
  pub there : at < length ps
  pub so : get_or (orders_in ps ts) at [] ++ reverse turns ≡ order

taken : (before step turns : List ℕ) → (before ++ step) ++ reverse turns ≡ before ++ reverse (turns ++ reverse step)
taken before step turns =
    append_assoc before step (reverse turns)
    ∙ ap (λ (xs : List ℕ). before ++ (xs ++ reverse turns)) (sym (reverse-reverse step))
    ∙ ap (λ (xs : List ℕ). before ++ xs) (sym (reverse-append turns (reverse step)))

pub walk_next : (ps : List ℕ) (ts : List (List ℕ)) (at : ℕ) (turns order : List ℕ) → AreEarlier ps → length ts ≡ length ps → 0 < at →
    IsWalked ps ts at turns order → IsWalked ps ts (get_or ps at 0) (turns ++ reverse (get_or ts at [])) order
walk_next ps ts at turns order earlier same some w =
    let less = earlier at some w.there in
    let e : 0 + at ≡ at = omega arith in
    let here : get_or (orders_in ps ts) at [] ≡ get_or (orders_in ps ts) (get_or ps at 0) [] ++ get_or ts at [] =
    ap (λ (k : ℕ). get_or (orders_in ps ts) k []) (sym e) ∙ order_at [] ps ts at same w.there (omega (arith, less)) in
    record {
      there = omega (arith, less, w.there);
      so = sym (taken (get_or (orders_in ps ts) (get_or ps at 0) []) (get_or ts at []) turns)
          ∙ ap (λ (xs : List ℕ). xs ++ reverse turns) (sym here) ∙ w.so;
    }

pub walk_end : (ps : List ℕ) (ts : List (List ℕ)) (turns order : List ℕ) → length ts ≡ length ps → IsWalked ps ts 0 turns order →
    reverse (turns ++ reverse (get_or ts 0 [])) ≡ order
walk_end ps ts turns order same w =
    sym (taken [] (get_or ts 0 []) turns) ∙ ap (λ (xs : List ℕ). xs ++ reverse turns) (sym (first_order ps ts same)) ∙ w.so

-- ---- one more

pub earlier_more : (ps : List ℕ) (p : ℕ) → AreEarlier ps → (0 < length ps → p < length ps) → AreEarlier (ps ++ p ∷ [])
earlier_more ps p earlier last = λ i some below. elim (cases_lt i (length ps)) [
  | inl less ↦ subst (λ (q : ℕ). q < i) (sym (get_or_append_left ps (p ∷ []) 0 i less)) (earlier i some less)
  | inr more ↦
      let e : i ≡ length ps = omega (arith, length-append ps (p ∷ [])) in
      let at : get_or (ps ++ p ∷ []) i 0 ≡ p = ap (λ (k : ℕ). get_or (ps ++ p ∷ []) k 0) e ∙ get_or-append_seam ps p [] 0 in
      subst (λ (q : ℕ). q < i) (sym at) (omega (arith, last (omega arith)))
]
