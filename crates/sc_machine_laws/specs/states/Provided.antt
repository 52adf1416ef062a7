-- What holds of the handlers that each frame needs, and of those that its entry newly reserved.
use Rattle.std.specs.Prelude.{ℕ, ◌<◌, ◌≤◌, ◌≡◌, ◌⊎◌, List, [], ◌∷◌, ◌++◌, Option, Some, None}
use Rattle.sc_machine_laws.specs.states.World.{Grant, Reservation, Wait, Frame, World}
use Rattle.sc_machine_laws.specs.states.Consistent.{HasWait, HadBefore, IsStuckFrom}

abbrev pub Each : {X : Type 0} → (X → Type 0) → List X → Type 0
Each P [] = Unit {0}
Each P (x ∷ xs) = P x × Each P xs

-- as HadBefore, with the grant by the reservation `i` and no grant after it in the trail
abbrev pub HadAlone : ℕ → ℕ → ℕ → List Grant → Type 0
HadAlone p n i [] = ⊥
HadAlone p n i (e ∷ t) = ((e.holder ≡ p) × (e.number ≡ i) × (i < n) × (t ≡ [])) ⊎ ((n ≤ e.number) × HadAlone p n i t)

-- `p` has a right over `k`, or gets it back before it goes on at the number `n`; or `p` doesn't go on.
abbrev pub IsAssured : World → ℕ → ℕ → ℕ → Type 0
IsAssured w p n k = HadBefore p n (w.queue k) ⊎ (HadBefore p n (w.top k) ⊎ IsStuckFrom w p n)

-- `p` has the right by its reservation, or gets it back before it goes on at `n`; or `p` doesn't go on.
abbrev pub KeepsReserved : World → ℕ → ℕ → Reservation → Type 0
KeepsReserved w p n r = HadAlone p n r.number (w.queue r.handler) ⊎ IsStuckFrom w p n

abbrev pub IsNewer : List Frame → Reservation → Type 0
IsNewer fs r = (m : ℕ) → HasWait m fs → m < r.number

-- The reservation is newer than all requests that the frames below wait for, and its number is below `n`.
abbrev pub IsBetween : List Frame → ℕ → Reservation → Type 0
IsBetween fs n r = IsNewer fs r × (r.number < n)

-- the number at which a frame goes on: that of the request that it waits for, or `n` if it doesn't wait
abbrev pub lowest : Option Wait → ℕ → ℕ
lowest None n = n
lowest (Some v) n = v.number

-- the number at which the frame below goes on: that of the first reservation, or `n` if there is none
abbrev pub under : List Reservation → ℕ → ℕ
under [] n = n
under (r ∷ []) n = r.number
under (r ∷ q ∷ rs) n = under (q ∷ rs) n

-- When a frame goes on, it has what it needs and what it reserved: `S` holds of the former and `K` of the latter.
abbrev pub AreHeld : (ℕ → ℕ → Type 0) → (ℕ → Reservation → Type 0) → ℕ → List Frame → Type 0
AreHeld S K n [] = Unit {0}
AreHeld S K n (f ∷ fs) =
    (lowest f.waits n ≤ n) × Each (S (lowest f.waits n)) f.needs × Each (K (lowest f.waits n)) f.reserved
    × Each (IsBetween fs (lowest f.waits n)) f.reserved
    × AreHeld S K (under f.reserved (lowest f.waits n)) fs

abbrev pub all_reserved : List Frame → List Reservation
all_reserved [] = []
all_reserved (f ∷ fs) = f.reserved ++ all_reserved fs

-- The numbers of the reservations fall, and the first is below `n`.
abbrev pub Falling : ℕ → List Reservation → Type 0
Falling n [] = Unit {0}
Falling n (r ∷ rs) = (r.number < n) × Falling r.number rs

pub record IsProvided (w : World) : Type 0 where
  pub held : (p : ℕ) → AreHeld (IsAssured w p) (KeepsReserved w p) w.next (w.handlers p).stack
  pub apart : (p : ℕ) → Falling w.next (all_reserved (w.handlers p).stack)
