-- Turns that may be played at once, before any turn of others, so that no answer is lost (Lipton's movers). `Turn h x y`
-- says that the turn of the handler h leads from the world x to the world y. What is `bad` is looked for and stays so, as
-- a failure does.
use Rattle.std.specs.Prelude.{◌≡◌, ◌⊎◌, ℕ, Bool, true, false, List, [], ◌∷◌}
use Rattle.sc_orders.specs.Orders.{Leads, EdgesTell}

-- A machine: a turn leads to one world, and a handler without a turn changes nothing. What is reached stays so, and what
-- is bad does.
pub record IsMachine {W : Type 0} (Turn : ℕ → W → W → Type 0) (has_turn : ℕ → W → Bool) (bad : W → Bool)
    (IsReached : W → Type 0) : Type 0 where
  pub one : (h : ℕ) (x y z : W) → Turn h x y → Turn h x z → y ≡ z
  pub idle : (h : ℕ) (x : W) → IsReached x → has_turn h x ≡ false → Turn h x x
  pub reached : (h : ℕ) (x y : W) → IsReached x → Turn h x y → IsReached y
  pub stays_bad : (h : ℕ) (x y : W) → bad x ≡ true → Turn h x y → bad y ≡ true

-- In a world that is reached and not bad the first handler is a mover, whose turn leads to one that isn't bad. The second
-- is another one, and has a turn, too.
pub record Meet {W : Type 0} (Turn : ℕ → W → W → Type 0) (has_turn : ℕ → W → Bool) (bad : W → Bool)
    (IsReached : W → Type 0) (IsMover : ℕ → W → Type 0) (g h : ℕ) (w moved : W) : Type 0 where
  pub reached : IsReached w
  pub is_good : bad w ≡ false
  pub differ : g ≡ h → ⊥
  pub mover : IsMover g w
  pub turn : Turn g w moved
  pub good_after : bad moved ≡ false
  pub turn_of : has_turn h w ≡ true

-- After each of both turns the other one leads to one world. The mover still is one after the other's turn.
pub record Commute {W : Type 0} (Turn : ℕ → W → W → Type 0) (IsMover : ℕ → W → Type 0) (g h : ℕ)
    (moved other : W) : Type 0 where
  pub both : W
  pub mover : IsMover g other
  pub turn : Turn g other both
  pub other_turn : Turn h moved both

-- The turn shows something bad.
pub record ShowsBad {W : Type 0} (Turn : ℕ → W → W → Type 0) (bad : W → Bool) (h : ℕ) (w : W) : Type 0 where
  pub world : W
  pub turn : Turn h w world
  pub is_bad : bad world ≡ true

-- What movers are. A mover has a turn. If it meets another handler that has one, the other still has it after the
-- mover's. Their turns commute, unless the other's shows something bad. If it does, it does so after the mover's, too.
-- If the other's turn leads somewhere after the mover's, it does before.
pub record AreMovers {W : Type 0} (Turn : ℕ → W → W → Type 0) (has_turn : ℕ → W → Bool) (bad : W → Bool)
    (IsReached : W → Type 0) (IsMover : ℕ → W → Type 0) : Type 0 where
  pub has : (g : ℕ) (w : W) → IsReached w → bad w ≡ false → IsMover g w → has_turn g w ≡ true
  pub leaves : (g h : ℕ) (w moved : W) → Meet Turn has_turn bad IsReached IsMover g h w moved → has_turn h moved ≡ true
  pub commute : (g h : ℕ) (w moved other : W) → Meet Turn has_turn bad IsReached IsMover g h w moved → Turn h w other →
      bad other ≡ false → Commute Turn IsMover g h moved other
  pub shows : (g h : ℕ) (w moved other : W) → Meet Turn has_turn bad IsReached IsMover g h w moved → Turn h w other →
      bad other ≡ true → ShowsBad Turn bad h moved
  pub goes : (g h : ℕ) (w moved after : W) → Meet Turn has_turn bad IsReached IsMover g h w moved → Turn h moved after →
      (other : W) × Turn h w other

-- Movers lead from the world to a kept one, and show nothing bad. It is a finite chain.
pub data LeadsTo {W : Type 0} (Turn : ℕ → W → W → Type 0) (bad : W → Bool) (IsMover : ℕ → W → Type 0)
    (IsKept : W → Type 0) : W → Type 0 where
  Kept : (w : W) → IsKept w → LeadsTo Turn bad IsMover IsKept w
  Moved : (w : W) → (g : ℕ) → (v : W) → IsMover g w → Turn g w v → bad v ≡ false → LeadsTo Turn bad IsMover IsKept v →
      LeadsTo Turn bad IsMover IsKept w

-- The kept worlds are closed under turns: movers lead to one of them from the opening, and from each turn of each of
-- them, and nothing bad is shown. A chain of movers may be cut anywhere, by keeping the world at which it is cut. So
-- movers that come round, or go on for long, are no obstacle.
pub record AreClosed {W : Type 0} (Turn : ℕ → W → W → Type 0) (has_turn : ℕ → W → Bool) (bad : W → Bool)
    (IsReached : W → Type 0) (IsMover : ℕ → W → Type 0) (opening : W) (IsKept : W → Type 0) : Type 0 where
  pub opens : LeadsTo Turn bad IsMover IsKept opening
  pub reached : (k : W) → IsKept k → IsReached k
  pub good : (k : W) → IsKept k → bad k ≡ false
  pub goes : (k : W) → IsKept k → (h : ℕ) → has_turn h k ≡ true → (v : W) × Turn h k v
  pub good_turns : (k : W) → IsKept k → (h : ℕ) → has_turn h k ≡ true → (v : W) → Turn h k v → bad v ≡ false
  pub leads : (k : W) → IsKept k → (h : ℕ) → has_turn h k ≡ true → (v : W) → Turn h k v →
      LeadsTo Turn bad IsMover IsKept v

-- The turns of movers keep it.
abbrev pub IsStable : {W : Type 0} → (ℕ → W → W → Type 0) → (ℕ → W → Type 0) → (W → Type 0) → Type 0
IsStable {W} Turn IsMover P = (g : ℕ) (x y : W) → P x → IsMover g x → Turn g x y → P y

pub record SomeKept {W : Type 0} (IsKept P : W → Type 0) : Type 0 where
  pub world : W
  pub kept : IsKept world
  pub has : P world

-- No order leads to a world that is bad. Whatever handlers have their turns, one after the other, they lead somewhere.
-- Whatever the turns of movers keep is found: if an order leads to a world that has it, so has one that is kept.
pub record FindAll {W : Type 0} (Turn : ℕ → W → W → Type 0) (bad : W → Bool) (IsMover : ℕ → W → Type 0) (opening : W)
    (IsKept : W → Type 0) : Type 1 where
  pub none_bad : (hs : List ℕ) (v : W) → Leads Turn hs opening v → bad v ≡ false
  pub goes : (hs : List ℕ) → (v : W) × Leads Turn hs opening v
  pub found : (P : W → Type 0) → IsStable Turn IsMover P → (hs : List ℕ) (v : W) → Leads Turn hs opening v → P v →
      SomeKept IsKept P

-- ---- who moves

-- the handlers that move in the chain
abbrev pub movers_in : {W : Type 0} → {Turn : ℕ → W → W → Type 0} → {bad : W → Bool} → {IsMover : ℕ → W → Type 0} →
    {IsKept : W → Type 0} → {w : W} → LeadsTo Turn bad IsMover IsKept w → List ℕ
movers_in (Kept w k) = []
movers_in (Moved w g v m t b l) = g ∷ movers_in l

-- the kept world at its end
abbrev pub end_of : {W : Type 0} → {Turn : ℕ → W → W → Type 0} → {bad : W → Bool} → {IsMover : ℕ → W → Type 0} →
    {IsKept : W → Type 0} → {w : W} → LeadsTo Turn bad IsMover IsKept w → W
end_of (Kept w k) = w
end_of (Moved w g v m t b l) = end_of l

-- The number is one of these.
abbrev pub IsAmong : ℕ → List ℕ → Type 0
IsAmong x [] = ⊥
IsAmong x (h ∷ hs) = (x ≡ h) ⊎ IsAmong x hs

-- An edge is a turn of a kept world with the movers after it, up to a kept world. From this kept world edges lead to one
-- in which the handler moves.
pub data Moves {W : Type 0} {Turn : ℕ → W → W → Type 0} {has_turn : ℕ → W → Bool} {bad : W → Bool}
    {IsReached : W → Type 0} {IsMover : ℕ → W → Type 0} {opening : W} {IsKept : W → Type 0}
    (c : AreClosed Turn has_turn bad IsReached IsMover opening IsKept) (x : ℕ) : W → Type 0 where
  Now : (k : W) → (kept : IsKept k) → (h : ℕ) → (t : has_turn h k ≡ true) → (v : W) → (turn : Turn h k v) →
      IsAmong x (h ∷ movers_in (c.leads k kept h t v turn)) → Moves c x k
  Later : (k : W) → (kept : IsKept k) → (h : ℕ) → (t : has_turn h k ≡ true) → (v : W) → (turn : Turn h k v) →
      Moves c x (end_of (c.leads k kept h t v turn)) → Moves c x k

-- If kept worlds are closed, a handler may move from one of them if edges lead from there to one in which it moves, and
-- never moves if none do.
abbrev pub EdgesShow : {W : Type 0} → {Turn : ℕ → W → W → Type 0} → {has_turn : ℕ → W → Bool} → {bad : W → Bool} →
    {IsReached : W → Type 0} → {IsMover : ℕ → W → Type 0} → {opening : W} → {IsKept : W → Type 0} →
    AreClosed Turn has_turn bad IsReached IsMover opening IsKept → Type 0
EdgesShow {W} {Turn} {has_turn} {bad} {IsReached} {IsMover} {opening} {IsKept} c =
    (k : W) → IsKept k → (x : ℕ) → EdgesTell Turn has_turn x k (Moves c x k)
