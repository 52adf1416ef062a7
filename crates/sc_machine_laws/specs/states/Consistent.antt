-- What holds of rights, waits and requests in every state that is reached.
use Rattle.std.specs.Prelude.{ℕ, ◌<◌, ◌≤◌, ◌≡◌, ◌≢◌, ◌⊎◌, List, [], ◌∷◌, Option, Some, None, true, false}
use Rattle.sc_machine_laws.specs.states.World.{Grant, Wait, Request, Frame, Handler, World, popped, passes, requests_of}
use Rattle.sc_machine_laws.specs.states.Steps.{waits_for, IsActive, IsTold, answered}

-- ---- waits

abbrev pub IsWait : ℕ → Option Wait → Type 0
IsWait n None = ⊥
IsWait n (Some v) = v.number ≡ n

-- One of the frames waits for the request `n`.
abbrev pub HasWait : ℕ → List Frame → Type 0
HasWait n [] = ⊥
HasWait n (f ∷ fs) = IsWait n f.waits ⊎ HasWait n fs

-- The wait is that of one of the frames.
abbrev pub StackWaits : Wait → List Frame → Type 0
StackWaits v [] = ⊥
StackWaits v (f ∷ fs) = (f.waits ≡ Some v) ⊎ StackWaits v fs

-- The handler has the wait, and no reply to it has come.
abbrev pub IsOpen : Wait → Handler → Type 0
IsOpen v g = StackWaits v g.stack × ((answered g.answer ≡ false) ⊎ StackWaits v (popped g.stack))

-- The handler has passed its rights and waits for the answer. It has no callback.
pub record IsAway (h : Handler) : Type 0 where
  pub for : Wait
  pub waits : waits_for h.stack ≡ Some for
  pub passing : for.passing ≡ true
  pub unanswered : answered h.answer ≡ false
  pub no_callback : h.callback ≡ None

-- The handler waits for an answer of `k`, and has kept its rights. The number of its request is between `lo` and
-- `hi`.
pub record Asks (h : Handler) (k lo hi : ℕ) : Type 0 where
  pub for : Wait
  pub waits : waits_for h.stack ≡ Some for
  pub target : for.target ≡ k
  pub keeps : for.passing ≡ false
  pub unanswered : answered h.answer ≡ false
  pub after : lo < for.number
  pub before : for.number < hi

abbrev pub HasPassed : List Frame → Type 0
HasPassed fs = (v : Wait) × (waits_for fs ≡ Some v) × (v.passing ≡ true)

-- A frame that a request began is alone, or above a frame that has passed its rights; all frames below wait for
-- older requests. Any other frame is above one that doesn't wait.
abbrev pub IsBegun : Option Request → List Frame → Type 0
IsBegun None fs = waits_for fs ≡ None
IsBegun (Some r) fs = ((m : ℕ) → HasWait m fs → m < r.number) × ((fs ≡ []) ⊎ HasPassed fs)

-- Each frame of the stack is begun in this way, and its wait is newer than all waits below it.
abbrev pub IsOrdered : List Frame → Type 0
IsOrdered [] = Unit {0}
IsOrdered (f ∷ fs) = IsBegun f.origin fs × IsOrdered fs
    × ((v : Wait) → f.waits ≡ Some v → (m : ℕ) → HasWait m fs → m < v.number)

-- ---- trails

abbrev pub IsFirst : ℕ → ℕ → List Grant → Type 0
IsFirst x n [] = ⊥
IsFirst x n (e ∷ t) = (e.holder ≡ x) × (e.number ≡ n)

abbrev pub HasGrant : ℕ → ℕ → List Grant → Type 0
HasGrant x n [] = ⊥
HasGrant x n (e ∷ t) = ((e.holder ≡ x) × (e.number ≡ n)) ⊎ HasGrant x n t

-- In the trail, the first grant with a number below `n` is to `p`.
abbrev pub HadBefore : ℕ → ℕ → List Grant → Type 0
HadBefore p n [] = ⊥
HadBefore p n (e ∷ t) = ((e.holder ≡ p) × (e.number < n)) ⊎ ((n ≤ e.number) × HadBefore p n t)

-- The waiting stack of `k` was lent for the request `m`: `x` asked `k` and waits, and `k` waits for `m` or has
-- failed.
abbrev pub Lends : World → ℕ → ℕ → ℕ → ℕ → Type 0
Lends w k x lo m = Asks (w.handlers x) k lo m × (HasWait m (w.handlers k).stack ⊎ ((w.handlers k).failed ≡ true))

abbrev pub Nobody : ℕ → ℕ → ℕ → Type 0
Nobody x lo m = ⊥

-- Why the holder of `e` has a right and that of `d` hasn't: the latter waits for the request with which the right
-- went, or has lent the right, or has failed.
abbrev pub IsOver : World → (ℕ → ℕ → ℕ → Type 0) → Grant → Grant → Type 0
IsOver w Lent e d = HasWait e.number (w.handlers d.holder).stack
    ⊎ (Lent d.holder d.number e.number ⊎ ((w.handlers d.holder).failed ≡ true))

abbrev pub IsTrail : World → (ℕ → ℕ → ℕ → Type 0) → List Grant → Type 0
IsTrail w Lent [] = Unit {0}
IsTrail w Lent (e ∷ []) = Unit {0}
IsTrail w Lent (e ∷ d ∷ t) = IsOver w Lent e d × (d.number < e.number) × IsTrail w Lent (d ∷ t)

-- A waiting stack was first granted by its handler itself, when it passed its rights.
abbrev pub IsBased : List Frame → List Grant → Type 0
IsBased fs [] = Unit {0}
IsBased fs (e ∷ []) = HasWait e.number fs
IsBased fs (e ∷ d ∷ t) = IsBased fs (d ∷ t)

-- ---- after a failure

-- No reply will come to the wait of `k` for the request `m`: `k` has learned of a failure; or the target of the
-- wait is stuck in a wait newer than `m`, and needs its answer before it ends the request `m`.
pub data Stuck (w : World) : ℕ → ℕ → Type 0 where
  Told : {k m : ℕ} → IsTold (w.handlers k) → Stuck w k m
  On : {k m : ℕ} (v : Wait) (j : ℕ) → IsOpen v (w.handlers k) → v.number ≡ m → HasWait j (w.handlers v.target).stack
      → m < j → Stuck w v.target j → Stuck w k m

-- `p` is stuck in a wait for a request with the number `n` or a later one.
abbrev pub IsStuckFrom : World → ℕ → ℕ → Type 0
IsStuckFrom w p n = (j : ℕ) × (n ≤ j) × HasWait j (w.handlers p).stack × Stuck w p j

-- ---- requests

abbrev pub IsOne : Request → List Request → Type 0
IsOne r [] = ⊥
IsOne r (q ∷ qs) = (q ≡ r) ⊎ IsOne r qs

abbrev pub HasNumber : ℕ → List Request → Type 0
HasNumber n [] = ⊥
HasNumber n (q ∷ qs) = (q.number ≡ n) ⊎ HasNumber n qs

-- The numbers of the requests differ and are below `n`.
abbrev pub AreNumbered : ℕ → List Request → Type 0
AreNumbered n [] = Unit {0}
AreNumbered n (q ∷ qs) = (q.number < n) × (HasNumber q.number qs → ⊥) × AreNumbered n qs

-- No handler waits for the request `n`.
abbrev pub IsNobodys : World → ℕ → Type 0
IsNobodys w n = (q : ℕ) → HasWait n (w.handlers q).stack → ⊥

-- All rights that were passed with the request `n` were granted to `k`.
abbrev pub HasGrantsOf : World → ℕ → ℕ → Type 0
HasGrantsOf w k n = (j x : ℕ) → (HasGrant x n (w.queue j) → x ≡ k) × (HasGrant x n (w.top j) → x ≡ k)

-- The poster of the request at `k` waits for its answer, unless the poster has failed.
abbrev pub HasClient : World → ℕ → Request → Type 0
HasClient w k r =
    (((w.handlers r.poster).failed ≡ true) × IsNobodys w r.number × HasGrantsOf w k r.number)
    ⊎ ((v : Wait) × IsOpen v (w.handlers r.poster) × (v.number ≡ r.number) × (v.target ≡ k) × (v.passing ≡ passes r)
    × (v.asked ≡ r.asked))

-- Why the wait `v` of `k` may have no grant of the waiting stack of `k`: `k` learns of a failure, or `v` is stuck
-- and the right was lost since.
abbrev pub HasLost : World → ℕ → Wait → Type 0
HasLost w k v = IsTold (w.handlers k) ⊎ (Stuck w k v.number × ((x m : ℕ) → HasGrant x m (w.top k) → v.number < m))

-- ---- all of it

-- If another handler `x` may push on the waiting stack of `k`, then `k` has passed its rights and waits, or `x`
-- waits for `k`, or `x` has failed.
abbrev pub TopsAreAway : World → Type 0
TopsAreAway w =
    (k x i : ℕ) → IsFirst x i (w.top k) → x ≢ k → (w.handlers k).failed ≡ false
    → IsAway (w.handlers k) ⊎ (Asks (w.handlers x) k i w.next ⊎ ((w.handlers x).failed ≡ true))

-- A handler that goes on has neither a reply nor a callback.
abbrev pub ActiveAreClear : World → Type 0
ActiveAreClear w =
    (k : ℕ) → IsActive (w.handlers k) → (answered (w.handlers k).answer ≡ false) × ((w.handlers k).callback ≡ None)

-- A callback is newer than all requests that its handler waits for. Its handler has passed its rights, and has no
-- reply yet.
abbrev pub CallbackStands : Handler → Type 0
CallbackStands g = (r : Request) → g.callback ≡ Some r
    → ((m : ℕ) → HasWait m g.stack → m < r.number) × HasPassed g.stack × (answered g.answer ≡ false)

-- No trail has a grant by the request `n`.
abbrev pub HasNoGrant : World → ℕ → Type 0
HasNoGrant w n = (k x : ℕ) → (HasGrant x n (w.queue k) → ⊥) × (HasGrant x n (w.top k) → ⊥)

pub record IsConsistent (w : World) : Type 0 where
  pub tops : TopsAreAway w
  pub clear : ActiveAreClear w
  pub ordered : (k : ℕ) → IsOrdered (w.handlers k).stack
  pub callbacks : (k : ℕ) → CallbackStands (w.handlers k)
  pub queue_trails : (k : ℕ) → IsTrail w Nobody (w.queue k)
  pub top_trails : (k : ℕ) → IsTrail w (Lends w k) (w.top k)
  pub based : (k : ℕ) → (w.handlers k).failed ≡ false → IsBased (w.handlers k).stack (w.top k)
  -- a handler that waits after passing its rights has granted its waiting stack to its target, unless the grant is
  -- lost
  pub own_top : (k : ℕ) (v : Wait) → IsOpen v (w.handlers k) → v.passing ≡ true
      → HasGrant v.target v.number (w.top k) ⊎ HasLost w k v
  -- what was passed with a request that is waited for was granted to its target
  pub queue_grants : (k p x : ℕ) (v : Wait) → StackWaits v (w.handlers p).stack → HasGrant x v.number (w.queue k)
      → x ≡ v.target
  pub top_grants : (k p x : ℕ) (v : Wait) → StackWaits v (w.handlers p).stack → HasGrant x v.number (w.top k)
      → x ≡ v.target
  -- a handler that waits had a right over its target when it posted, and gets it back, unless it is stuck
  pub held : (p : ℕ) (v : Wait) → StackWaits v (w.handlers p).stack
      → HadBefore p v.number (w.queue v.target) ⊎ (HadBefore p v.number (w.top v.target) ⊎ IsStuckFrom w p v.number)
  pub one_poster : (a b n : ℕ) → HasWait n (w.handlers a).stack → HasWait n (w.handlers b).stack → a ≡ b
  pub waits_old : (k n : ℕ) → HasWait n (w.handlers k).stack → n < w.next
  pub queue_old : (k x n : ℕ) → HasGrant x n (w.queue k) → n < w.next
  pub top_old : (k x n : ℕ) → HasGrant x n (w.top k) → n < w.next
  -- when the answer has come, all that was passed has returned
  pub spent : (p : ℕ) (v : Wait) → waits_for (w.handlers p).stack ≡ Some v → answered (w.handlers p).answer ≡ true
      → HasNoGrant w v.number
  -- a request without lock passing grants nothing
  pub plain : (p : ℕ) (v : Wait) → StackWaits v (w.handlers p).stack → v.passing ≡ false → HasNoGrant w v.number
  -- a handler that waits for one that has failed learns of it
  pub dead : (k : ℕ) (v : Wait) → IsOpen v (w.handlers k) → (w.handlers v.target).failed ≡ true
      → IsTold (w.handlers k)
  pub failures : (k : ℕ) → (w.handlers k).failed ≡ true → (w.handlers k).stack ≡ []
  -- a handler learns of a failure only if it waits for one that has failed
  pub why_told : (k : ℕ) → IsTold (w.handlers k)
      → (v : Wait) × StackWaits v (w.handlers k).stack × ((w.handlers v.target).failed ≡ true)
  pub clients : (k : ℕ) (r : Request) → IsOne r (requests_of (w.handlers k)) → r.waited ≡ true → HasClient w k r
  pub numbered : (k : ℕ) → AreNumbered w.next (requests_of (w.handlers k))
