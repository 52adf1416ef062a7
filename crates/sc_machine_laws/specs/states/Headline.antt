-- The headline's part on rights, requests and chains, for states of the machine.
use Rattle.std.specs.Prelude.{ℕ, ◌≡◌, ◌<◌, ◌⊎◌, Bool, true, false, List, [], ◌∷◌, ◌++◌, Option, Some, None, is_some, Contains}
use Rattle.sc_tree.specs.Plain.{System}
use Rattle.sc_class.specs.ClassNames.{Root}
use Rattle.sc_rules.specs.declared.entity_types.entity_type.EntityType.{EntityType}
use Rattle.sc_lockpass.specs.Rights.{held}
use Rattle.sc_lockpass.specs.wait_conditions.Reservations.{may_be_reserved}
use Rattle.sc_model.specs.Handlers.{Request, Answer, Reply, Failed, Refused, Requested, Stage, Runs, Reserves, ReservesBlock, InCall, Awaits, Frame, Handler, World}
use Rattle.sc_model.specs.Sessions.{standing_in}
use Rattle.sc_model.specs.Failures.{requests_at}
use Rattle.sc_model.specs.Chains.{WaitsFor, InChain}
use Rattle.sc_model.specs.Turns.{turn}
use Rattle.sc_model.specs.Runs.{IsReached}
use Rattle.sc_machine_laws.specs.states.World as rights
use Rattle.sc_machine_laws.specs.states.Lawful.{IsLawful}
use Rattle.sc_machine_laws.specs.states.Stands.{Stands}

-- ---- posted under a right

-- If a turn of `h` adds a request to `k`, then `h` posted it. `h` held `k`, or created `k` in this turn.
abbrev pub PostedUnderRight : Type 0
PostedUnderRight =
    (most : ℕ) (s : System) (h : ℕ) (w : World) (k : ℕ) (r : Request)
    → Contains (requests_at ((turn most s h w).handlers k)) r
    → Contains (requests_at (w.handlers k)) r ⊎ ((r.poster ≡ Some h) × ((held w.rights h k ≡ true) ⊎ (k ≡ w.count)))

-- ---- taken in order

-- How the queue of `k` changes in a turn of `h`: it stays; `k` takes its first request; a request of `h` is added
-- at its end; or all its requests are lost when `k` fails.
pub data QueueMoves (h k : ℕ) (x y : Handler) : Type 0 where
  stays : y.queue ≡ x.queue → QueueMoves h k x y
  takes : (r : Request) → k ≡ h → x.queue ≡ r ∷ y.queue → QueueMoves h k x y
  comes : (r : Request) → r.poster ≡ Some h → y.queue ≡ x.queue ++ r ∷ [] → QueueMoves h k x y
  falls : y.queue ≡ [] → is_some y.failure ≡ true → QueueMoves h k x y

-- Each queue changes in this way, so its requests are taken at most once and in order.
abbrev pub QueuesAreInOrder : Type 0
QueuesAreInOrder = (most : ℕ) (s : System) (h : ℕ) (w : World) (k : ℕ) → k < w.count
    → QueueMoves h k (w.handlers k) ((turn most s h w).handlers k)

-- ---- kept for the request

-- While a handler has a request, in its queue, as its callback or on its stack, it may not be reserved.
abbrev pub TargetsAreKept : World → Type 0
TargetsAreKept w = (k : ℕ) (r : Request) → Contains (requests_at (w.handlers k)) r
    → may_be_reserved (standing_in w k) (w.rights.queue k) ≡ false

-- ---- the chain

-- If `p` waits for `k` and none of the chain of `p` has failed, one of the chain may post to `k` or push on its
-- waiting stack.
abbrev pub ChainsHold : World → Type 0
ChainsHold w =
    (p k : ℕ) → WaitsFor w p k → ((z : ℕ) → InChain w p z → (w.handlers z).failure ≡ None)
    → (z : ℕ) × ((w.rights.queue k ≡ Some z) ⊎ (w.rights.top k ≡ Some z)) × InChain w p z

-- ---- held while it runs

abbrev pub is_awaiting : Stage → Bool
is_awaiting (Awaits k gives is_creation) = true
is_awaiting Runs = false
is_awaiting Reserves = false
is_awaiting ReservesBlock = false
is_awaiting (InCall gives) = false

-- If the topmost frame of a handler doesn't wait for an answer, the handler may post to all handlers that the
-- frame's entry and its open blocks newly reserved.
abbrev pub ReservedAreHeld : World → Type 0
ReservedAreHeld w =
    (h k : ℕ) (f : Frame) (below : List Frame) (ks : List ℕ) → (w.handlers h).failure ≡ None
    → (w.handlers h).stack ≡ f ∷ below
    → is_awaiting f.stage ≡ false → Contains (f.reserved ∷ f.blocks) ks → Contains ks k → w.rights.queue k ≡ Some h

-- ---- learning of failures

-- an answer that isn't a failure has come
abbrev pub has_reply : Option Answer → Bool
has_reply None = false
has_reply (Some (Reply v)) = true
has_reply (Some Failed) = false
has_reply (Some Refused) = true

-- The handler awaits an answer of `k`: one of its lower frames does, or its topmost frame does and no reply has
-- come.
pub data AwaitsAnswer (x : Handler) (k : ℕ) : Type 0 where
  topmost : {f : Frame} {below : List Frame} {gives : Option EntityType} {is_creation : Bool}
      → x.stack ≡ f ∷ below → f.stage ≡ Awaits k gives is_creation → has_reply x.answer ≡ false → AwaitsAnswer x k
  lower : {f g : Frame} {below : List Frame} {gives : Option EntityType} {is_creation : Bool}
      → x.stack ≡ g ∷ below → Contains below f → f.stage ≡ Awaits k gives is_creation → AwaitsAnswer x k

-- A handler that awaits an answer of one that has failed learns of the failure.
abbrev pub WaitersAreTold : World → Type 0
WaitersAreTold w = (p k : ℕ) → AwaitsAnswer (w.handlers p) k → is_some (w.handlers k).failure ≡ true
    → (w.handlers p).answer ≡ Some Failed

-- A handler learns of a failure only if it waits for a handler that has failed.
abbrev pub OnlyWaitersAreTold : World → Type 0
OnlyWaitersAreTold w = (p : ℕ) → (w.handlers p).answer ≡ Some Failed
    → (k : ℕ) × WaitsFor w p k × (is_some (w.handlers k).failure ≡ true)

-- ---- one answer

-- No handler has both a callback and a reply.
abbrev pub CallbacksComeFirst : World → Type 0
CallbacksComeFirst w = (k : ℕ) (r : Request) → (w.handlers k).callback ≡ Some r
    → has_reply (w.handlers k).answer ≡ false

-- When a request that is waited for may end, its poster has no reply.
abbrev pub RepliesMeetNone : World → Type 0
RepliesMeetNone w =
    (h p : ℕ) (f : Frame) (below : List Frame) (r : Request) → (w.handlers h).failure ≡ None
    → (w.handlers h).stack ≡ f ∷ below
    → is_awaiting f.stage ≡ false → f.blocks ≡ [] → f.origin ≡ Requested r → r.is_waited ≡ true → r.poster ≡ Some p
    → (w.handlers p).failure ≡ None
    → has_reply (w.handlers p).answer ≡ false

-- ---- each state that is reached

-- A lawful world of rights represents the state: all of the above follows from it.
abbrev pub HasTrails : World → Type 0
HasTrails w = (t : rights.World) × IsLawful t × Stands t w

abbrev pub InEachReached : (World → Type 0) → Type 0
InEachReached P = (most : ℕ) (s : System) (root : Root) (w : World) → IsReached most s root w → P w
