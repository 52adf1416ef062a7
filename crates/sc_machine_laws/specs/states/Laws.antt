-- What follows for every state that is reached.
use Rattle.std.specs.Prelude.{ℕ, ◌≡◌, ◌≢◌, ◌⊎◌, ◌↔◌, List, [], ◌∷◌, Some, None, true, false}
use Rattle.sc_lockpass.specs.Passing as passing
use Rattle.sc_lockpass.specs.Passing.{Passed}
use Rattle.sc_machine_laws.specs.states.World.{Wait, Request, Reservation, Frame, World, holder, rights_of, give_back, fail, requests_of}
use Rattle.sc_machine_laws.specs.states.Steps.{IsActive, IsTold, IsIdle, answered, Holds, Ends, MayFail, EachHeld, Step}
use Rattle.sc_machine_laws.specs.states.Consistent.{StackWaits, IsOpen, IsOne}
use Rattle.sc_machine_laws.specs.states.Chains.{WaitsOn, InChain}
use Rattle.sc_machine_laws.specs.states.Lawful.{IsLawful, IsReached}

-- Each step keeps the law, and so the law holds in every state that is reached.
abbrev pub StepsAreLawful : Type 0
StepsAreLawful = (w v : World) → IsLawful w → Step w v → IsLawful v

abbrev pub ReachedAreLawful : Type 0
ReachedAreLawful = (w : World) → IsReached w → IsLawful w

-- ---- posted under a right, and taken in order

-- A request that a step adds to a handler is new, and its poster held that handler before the step.
abbrev pub PostedUnderRight : Type 0
PostedUnderRight =
    (w v : World) → IsLawful w → Step w v → (k : ℕ) (r : Request) → IsOne r (requests_of (v.handlers k))
    → IsOne r (requests_of (w.handlers k)) ⊎ ((r.number ≡ w.next) × Holds w r.poster k)

-- ---- kept for the request

-- While a handler has a request, it may not be reserved.
abbrev pub KeptForRequest : Type 0
KeptForRequest = (w : World) → IsLawful w → (k : ℕ) (r : Request) → IsOne r (requests_of (w.handlers k)) → IsIdle k w
    → ⊥

-- ---- the chain

-- If `p` waits for `k`, one of the chain of `p` may post to `k` or push on its waiting stack, or has failed.
abbrev pub ChainsHold : World → Type 0
ChainsHold w =
    (p k : ℕ) → WaitsOn w p k
    → (z : ℕ) × ((holder (w.queue k) ≡ Some z) ⊎ ((holder (w.top k) ≡ Some z) ⊎ ((w.handlers z).failed ≡ true)))
    × InChain w p z

-- If none of the chain has failed, one of it holds the target.
abbrev pub ChainHolds : Type 0
ChainHolds =
    (w : World) → IsLawful w → (p k : ℕ) → WaitsOn w p k → ((z : ℕ) → InChain w p z → (w.handlers z).failed ≡ false)
    → (z : ℕ) × Holds w z k × InChain w p z

-- ---- held while it runs

-- The frame is the topmost, or no request began the frames above it: they are its own calls and its open blocks.
abbrev pub RunsIn : Frame → List Frame → Type 0
RunsIn f [] = ⊥
RunsIn f (g ∷ fs) = (g ≡ f) ⊎ ((g.origin ≡ None) × RunsIn f fs)

-- A handler that goes on holds what these frames need.
abbrev pub HeldWhileItRuns : Type 0
HeldWhileItRuns =
    (w : World) → IsLawful w → (p : ℕ) (f : Frame) → IsActive (w.handlers p) → RunsIn f (w.handlers p).stack
    → EachHeld w p f.needs

-- `p` may post to each handler of these reservations.
abbrev pub EachGranted : World → ℕ → List Reservation → Type 0
EachGranted w p [] = Unit {0}
EachGranted w p (r ∷ rs) = (holder (w.queue r.handler) ≡ Some p) × EachGranted w p rs

abbrev pub ReservedWhileItRuns : Type 0
ReservedWhileItRuns =
    (w : World) → IsLawful w → (p : ℕ) (f : Frame) → IsActive (w.handlers p) → RunsIn f (w.handlers p).stack
    → EachGranted w p f.reserved

-- ---- learning of failures

-- A handler learns of a failure if it has an open wait for one that has failed, and only if it waits for one.
abbrev pub Told : Type 0
Told =
    (w : World) → IsLawful w → (p : ℕ)
    → ((v : Wait) → IsOpen v (w.handlers p) → (w.handlers v.target).failed ≡ true → IsTold (w.handlers p))
    × (IsTold (w.handlers p) → (v : Wait) × StackWaits v (w.handlers p).stack × ((w.handlers v.target).failed ≡ true))

-- If `h` fails, the handlers that wait for `h` learn of it, and no other handler does.
abbrev pub FailureTells : Type 0
FailureTells =
    (w : World) → IsLawful w → (h : ℕ) → MayFail h w → (p : ℕ) → p ≢ h
    → IsTold ((fail h w).handlers p) ↔ (IsTold (w.handlers p) ⊎ ((v : Wait) × IsOpen v (w.handlers p) × (v.target ≡ h)))

-- ---- one answer

-- When a request ends, its poster has no answer yet, unless the poster has failed or has learned of a failure.
abbrev pub OneAnswer : Type 0
OneAnswer =
    (w : World) → IsLawful w → (h : ℕ) (r : Request) → Ends h r w → (w.handlers r.poster).failed ≡ false
    → ((w.handlers r.poster).answer ≡ None) ⊎ IsTold (w.handlers r.poster)

-- No handler has both a callback and a reply.
abbrev pub CallbackFirst : Type 0
CallbackFirst = (w : World) → IsLawful w → (k : ℕ) (r : Request) → (w.handlers k).callback ≡ Some r
    → answered (w.handlers k).answer ≡ false

-- ---- what is given back

-- When a request ends, exactly the rights return that were listed when it was posted.
abbrev pub ListedReturns : Type 0
ListedReturns =
    (w : World) → IsLawful w → (h : ℕ) (r : Request) (p : Passed) → Ends h r w → r.passed ≡ Some p
    → passing.give_back p (rights_of w) ≡ rights_of (give_back r.number w)
