-- The steps of a world of rights. A turn of the machine is a sequence of these steps, perhaps an empty one.
use Rattle.std.specs.Prelude.{ℕ, ◌≡◌, ◌≢◌, ◌⊎◌, Bool, true, false, List, [], ◌∷◌, Option, Some, None}
use Rattle.sc_machine_laws.specs.states.World.{Wait, Request, Reservation, Frame, Answer, SupplierFailed, Handler, World, holder, post, ask, ask_passing, take_request, take_callback, enter, take_answer, reserve, settle, release, pop, finish, fail}

-- ---- the conditions of steps

abbrev pub waits_for : List Frame → Option Wait
waits_for [] = None
waits_for (f ∷ fs) = f.waits

-- The handler has not failed, and doesn't wait for an answer.
abbrev pub IsActive : Handler → Type 0
IsActive g = (g.failed ≡ false) × (waits_for g.stack ≡ None)

abbrev pub IsTold : Handler → Type 0
IsTold g = g.answer ≡ Some SupplierFailed

-- An answer has come that isn't a failure.
abbrev pub answered : Option Answer → Bool
answered None = false
answered (Some Answer.Reply) = true
answered (Some Answer.Refused) = true
answered (Some SupplierFailed) = false

-- h may post to k, or push on its waiting stack
abbrev pub Holds : World → ℕ → ℕ → Type 0
Holds w h k = (holder (w.queue k) ≡ Some h) ⊎ (holder (w.top k) ≡ Some h)

-- The topmost frame has released what it reserved.
abbrev pub HasReleased : List Frame → Type 0
HasReleased [] = Unit {0}
HasReleased (f ∷ fs) = f.reserved ≡ []

-- h may ask k
pub record MayAsk (h k : ℕ) (w : World) : Type 0 where
  pub active : IsActive (w.handlers h)
  pub other : k ≢ h
  pub runs : (f : Frame) × (fs : List Frame) × ((w.handlers h).stack ≡ f ∷ fs)
  pub lives : (w.handlers k).failed ≡ false
  pub right : Holds w h k

-- k may be reserved
pub record IsIdle (k : ℕ) (w : World) : Type 0 where
  pub lives : (w.handlers k).failed ≡ false
  pub stack : (w.handlers k).stack ≡ []
  pub requests : (w.handlers k).requests ≡ []
  pub nobodys : w.queue k ≡ []

-- `r` is waited for, and the topmost frame of `h`, which goes on, is the routine of `r`.
pub record Ends (h : ℕ) (r : Request) (w : World) : Type 0 where
  pub active : IsActive (w.handlers h)
  pub frame : Frame
  pub below : List Frame
  pub stack : (w.handlers h).stack ≡ frame ∷ below
  pub begun : frame.origin ≡ Some r
  pub waited : r.waited ≡ true

-- The end of the frame answers no handler: the frame is an own call, or its request is one that no handler waits
-- for.
abbrev pub AnswersNobody : Option Request → Type 0
AnswersNobody None = Unit {0}
AnswersNobody (Some r) = r.waited ≡ false

-- h may fail: it goes on, or takes the answer that its supplier has failed
pub record MayFail (h : ℕ) (w : World) : Type 0 where
  pub lives : (w.handlers h).failed ≡ false
  pub why : (waits_for (w.handlers h).stack ≡ None) ⊎ IsTold (w.handlers h)

abbrev pub EachHeld : World → ℕ → List ℕ → Type 0
EachHeld w h [] = Unit {0}
EachHeld w h (k ∷ ks) = Holds w h k × EachHeld w h ks

-- ---- the steps

pub data Step (w : World) : World → Type 0 where
  Posts : (h k : ℕ) → IsActive (w.handlers h) → Holds w h k → (w.handlers k).failed ≡ false → Step w (post h k w)
  Asks : (h k : ℕ) → MayAsk h k w → Step w (ask h k w)
  AsksPassing : (h k : ℕ) → MayAsk h k w → Step w (ask_passing h k w)
  Takes : (h : ℕ) (r : Request) (rs : List Request) → (w.handlers h).failed ≡ false → (w.handlers h).stack ≡ []
      → (w.handlers h).requests ≡ r ∷ rs → Step w (take_request h r w)
  CallsBack : (h : ℕ) (r : Request) → (w.handlers h).failed ≡ false → (w.handlers h).callback ≡ Some r
      → Step w (take_callback h r w)
  Enters : (h : ℕ) → IsActive (w.handlers h) → Step w (enter h w)
  Answers : (h : ℕ) (v : Wait) → (w.handlers h).failed ≡ false → waits_for (w.handlers h).stack ≡ Some v
      → answered (w.handlers h).answer ≡ true → Step w (take_answer h w)
  Reserves : (h k : ℕ) (f : Frame) (fs : List Frame) → IsActive (w.handlers h) → (w.handlers h).stack ≡ f ∷ fs
      → IsIdle k w → Step w (reserve h k w)
  Settles : (h : ℕ) (f : Frame) (fs : List Frame) (ks : List ℕ) → IsActive (w.handlers h)
      → (w.handlers h).stack ≡ f ∷ fs → EachHeld w h ks → Step w (settle h ks w)
  Releases : (h : ℕ) (r : Reservation) (rs : List Reservation) (f : Frame) (fs : List Frame) → IsActive (w.handlers h)
      → (w.handlers h).stack ≡ f ∷ fs → f.reserved ≡ r ∷ rs → Step w (release h r.handler rs w)
  Pops : (h : ℕ) (f : Frame) (fs : List Frame) → IsActive (w.handlers h) → (w.handlers h).stack ≡ f ∷ fs
      → f.reserved ≡ [] → AnswersNobody f.origin → Step w (pop h w)
  Finishes : (a : Answer) (h : ℕ) (r : Request) → answered (Some a) ≡ true → Ends h r w
      → HasReleased (w.handlers h).stack → Step w (finish a h r w)
  Fails : (h : ℕ) → MayFail h w → Step w (fail h w)

-- a sequence of steps, perhaps an empty one
pub data Steps : World → World → Type 0 where
  Still : (w : World) → Steps w w
  Then : (w v u : World) → Step w v → Steps v u → Steps w u
