-- What a handler gives back at the end of a request, or once a handler was made for it, is its own; and who waits for the
-- end of a request.
use Rattle.std.specs.Prelude.{◌≡◌, ◌⊎◌, ◌<◌, ◌&&◌, ℕ, Bool, List, ◌∷◌, Option, Some, None, true}
use Rattle.std.specs.List.{list_any}
use Rattle.std.specs.Option.{is_none}
use Rattle.arrayvec.specs.ArrayVec.{ArrayVec}
use Rattle.sc_lockpass.specs.Passing.{Passed}
use Rattle.sc_lockpass.specs.declared.version.Version.{Version}
use Rattle.sc_code.specs.declared.program.Image.{Image}
use Rattle.sc_code.specs.Programs.{IsProgramOf}
use Rattle.sc_code.specs.RequestRoom.{FitsRequests}
use Rattle.sc_region.specs.declared.value.Value.{Value}
use Rattle.sc_region.specs.declared.job.Job.{Job}
use Rattle.sc_region.specs.declared.job.Job.TheVariants as job
use Rattle.sc_region.specs.declared.job.Want.{Want}
use Rattle.sc_region.specs.declared.job.Want.TheVariants as want
use Rattle.sc_handler.specs.Changes.{is_waited_by, requests_at}
use Rattle.sc_handler.specs.Handlers.{Awaits, Idle, Posted, Service, State, SupplierFailed}
use Rattle.sc_handler.specs.Fits.{fits_first}
use Rattle.sc_handler.specs.Picking.{job_of}
use Rattle.sc_request.specs.Settling.{begun}
use Rattle.sc_machine_laws.specs.states.Values.{WhereAccepted}
use Rattle.sc_world.specs.Turning.{Makes}
use Rattle.sc_world.specs.Worlds.{PlainWorld}
use Rattle.sc_refines_world.specs.Anew.{IsPlayed}

-- p waits for the request, with which it passed nothing
abbrev pub is_unlent_of : ℕ → Posted → Bool
is_unlent_of p q = is_waited_by p q && is_none q.passed

-- p waits for such a request at g
abbrev pub waits_unlent : ℕ → ℕ → State → Bool
waits_unlent p g s = list_any (is_unlent_of p) (requests_at (s.handlers g))

-- p awaits the answer of g. Neither a callback nor an answer has come, but perhaps that a supplier has failed.
pub record HearsNothing (p g : ℕ) (s : State) : Type 0 where
  pub is_creation : Bool
  pub awaits : (s.handlers p).stage ≡ Awaits g is_creation
  pub no_callback : (s.handlers p).callback ≡ None
  pub answer : ((s.handlers p).answer ≡ None) ⊎ ((s.handlers p).answer ≡ Some SupplierFailed)

-- If the handler has this to do and its turn asks this, it may post to the handler that was made for it; and if a request
-- ends, to each handler that was passed with it. If the poster of that request waits for one with which it
-- passed nothing, and has no answer yet, it waits for one here.
pub record ReturnsOwn (h : ℕ) (j : Job) (w : Want) (s : State) : Type 0 where
  pub made : (i k : ℕ) (c : Bool) → (s.handlers h).stage ≡ Awaits i c → j ≡ job.Made k → s.rights.queue i ≡ Some h
  pub returns : fits_first (s.handlers h).stage j w ≡ true →
      (v : Option Value) (ls : ArrayVec ℕ) (refused : Bool) → w ≡ want.Done v ls refused →
      (e : Service) (es : List Service) → ((begun h j s).handlers h).services ≡ e ∷ es →
      (p : Passed) → e.posted.passed ≡ Some p →
      (k : ℕ) (o : Option ℕ) → p.queue k ≡ Some o → s.rights.queue k ≡ Some h
  pub answers : fits_first (s.handlers h).stage j w ≡ true →
      (v : Option Value) (ls : ArrayVec ℕ) (refused : Bool) → w ≡ want.Done v ls refused →
      (e : Service) (es : List Service) → ((begun h j s).handlers h).services ≡ e ∷ es →
      (p : ℕ) → e.posted.request.is_waited ≡ true → e.posted.request.poster ≡ Some p →
      (s.handlers p).failure ≡ None → (s.handlers p).answer ≡ None → (g : ℕ) → waits_unlent p g s ≡ true → h ≡ g

-- Nobody may push on the waiting stack of a handler that has no frames and hasn't failed.
abbrev pub IdleHasNoTop : State → Type 0
IdleHasNoTop s = (k : ℕ) → (s.handlers k).failure ≡ None → (s.handlers k).stage ≡ Idle → s.rights.top k ≡ None

-- Who waits for a request with which it passed nothing is there, and if it hasn't failed, it has heard nothing.
abbrev pub UnlentWait : State → Type 0
UnlentWait s = (p g : ℕ) → waits_unlent p g s ≡ true → (p < s.count) × ((s.handlers p).failure ≡ None → HearsNothing p g s)

-- So it is in each world that turns lead to from the opening of the program.
abbrev pub IdleHaveNoTops : Image → Version → Type 0
IdleHaveNoTops p v = (x : PlainWorld) → IsPlayed p v x → IdleHasNoTop x.center.state

abbrev pub NoIdleIsPushed : Type 0
NoIdleIsPushed = WhereAccepted λ s root. (p : Image) (v : Version) → IsProgramOf s root p → FitsRequests p → IdleHaveNoTops p v

-- So it is in each world that turns lead to from the opening of the program.
abbrev pub UnlentWaits : Image → Version → Type 0
UnlentWaits p v = (x : PlainWorld) → IsPlayed p v x → UnlentWait x.center.state

abbrev pub AllUnlentWait : Type 0
AllUnlentWait = WhereAccepted λ s root. (p : Image) (v : Version) → IsProgramOf s root p → FitsRequests p → UnlentWaits p v

-- So it is in each world that turns lead to from the opening of the program.
abbrev pub ReturnsAreOwn : Image → Version → Type 0
ReturnsAreOwn p v = (h : ℕ) (j : Job) (x y : PlainWorld) → IsPlayed p v x → job_of h x.center.state ≡ Some j →
    (m : Makes 1 h j 1 x y) → ReturnsOwn h j m.settles.outcome.want x.center.state

abbrev pub AllReturnOwn : Type 0
AllReturnOwn = WhereAccepted λ s root. (p : Image) (v : Version) → IsProgramOf s root p → FitsRequests p → ReturnsAreOwn p v
