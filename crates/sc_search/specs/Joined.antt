-- Turns that are joined with the one before them.
use Rattle.std.specs.Prelude.{◌≡◌, ◌≤◌, ◌&&◌, ◌||◌, ◌==◌, ℕ, Bool, not, true, false, List, [], ◌∷◌, Option, Some, None, length, slice_get}
use Rattle.std.specs.List.{list_any}
use Rattle.std.specs.Option.{is_none}
use Rattle.sc_lockpass.specs.Rights.{is_handler}
use Rattle.sc_lockpass.specs.wait_conditions.Reservations.{is_idle}
use Rattle.sc_region.specs.declared.job.Job.{Job}
use Rattle.sc_region.specs.declared.job.Job.TheVariants as job
use Rattle.sc_region.specs.declared.job.Outcome.{Outcome}
use Rattle.sc_region.specs.declared.job.Want.{Want}
use Rattle.sc_region.specs.declared.job.Want.TheVariants as want
use Rattle.sc_handler.specs.Changes.{is_waited_by}
use Rattle.sc_handler.specs.Fits.{is_none_of}
use Rattle.sc_handler.specs.Handlers.{Posted, Service, State, has_frames, standing_in}
use Rattle.sc_play.specs.Regions.{PlainRegion, Plays}
use Rattle.sc_request.specs.Logs.{pick_for}
use Rattle.sc_request.specs.Settling.{are_handlers, may_ask, may_post_to_all}
use Rattle.sc_world.specs.Turning.{IsTurn}
use Rattle.sc_world.specs.Worlds.{PlainWorld}

-- ---- of a handler that goes on with its routine

-- The handler has no frames and no requests, and hasn't failed.
abbrev pub is_free : ℕ → State → Bool
is_free k s = is_idle (standing_in s k) && not (standing_in s k).has_requests

-- The handler h asks the other one, which is free, and to which it alone may post.
abbrev pub asks_free : ℕ → ℕ → State → Bool
asks_free h k s = is_handler h (s.rights.queue k) && is_free k s

-- Nothing was passed with the request that was taken last, and if it ends refused, its poster waits, and hears of it.
abbrev pub ends_plainly : Bool → List Service → Bool
ends_plainly refused [] = false
ends_plainly refused (e ∷ es) = is_none e.posted.passed && (not refused || e.posted.request.is_waited)

-- The turn of a handler that goes on with its routine may follow at once if it wants this: nothing; or to stand before its
-- reserve step; or to release handlers that are its own, at the end of a block or of a call of its own; or to wait, since a
-- wait condition is false, which releases what is its own; or to ask a free handler, without lock passing; or to end a
-- request plainly.
abbrev pub goes_at_once : ℕ → Want → State → Bool
goes_at_once h want.Continue s = true
goes_at_once h (want.Reserve ks) s = are_handlers ks.items s
goes_at_once h (want.Post r) s = may_ask h (want.Post r) s && asks_free h r.target.handler s
goes_at_once h (want.Ask r true) s = false
goes_at_once h (want.Ask r false) s = may_ask h (want.Ask r false) s && asks_free h r.target.handler s
goes_at_once h (want.Release ks) s = may_post_to_all h ks.items s
goes_at_once h (want.Wait ks) s = may_post_to_all h ks.items s
goes_at_once h (want.Done v ks refused) s = may_post_to_all h ks.items s && ends_plainly refused (s.handlers h).services
goes_at_once h w s = false

-- ---- of a handler that takes a request of its queue

-- p waits for the request, with which it passed nothing
abbrev pub is_unlent_of : ℕ → Posted → Bool
is_unlent_of p q = is_waited_by p q && is_none q.passed

-- No other handler may post to this one before it has taken a request of its queue: nobody else has the right, or who has
-- it waits for one of these, with which it passed nothing.
abbrev pub is_uncontested_by : ℕ → Option ℕ → List Posted → Bool
is_uncontested_by h None ps = true
is_uncontested_by h (Some p) ps = p == h || list_any (is_unlent_of p) ps

abbrev pub is_uncontested : ℕ → State → Bool
is_uncontested h s = is_uncontested_by h (s.rights.queue h) (s.handlers h).queue

-- nothing was passed with the first of these
abbrev pub is_next_plain : List Posted → Bool
is_next_plain [] = false
is_next_plain (q ∷ qs) = is_none q.passed

-- The turn that takes a request may follow at once if it wants this: the body begins, or its reserve step is to come; or
-- the request is served, and nothing was passed with it.
abbrev pub takes_at_once : ℕ → Want → State → Bool
takes_at_once h want.Continue s = true
takes_at_once h (want.Reserve ks) s = are_handlers ks.items s
takes_at_once h (want.Done v ks false) s = is_none_of ks.items && is_next_plain (s.handlers h).queue
takes_at_once h (want.Done v ks true) s = false
takes_at_once h w s = false

-- ---- under either job

-- Under the job the handler goes on with its routine; or it has no frames, takes a request, and is uncontested.
abbrev pub is_ready : ℕ → Job → State → Bool
is_ready h job.Go s = true
is_ready h (job.Take r) s = not (has_frames (s.handlers h).stage) && is_uncontested h s
is_ready h j s = false

-- Its turn may follow at once if it wants this.
abbrev pub may_follow : ℕ → Job → Want → State → Bool
may_follow h job.Go w s = goes_at_once h w s
may_follow h (job.Take r) w s = takes_at_once h w s
may_follow h j w s = false

-- What the region wants under the job may follow at once in this state.
pub record WantsToFollow (h : ℕ) (j : Job) (s : State) (x : PlainRegion) : Type 0 where
  pub after : PlainRegion
  pub outcome : Outcome
  pub plays : Plays 1 j x after outcome
  pub follows : may_follow h j outcome.want s ≡ true

-- The next turn of the handler may follow at once: it goes on with its routine, or takes a request, and asks nothing of
-- others but of a free one.
pub record FollowsAtOnce (h : ℕ) (w : PlainWorld) : Type 0 where
  pub job : Job
  pub due : pick_for h w.center ≡ Some job
  pub ready : is_ready h job w.center.state ≡ true
  pub region : PlainRegion
  pub stands : slice_get w.regions h ≡ Some region
  pub wants : WantsToFollow h job w.center.state region

-- ---- turns that are joined

-- Turns of these handlers, each of which may follow at once, lead from the first world to the second.
abbrev pub GoesOn : List ℕ → PlainWorld → PlainWorld → Type 0
GoesOn [] x y = y ≡ x
GoesOn (h ∷ hs) x y = FollowsAtOnce h x × (z : PlainWorld) × IsTurn h x z × GoesOn hs z y

-- So do turns of some handlers, at most this number of them.
pub record GoesOnUpTo (most : ℕ) (x y : PlainWorld) : Type 0 where
  pub handlers : List ℕ
  pub few : length handlers ≤ most
  pub goes_on : GoesOn handlers x y

-- A turn of the handler leads from the first world to the second, joined with others that may follow at once, of any
-- handlers, at most this number of them.
pub record IsJoinedTurn (most h : ℕ) (x y : PlainWorld) : Type 0 where
  pub next : PlainWorld
  pub turn : IsTurn h x next
  pub on : GoesOnUpTo most next y
