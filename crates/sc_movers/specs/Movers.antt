-- Turns that may be played at once, before any turn of other handlers: movers.
use Rattle.std.specs.Prelude.{◌≡◌, ◌&&◌, ◌||◌, ◌==◌, ℕ, Bool, not, true, false, List, [], ◌∷◌, Option, Some, None}
use Rattle.std.specs.List.{list_any}
use Rattle.std.specs.Option.{is_none}
use Rattle.sc_lockpass.specs.Rights.{is_handler}
use Rattle.sc_lockpass.specs.wait_conditions.Reservations.{is_idle}
use Rattle.sc_lockpass.specs.declared.version.Version.{Version}
use Rattle.sc_code.specs.declared.program.Image.{Image}
use Rattle.sc_code.specs.Programs.{IsProgramOf}
use Rattle.sc_code.specs.RequestRoom.{FitsRequests}
use Rattle.sc_region.specs.declared.job.Job.{Job}
use Rattle.sc_region.specs.declared.job.Job.TheVariants as job
use Rattle.sc_region.specs.declared.job.Want.{Want}
use Rattle.sc_region.specs.declared.job.Want.TheVariants.{Continue, Reserve, Post, Ask, Release, Wait, Done}
use Rattle.sc_handler.specs.Fits.{is_none_of}
use Rattle.sc_handler.specs.Handlers.{Posted, Service, State, has_frames, standing_in}
use Rattle.sc_handler.specs.Picking.{job_of}
use Rattle.sc_request.specs.Settling.{are_handlers, may_ask, may_post_to_all}
use Rattle.sc_machine_laws.specs.states.Values.{WhereAccepted}
use Rattle.sc_orders.specs.Movers.{AreMovers, IsMachine}
use Rattle.sc_world.specs.Kept.{PlainKept, kept}
use Rattle.sc_world.specs.Turning.{Makes}
use Rattle.sc_world.specs.Worlds.{PlainWorld}
use Rattle.sc_refines_world.specs.Anew.{IsPlayed}
use Rattle.sc_movers.specs.Kept.{IsReached, Turn, has_failed, has_turn, never}
use Rattle.sc_movers.specs.Returned.{is_unlent_of}

-- The handler has no frames and no requests, and hasn't failed.
abbrev pub is_free : ℕ → State → Bool
is_free k s = is_idle (standing_in s k) && not (standing_in s k).has_requests

-- The handler h asks the other one, which is free, and to which it alone may post.
abbrev pub asks_free : ℕ → ℕ → State → Bool
asks_free h k s = is_handler h (s.rights.queue k) && is_free k s

-- Nothing was passed with the request that was taken last, and if it ends refused, its poster waits, and hears of it.
abbrev pub ends_plainly : Bool → List Service → Bool
ends_plainly refused [] = false
ends_plainly refused (e ∷ es) = is_none e.posted.passed && (not refused || e.posted.request.is_waited)

-- The turn of a handler that goes on with its routine is a mover if it wants this: nothing, as it prints, goes round in a
-- loop, starts a body, or makes, reads or calls an object of its own; or to stand before its reserve step; or to release
-- handlers that are its own, at the end of a block or of a call of its own; or to wait, since a wait condition is false,
-- which releases what is its own; or to ask a free handler, without lock passing; or to end a request plainly.
abbrev pub is_mover : ℕ → Want → State → Bool
is_mover h Continue s = true
is_mover h (Reserve ks) s = are_handlers ks.items s
is_mover h (Post r) s = may_ask h (Post r) s && asks_free h r.target.handler s
is_mover h (Ask r true) s = false
is_mover h (Ask r false) s = may_ask h (Ask r false) s && asks_free h r.target.handler s
is_mover h (Release ks) s = may_post_to_all h ks.items s
is_mover h (Wait ks) s = may_post_to_all h ks.items s
is_mover h (Done v ks refused) s = may_post_to_all h ks.items s && ends_plainly refused (s.handlers h).services
is_mover h want s = false

-- No other handler may post to this one before it has taken a request of its queue: nobody else has the right, or who has
-- it waits for one of these, with which it passed nothing.
abbrev pub is_uncontested_by : ℕ → Option ℕ → List Posted → Bool
is_uncontested_by h None ps = true
is_uncontested_by h (Some p) ps = p == h || list_any (is_unlent_of p) ps

abbrev pub is_uncontested : ℕ → State → Bool
is_uncontested h s = is_uncontested_by h (s.rights.queue h) (s.handlers h).queue

-- nothing was passed with the first of these
abbrev pub is_next_plain : List Posted → Bool
is_next_plain [] = false
is_next_plain (q ∷ qs) = is_none q.passed

-- The turn of a handler that has no frames and takes a request is a mover if it wants this, and is uncontested: the body
-- begins, or its reserve step is to come; or it has served the request, with which nothing was passed.
abbrev pub takes_first : ℕ → Want → State → Bool
takes_first h Continue s = true
takes_first h (Reserve ks) s = are_handlers ks.items s
takes_first h (Done v ks false) s = is_none_of ks.items && is_next_plain (s.handlers h).queue
takes_first h (Done v ks true) s = false
takes_first h want s = false

-- The turn under the job is a mover if it wants this.
abbrev pub is_mover_under : ℕ → Job → Want → State → Bool
is_mover_under h job.Go want s = is_mover h want s
is_mover_under h (job.Take r) want s = not (has_frames (s.handlers h).stage) && is_uncontested h s && takes_first h want s
is_mover_under h j want s = false

-- The turn of the handler is a mover.
pub record IsMoverTurn (h : ℕ) (x y : PlainWorld) : Type 0 where
  pub job : Job
  pub due : job_of h x.center.state ≡ Some job
  pub makes : Makes 1 h job 1 x y
  pub moves : is_mover_under h job makes.settles.outcome.want x.center.state ≡ true

-- So is its turn in a world of which this is kept.
pub record IsMover (p : Image) (v : Version) (h : ℕ) (k : PlainKept) : Type 0 where
  pub before : PlainWorld
  pub after : PlainWorld
  pub played : IsPlayed p v before
  pub kept_is : kept before ≡ k
  pub own : IsMoverTurn h before after

-- There are as many handlers after the turn of one as before. Each has failed or not, and has refused, as before, and
-- each other one stands where it stood.
pub record StaysSeen (h : ℕ) (x y : PlainWorld) : Type 0 where
  pub count : y.center.state.count ≡ x.center.state.count
  pub failure : (k : ℕ) → (y.center.state.handlers k).failure ≡ (x.center.state.handlers k).failure
  pub refused : (k : ℕ) → (y.center.state.handlers k).refused ≡ (x.center.state.handlers k).refused
  pub others : (k : ℕ) → (k ≡ h → ⊥) → (y.center.state.handlers k).stage ≡ (x.center.state.handlers k).stage

-- In the program of an accepted system, what is kept of worlds are the states of a machine, and movers are movers in it,
-- wherever handlers have failed or not. What is seen of the others stays.
pub record Movers (p : Image) (v : Version) : Type 0 where
  pub machine : IsMachine (Turn p v) has_turn has_failed (IsReached p v)
  pub movers : AreMovers (Turn p v) has_turn has_failed (IsReached p v) (IsMover p v)
  pub whole_machine : IsMachine (Turn p v) has_turn never (IsReached p v)
  pub movers_anywhere : AreMovers (Turn p v) has_turn never (IsReached p v) (IsMover p v)
  pub played : (g : ℕ) (k : PlainKept) (m : IsMover p v g k) → IsPlayed p v m.after
  pub turn : (g : ℕ) (k : PlainKept) (m : IsMover p v g k) → Turn p v g k (kept m.after)
  pub stays : (g : ℕ) (k : PlainKept) (m : IsMover p v g k) → StaysSeen g m.before m.after

abbrev pub TurnsAreMovers : Type 0
TurnsAreMovers = WhereAccepted λ s root.
    (p : Image) (v : Version) → IsProgramOf s root p → FitsRequests p → Movers p v
