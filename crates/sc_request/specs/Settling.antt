-- What a settlement does: the core's half of what a turn does.
use Rattle.std.specs.Prelude.{ℕ, Bool, true, false, not, ◌&&◌, ◌||◌, List, [], ◌∷◌, Option, Some, None, is_some, length, nat_lt, if◌then◌else◌}
use Rattle.std.specs.List.{list_all}
use Rattle.arrayvec.specs.ArrayVec.{ArrayVec}
use Rattle.sc_lockpass.specs.Rights.{is_handler, held}
use Rattle.sc_lockpass.specs.wait_conditions.Reservations.{mark_of}
use Rattle.sc_lockpass.specs.declared.wait_conditions.session.Release.TheVariants as release_at
use Rattle.sc_model.specs.declared.cause.Cause.TheVariants as cause
use Rattle.sc_model.specs.Limits.{max_queue}
use Rattle.sc_region.specs.declared.value.Value.{Value}
use Rattle.sc_region.specs.declared.job.Errand.TheVariants.{Makes}
use Rattle.sc_region.specs.declared.job.Request.{Request}
use Rattle.sc_region.specs.declared.job.Job.{Job}
use Rattle.sc_region.specs.declared.job.Job.TheVariants as job
use Rattle.sc_region.specs.declared.job.Want.{Want}
use Rattle.sc_region.specs.declared.job.Want.TheVariants.{Continue, Reserve, Post, Ask, Create, Release, Wait, Done, Fail}
use Rattle.sc_handler.specs.Handlers.{posted, Replied, Refused, HandlerStage, Runs, HasMade, Reserves, Awaits, Service, Handler, State, put, with_stage}
use Rattle.sc_handler.specs.Changes.{takes, takes_answer, counted_refusal}
use Rattle.sc_handler.specs.Fits.{is_request_of, fits_turns}
use Rattle.sc_request.specs.Sessions.{reserve, release, passed_if, passes, send, is_callback, with_handler, finish, fail}

-- ---- the job begins

-- With the answer to a creation its creator releases the new handler. Else it goes on with that.
abbrev pub made_at : ℕ → HandlerStage → State → State
made_at h (Awaits k is_creation) s = release release_at.Creation (k ∷ []) (put h (takes_answer (s.handlers h)) s)
made_at h stage s = with_stage h Runs s

-- What was asked for is taken, or reserved.
abbrev pub begun : ℕ → Job → State → State
begun h (job.Take r) s = put h (takes (s.handlers h).stage (s.handlers h)) s
begun h (job.Reply v) s = put h (takes_answer (s.handlers h)) s
begun h job.Failed s = s
begun h job.Refused s = s
begun h (job.Granted ks) s = reserve h ks.items (with_stage h Runs s)
begun h (job.Made k) s = made_at h (s.handlers h).stage s
begun h job.Go s = s

-- ---- what a turn asks

abbrev pub reserves : ℕ → List ℕ → State → State
reserves h ks s = put h (record (s.handlers h) { stage = Reserves ks []; entry = ks }) s

-- The entry waits: what it newly reserved is released and marked, and its reserve step comes again.
abbrev pub waits_again : ℕ → List ℕ → State → State
waits_again h ks s =
    release release_at.FalseWaitCondition ks
    (with_stage h (Reserves (s.handlers h).entry (mark_of (λ k. (s.handlers k).sessions) ks)) s)

abbrev pub awaits_if : Bool → ℕ → ℕ → State → State
awaits_if false h k s = s
awaits_if true h k s = with_stage h (Awaits k false) s

-- The request is sent. One with lock passing and a callback are waited for, too.
abbrev pub sends : ℕ → ℕ → Request → Bool → Bool → State → State
sends h k r passing waits s =
    passes passing h k (send (is_callback h k s) k
    (posted (record r { is_waited = waits }) (passed_if passing h s.rights)) (awaits_if waits h k s))

-- The handler that is asked has not failed, and has room.
abbrev pub asks_of : ℕ → ℕ → Request → Bool → State → State
asks_of h k r passing s =
    if is_some (s.handlers k).failure then fail h cause.SupplierFailed s
    else if not (is_callback h k s) && not (nat_lt (length (s.handlers k).queue) max_queue)
    then fail h cause.QueueFull s
    else sends h k r passing (passing || r.is_waited || is_callback h k s) s

abbrev pub asks : ℕ → Request → Bool → State → State
asks h r passing s = asks_of h r.target.handler r passing s

-- the first request of a new handler
abbrev pub creation : ℕ → ℕ → ℕ → Option ℕ → ArrayVec Value → Bool → Request
creation h k class procedure actuals is_waited = record {
  poster = Some h;
  target = record { handler = k; number = 1; class = class };
  errand = Makes procedure;
  actuals = actuals;
  is_waited = is_waited;
}

-- With lock passing the creator waits, and releases the new handler with the answer; else it does so at once.
abbrev pub creates_with : Bool → ℕ → ℕ → Request → State → State
creates_with true h k r s =
    passes true h k (send false k (posted r (passed_if true h s.rights)) (with_stage h (Awaits k true) s))
creates_with false h k r s =
    release release_at.Creation (k ∷ []) (send false k (posted r None) (with_stage h (HasMade k) s))

-- There may be this many handlers.
abbrev pub creates : ℕ → ℕ → ℕ → Option ℕ → ArrayVec Value → Bool → State → State
creates most h class procedure actuals passing s =
    if nat_lt s.count most
    then creates_with passing h s.count (creation h s.count class procedure actuals passing) (with_handler s.count h s)
    else fail h cause.TooManyHandlers s

-- The request ends, with a value or none, or refused; what its entry newly reserved is released.
abbrev pub ends_service : Bool → ℕ → Option Value → List ℕ → Service → Handler → State → State
ends_service false h v ks e x s = finish e.posted (Replied v) (release release_at.Exit ks (put h x s))
ends_service true h v ks e x s =
    finish e.posted Refused (release release_at.Refusal ks (put h (counted_refusal e.posted.request.is_waited x) s))

abbrev pub ends : ℕ → Option Value → List ℕ → Bool → List Service → State → State
ends h v ks refused [] s = fail h cause.BadCode s
ends h v ks refused (e ∷ es) s =
    ends_service refused h v ks e (record (s.handlers h) { stage = e.over; services = es }) s

-- What comes of it. There may be this many handlers.
abbrev pub done : ℕ → ℕ → Want → State → State
done most h Continue s = s
done most h (Reserve ks) s = reserves h ks.items s
done most h (Post r) s = asks h r false s
done most h (Ask r passing) s = asks h r passing s
done most h (Create class procedure actuals passing) s = creates most h class procedure actuals passing s
done most h (Release ks) s = release release_at.Leave ks.items s
done most h (Wait ks) s = waits_again h ks.items s
done most h (Done v ks refused) s = ends h v ks.items refused (s.handlers h).services s
done most h (Fail why) s = fail h why s

-- ---- what a turn may ask

-- It sends a request to a handler that it doesn't hold.
abbrev pub posts_unheld : ℕ → Want → State → Bool
posts_unheld h (Post r) s = not (held s.rights h r.target.handler)
posts_unheld h (Ask r passing) s = not (held s.rights h r.target.handler)
posts_unheld h w s = false

-- all of these are the handler's
abbrev pub may_post_to_all : ℕ → List ℕ → State → Bool
may_post_to_all h ks s = list_all (λ k. is_handler h (s.rights.queue k)) ks

abbrev pub are_handlers : List ℕ → State → Bool
are_handlers ks s = list_all (λ k. nat_lt k s.count) ks

-- A turn may ask this.
abbrev pub may_ask : ℕ → Want → State → Bool
may_ask h (Reserve ks) s = are_handlers ks.items s
may_ask h (Post r) s = is_request_of h r && not r.is_waited
may_ask h (Ask r passing) s = is_request_of h r && r.is_waited
may_ask h (Release ks) s = may_post_to_all h ks.items s
may_ask h (Wait ks) s = may_post_to_all h ks.items s
may_ask h (Done v ks refused) s = may_post_to_all h ks.items s
may_ask h w s = true

-- ---- settlements

-- What fits no case fails the handler.
abbrev pub done_if : Bool → Bool → ℕ → ℕ → Want → State → State
done_if true fits most h w s = fail h cause.NotHeld s
done_if false true most h w s = done most h w s
done_if false false most h w s = fail h cause.BadCode s

abbrev pub asked_in : Bool → ℕ → ℕ → Want → State → State
asked_in fits most h w s = done_if (posts_unheld h w s) (fits && may_ask h w s) most h w s

-- The state after this number of turns of the handler under the job, the last of which wants this, with this limit
-- on handlers.
abbrev pub settled : ℕ → ℕ → Job → ℕ → Want → State → State
settled most h j turns w s = asked_in (fits_turns turns (s.handlers h).stage j w) most h w (begun h j s)
