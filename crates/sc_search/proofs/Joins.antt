-- Turns that are joined one after the other.
use Rattle.std.proofs.Common.{◌≡◌, ◌≤◌, ◌+◌, ◌++◌, ◌∙◌, ◌&&◌, not, ℕ, Bool, true, false, List, [], ◌∷◌, length, map, Some, Result, Ok, Err, slice_get, refl, sym, ap, subst, append_assoc, length-append, arith}
use Rattle.std.specs.Prelude.{IfOk, is_some}
use Rattle.std.proofs.lemmas.List.{append-nil}
use Rattle.sc_lockpass.specs.Rights.{is_handler}
use Rattle.sc_region.specs.declared.job.Job.{Job}
use Rattle.sc_region.specs.declared.job.Job.TheVariants as job
use Rattle.sc_region.specs.declared.job.Outcome.{Outcome}
use Rattle.sc_region.specs.declared.job.Want.{Want}
use Rattle.sc_region.specs.declared.job.Want.TheVariants as want
use Rattle.sc_handler.specs.Canonical.{canon, canon_service, canon_stage, sessions_in}
use Rattle.sc_handler.specs.Handlers.{HandlerStage, Idle, Runs, HasMade, Reserves, Awaits, Service, State, has_frames, has_requests}
use Rattle.sc_play.specs.Regions.{PlainRegion, Plays}
use Rattle.sc_request.specs.Logs.{Center, pick_for}
use Rattle.sc_request.specs.Settling.{may_ask, may_post_to_all}
use Rattle.sc_world.specs.Turning.{IsTurn}
use Rattle.sc_world.specs.Turning as turning
use Rattle.sc_world.specs.Worlds.{PlainWorld}
use Rattle.sc_search.specs.Joined.{FollowsAtOnce, GoesOn, WantsToFollow, asks_free, ends_plainly, goes_at_once, is_ready, is_uncontested, may_follow, takes_at_once}
use Rattle.sc_search.specs.Steps.{GoesOnBy}
use Rattle.sc_search.specs.Stops.{Moves}

-- ---- turns that are joined

-- they are turns, one after the other
pub goes_runs : (hs : List ℕ) (x y : PlainWorld) → GoesOn hs x y → turning.Runs hs x y
goes_runs [] x y same = same
goes_runs (h ∷ hs) x y on = (on.1, on.2, goes_runs hs on.1 y on.3)

-- one more turn
goes_more : (hs : List ℕ) (h : ℕ) (x y z : PlainWorld) → GoesOn hs x y → FollowsAtOnce h y → IsTurn h y z → GoesOn (hs ++ h ∷ []) x z
goes_more [] h x y z same asks turn = (subst (FollowsAtOnce h) same asks, z, subst (λ (u : PlainWorld). IsTurn h u z) same turn, refl)
goes_more (g ∷ gs) h x y z on asks turn = (on.0, on.1, on.2, goes_more gs h on.1 y z on.3 asks turn)

pub by_none : (bs : List ℕ) (x : PlainWorld) → GoesOnBy 0 bs bs x x
by_none bs x = record { goes = record { handlers = []; few = omega arith; goes_on = refl }; all = sym (append-nil bs) }

pub by_more : (n h : ℕ) (bs hs ms : List ℕ) (x y z : PlainWorld) → GoesOnBy n bs hs x y → FollowsAtOnce h y → IsTurn h y z → ms ≡ hs ++ h ∷ [] →
    GoesOnBy (n + 1) bs ms x z
by_more n h bs hs ms x y z so asks turn same =
    let gs = so.goes.handlers in
    let few = so.goes.few in
    let long : length (gs ++ h ∷ []) ≡ length gs + 1 = length-append gs (h ∷ []) in
    record {
      goes = record { handlers = gs ++ h ∷ []; few = omega (arith, few, long); goes_on = goes_more gs h x y z so.goes.goes_on asks turn };
      all = same ∙ ap (λ (ts : List ℕ). ts ++ h ∷ []) so.all ∙ append_assoc bs gs (h ∷ []);
    }

pub by_within : (n m : ℕ) (bs hs : List ℕ) (x y : PlainWorld) → n ≤ m → GoesOnBy n bs hs x y → GoesOnBy m bs hs x y
by_within n m bs hs x y le so = record {
  goes = record { handlers = so.goes.handlers; few = let few = so.goes.few in omega (arith, few, le); goes_on = so.goes.goes_on };
  all = so.all;
}

pub by_moves : (most : ℕ) (bs hs : List ℕ) (x y : PlainWorld) → GoesOnBy most bs hs x y → Moves bs hs x y
by_moves most bs hs x y so = record { more = so.goes.handlers; all = so.all; runs = goes_runs so.goes.handlers x y so.goes.goes_on }

-- they are as many as the second list is longer
pub by_length : (most h : ℕ) (hs : List ℕ) (x y : PlainWorld) → (so : GoesOnBy most (h ∷ []) hs x y) → length hs ≡ 1 + length so.goes.handlers
by_length most h hs x y so = let long : length hs ≡ length ((h ∷ []) ++ so.goes.handlers) = ap length so.all in omega (arith, long)

-- ---- what may follow at once

-- it is the same in states that are read alike
frames_canon : (sessions : ℕ → ℕ) (stage : HandlerStage) → has_frames (canon_stage sessions stage) ≡ has_frames stage
frames_canon sessions Idle = refl
frames_canon sessions Runs = refl
frames_canon sessions (HasMade k) = refl
frames_canon sessions (Reserves ks mark) = refl
frames_canon sessions (Awaits k c) = refl

asks_canon : (h k : ℕ) (s : State) → asks_free h k (canon s) ≡ asks_free h k s
asks_canon h k s =
    ap (λ (b : Bool). is_handler h (s.rights.queue k) && ((not b && not (is_some (s.handlers k).failure)) && not (has_requests (s.handlers k).queue)))
    (frames_canon (sessions_in s) (s.handlers k).stage)

plainly_canon : (refused : Bool) (sessions : ℕ → ℕ) (vs : List Service) → ends_plainly refused (map (canon_service sessions) vs) ≡ ends_plainly refused vs
plainly_canon refused sessions [] = refl
plainly_canon refused sessions (e ∷ es) = refl

goes_canon : (h : ℕ) (w : Want) (s : State) → goes_at_once h w (canon s) ≡ goes_at_once h w s
goes_canon h want.Continue s = refl
goes_canon h (want.Release ks) s = refl
goes_canon h (want.Wait ks) s = refl
goes_canon h (want.Reserve ks) s = refl
goes_canon h (want.Post r) s = ap (λ (b : Bool). may_ask h (want.Post r) s && b) (asks_canon h r.target.handler s)
goes_canon h (want.Ask r true) s = refl
goes_canon h (want.Ask r false) s = ap (λ (b : Bool). may_ask h (want.Ask r false) s && b) (asks_canon h r.target.handler s)
goes_canon h (want.Create class procedure actuals passes) s = refl
goes_canon h (want.Done v ks refused) s = ap (λ (b : Bool). may_post_to_all h ks.items s && b) (plainly_canon refused (sessions_in s) (s.handlers h).services)
goes_canon h (want.Fail why) s = refl

takes_canon : (h : ℕ) (w : Want) (s : State) → takes_at_once h w (canon s) ≡ takes_at_once h w s
takes_canon h want.Continue s = refl
takes_canon h (want.Reserve ks) s = refl
takes_canon h (want.Post r) s = refl
takes_canon h (want.Ask r passes) s = refl
takes_canon h (want.Create class procedure actuals passes) s = refl
takes_canon h (want.Release ks) s = refl
takes_canon h (want.Wait ks) s = refl
takes_canon h (want.Done v ks true) s = refl
takes_canon h (want.Done v ks false) s = refl
takes_canon h (want.Fail why) s = refl

ready_canon : (h : ℕ) (j : Job) (s : State) → is_ready h j (canon s) ≡ is_ready h j s
ready_canon h job.Go s = refl
ready_canon h (job.Take r) s = ap (λ (b : Bool). not b && is_uncontested h s) (frames_canon (sessions_in s) (s.handlers h).stage)
ready_canon h (job.Reply v) s = refl
ready_canon h job.Failed s = refl
ready_canon h job.Refused s = refl
ready_canon h (job.Granted ks) s = refl
ready_canon h (job.Made k) s = refl

follow_canon : (h : ℕ) (j : Job) (w : Want) (s : State) → may_follow h j w (canon s) ≡ may_follow h j w s
follow_canon h job.Go w s = goes_canon h w s
follow_canon h (job.Take r) w s = takes_canon h w s
follow_canon h (job.Reply v) w s = refl
follow_canon h job.Failed w s = refl
follow_canon h job.Refused w s = refl
follow_canon h (job.Granted ks) w s = refl
follow_canon h (job.Made k) w s = refl

pub same_ready : (h : ℕ) (j : Job) (s t : State) → canon s ≡ canon t → is_ready h j s ≡ is_ready h j t
same_ready h j s t same = sym (ready_canon h j s) ∙ ap (is_ready h j) same ∙ ready_canon h j t

pub same_follow : (h : ℕ) (j : Job) (w : Want) (s t : State) → canon s ≡ canon t → may_follow h j w s ≡ may_follow h j w t
same_follow h j w s t same = sym (follow_canon h j w s) ∙ ap (may_follow h j w) same ∙ follow_canon h j w t

-- ---- whether the next turn may follow at once

-- what holds of the copy of a region holds of the region
pub wants_so : (h : ℕ) (j : Job) (s : State) (x before after : PlainRegion) (o : Outcome) → before ≡ x → Plays 1 j before after o → may_follow h j o.want s ≡ true →
    WantsToFollow h j s x
wants_so h j s x before after o same plays follows =
    subst (WantsToFollow h j s) same (record { after = after; outcome = o; plays = plays; follows = follows })

-- what the region wants is what its handler asks
pub follows_so : {E : Type 0} (h : ℕ) (j : Job) (w : PlainWorld) (x : PlainRegion) (r : Result Bool E) (c : Center) → c ≡ w.center → pick_for h w.center ≡ Some j →
    is_ready h j w.center.state ≡ true → slice_get w.regions h ≡ Some x → IfOk r (λ follows. follows ≡ true → WantsToFollow h j c.state x) →
    IfOk r (λ follows. follows ≡ true → FollowsAtOnce h w)
follows_so h j w x (Ok b) c same due ready stands wants = λ e. record {
  job = j;
  due = due;
  ready = ready;
  region = x;
  stands = stands;
  wants = subst (λ (d : Center). WantsToFollow h j d.state x) same (wants e);
}
follows_so h j w x (Err e) c same due ready stands wants = tt
