-- Statuses of handlers, and what they tell.
use Rattle.std.proofs.Common.{◌≡◌, ◌<◌, ◌∙◌, ◌&&◌, ◌||◌, not, inl, inr, ℕ, zero, suc, Bool, true, false, List, [], ◌∷◌, Option, Some, None, get_or, is_some, refl, sym, ap, arith}
use Rattle.std.specs.List.{list_any, range_with_len}
use Rattle.std.specs.Prelude.{map}
use Rattle.std.proofs.lemmas.Bool.{cases_lt}
use Rattle.std.proofs.lemmas.List.FromFn.{get_or-map-range_with_len, length-map-range_with_len}
use Rattle.std.proofs.lemmas.List.{get_or_past}
use Rattle.sc_model.specs.declared.cause.Cause.{Cause}
use Rattle.sc_model.specs.declared.status.Status.{Status}
use Rattle.sc_model.specs.declared.status.Status.TheVariants.{Busy, Failed, Free, Waiting}
use Rattle.sc_region.specs.declared.job.Job.{Job}
use Rattle.sc_region.specs.declared.job.Job.TheVariants as job
use Rattle.sc_region.specs.declared.job.Want.{Want}
use Rattle.sc_region.specs.declared.job.Want.TheVariants as want
use Rattle.sc_handler.specs.Fits.{is_none_of}
use Rattle.sc_handler.specs.Handlers.{Awaits, HandlerStage, HasMade, Idle, Posted, Reserves, Runs, Service, State, has_frames}
use Rattle.sc_handler.specs.Picking.{job_of, status_with}
use Rattle.sc_request.specs.Logs.{status_in}
use Rattle.sc_world.specs.Reports.{statuses}
use Rattle.sc_world.specs.Worlds.{PlainWorld}
use Rattle.sc_request.specs.Settling.{may_post_to_all}
use Rattle.sc_movers.specs.Movers as movers
use Rattle.sc_movers.specs.Movers.{is_mover, is_mover_under, takes_first}
use Rattle.sc_search.specs.declared.aims.Aim.TheVariants as aim
use Rattle.sc_search.specs.Aims.{tells_failure}
use Rattle.sc_search.specs.Joined.{ends_plainly, goes_at_once, is_next_plain, is_ready, is_uncontested_by, may_follow, takes_at_once}

-- ---- statuses

abbrev pub is_waiting : Status → Bool
is_waiting (Failed why) = false
is_waiting Busy = false
is_waiting Waiting = true
is_waiting Free = false

abbrev pub is_busy : Status → Bool
is_busy (Failed why) = false
is_busy Busy = true
is_busy Waiting = false
is_busy Free = false

-- the handler waits in the world
abbrev pub waits_at : ℕ → PlainWorld → Bool
waits_at h w = is_waiting (get_or (statuses w) h Free)

-- it has a turn there
abbrev pub busy_at : ℕ → PlainWorld → Bool
busy_at h w = is_busy (get_or (statuses w) h Free)

-- only who has something to do is busy
pub busy_needs : (why : Option Cause) (b : Bool) (stage : HandlerStage) → is_busy (status_with why b stage) ≡ true → b ≡ true
busy_needs (Some c) b stage e = cc
busy_needs None true stage e = refl
busy_needs None false Idle e = cc
busy_needs None false Runs e = cc
busy_needs None false (HasMade k) e = cc
busy_needs None false (Reserves ks mark) e = cc
busy_needs None false (Awaits k is_creation) e = cc

-- ---- the rule of the search is that of movers

same_ends : (refused : Bool) (vs : List Service) → movers.ends_plainly refused vs ≡ ends_plainly refused vs
same_ends refused [] = refl
same_ends refused (e ∷ es) = refl

same_goes : (h : ℕ) (w : Want) (s : State) → is_mover h w s ≡ goes_at_once h w s
same_goes h want.Continue s = refl
same_goes h (want.Release ks) s = refl
same_goes h (want.Wait ks) s = refl
same_goes h (want.Reserve ks) s = refl
same_goes h (want.Post r) s = refl
same_goes h (want.Ask r true) s = refl
same_goes h (want.Ask r false) s = refl
same_goes h (want.Create class procedure actuals passes) s = refl
same_goes h (want.Done v ks refused) s = ap (λ (b : Bool). may_post_to_all h ks.items s && b) (same_ends refused (s.handlers h).services)
same_goes h (want.Fail why) s = refl

same_uncontested : (h : ℕ) (o : Option ℕ) (ps : List Posted) → movers.is_uncontested_by h o ps ≡ is_uncontested_by h o ps
same_uncontested h None ps = refl
same_uncontested h (Some p) ps = refl

same_plain : (ps : List Posted) → movers.is_next_plain ps ≡ is_next_plain ps
same_plain [] = refl
same_plain (q ∷ qs) = refl

same_takes : (h : ℕ) (w : Want) (s : State) → takes_first h w s ≡ takes_at_once h w s
same_takes h want.Continue s = refl
same_takes h (want.Release ks) s = refl
same_takes h (want.Wait ks) s = refl
same_takes h (want.Reserve ks) s = refl
same_takes h (want.Post r) s = refl
same_takes h (want.Ask r passes) s = refl
same_takes h (want.Create class procedure actuals passes) s = refl
same_takes h (want.Done v ks true) s = refl
same_takes h (want.Done v ks false) s = ap (λ (b : Bool). is_none_of ks.items && b) (same_plain (s.handlers h).queue)
same_takes h (want.Fail why) s = refl

pub moves_under : (h : ℕ) (j : Job) (w : Want) (s : State) → is_ready h j s ≡ true → may_follow h j w s ≡ true → is_mover_under h j w s ≡ true
moves_under h job.Go w s ready follows = same_goes h w s ∙ follows
moves_under h (job.Take r) w s ready follows =
    by (not (has_frames (s.handlers h).stage)) (movers.is_uncontested h s) (takes_first h w s)
    (ap (λ (b : Bool). not (has_frames (s.handlers h).stage) && b) (same_uncontested h (s.rights.queue h) (s.handlers h).queue) ∙ ready)
    (same_takes h w s ∙ follows)
  where
    by : (a b c : Bool) → (a && b) ≡ true → c ≡ true → (a && b && c) ≡ true
    by true true c both e = e
    by true false c both e = cc
    by false b c both e = cc
moves_under h (job.Reply v) w s ready follows = cc
moves_under h job.Failed w s ready follows = cc
moves_under h job.Refused w s ready follows = cc
moves_under h (job.Granted ks) w s ready follows = cc
moves_under h (job.Made k) w s ready follows = cc

-- where none of the statuses passes a test that a busy one passes, no handler is busy
pub none_busy : (P : Status → Bool) (ss : List Status) (h : ℕ) → list_any P ss ≡ false → P Busy ≡ true → is_busy (get_or ss h Free) ≡ false
none_busy P [] h e passes = refl
none_busy P (t ∷ ss) zero e passes = by t e
  where
    no : (a b : Bool) → a ≡ true → (a || b) ≡ false → ⊥
    no true b is e = cc
    no false b is e = cc

    by : (t : Status) → (P t || list_any P ss) ≡ false → is_busy t ≡ false
    by (Failed why) e = refl
    by Busy e = absurd (no (P Busy) (list_any P ss) passes e)
    by Waiting e = refl
    by Free e = refl
none_busy P (t ∷ ss) (suc h) e passes = none_busy P ss h (rest (P t) (list_any P ss) e) passes
  where
    rest : (a b : Bool) → (a || b) ≡ false → b ≡ false
    rest true b e = cc
    rest false b e = e

-- only failures tell who has failed
abbrev pub is_failed : Status → Bool
is_failed (Failed why) = true
is_failed Busy = false
is_failed Waiting = false
is_failed Free = false

failed_only : (b : Bool) (stage : HandlerStage) → is_failed (status_with None b stage) ≡ false
failed_only true stage = refl
failed_only false Idle = refl
failed_only false Runs = refl
failed_only false (HasMade k) = refl
failed_only false (Reserves ks mark) = refl
failed_only false (Awaits k is_creation) = refl

pub failed_alike : (b c : Bool) (s t : HandlerStage) (x y : Option Cause) → x ≡ y → is_failed (status_with x b s) ≡ is_failed (status_with y c t)
failed_alike b c s t x y same = ap (λ (o : Option Cause). is_failed (status_with o b s)) same ∙ by y
  where
    by : (o : Option Cause) → is_failed (status_with o b s) ≡ is_failed (status_with o c t)
    by None = failed_only b s ∙ sym (failed_only c t)
    by (Some why) = refl

-- a failure is among statuses if the first is one, or one is among the others
first_or_later : (t : Status) (ss : List Status) → tells_failure aim.Fails (t ∷ ss) ≡ (is_failed t || tells_failure aim.Fails ss)
first_or_later (Failed why) ss = refl
first_or_later Busy ss = refl
first_or_later Waiting ss = refl
first_or_later Free ss = refl

pub failures_alike : (f g : ℕ → Status) → ((h : ℕ) → is_failed (f h) ≡ is_failed (g h)) → (hs : List ℕ) → tells_failure aim.Fails (map f hs) ≡ tells_failure aim.Fails (map g hs)
failures_alike f g same [] = refl
failures_alike f g same (h ∷ hs) =
    first_or_later (f h) (map f hs)
    ∙ ap (λ (b : Bool). b || tells_failure aim.Fails (map f hs)) (same h)
    ∙ ap (λ (b : Bool). is_failed (g h) || b) (failures_alike f g same hs)
    ∙ sym (first_or_later (g h) (map g hs))

-- who waits has not failed, and has frames
waits_so : (why : Option Cause) (b : Bool) (stage : HandlerStage) → is_waiting (status_with why b stage) ≡ true → (why ≡ None) × (is_waiting (status_with None false stage) ≡ true)
waits_so (Some c) b stage e = cc
waits_so None true stage e = cc
waits_so None false stage e = (refl, e)

pub waiting_is : (h : ℕ) (x : PlainWorld) → waits_at h x ≡ true →
    (h < x.center.state.count) × ((x.center.state.handlers h).failure ≡ None) × (is_waiting (status_with None false (x.center.state.handlers h).stage) ≡ true)
waiting_is h x waits = elim (cases_lt h x.center.state.count) [
  | inl few ↦
      let at : get_or (statuses x) h Free ≡ status_in h x.center =
      get_or-map-range_with_len (λ (k : ℕ). status_in k x.center) 0 x.center.state.count h h Free few (omega arith) in
      let so = waits_so (x.center.state.handlers h).failure (is_some (x.center.out h) || is_some (job_of h x.center.state)) (x.center.state.handlers h).stage
      (sym (ap is_waiting at) ∙ waits) in
      (few, so.0, so.1)
  | inr past ↦
      let none : get_or (statuses x) h Free ≡ Free =
      get_or_past (statuses x) h Free (omega (arith, past, length-map-range_with_len (λ (k : ℕ). status_in k x.center) 0 x.center.state.count)) in
      let no : true ≡ false = sym waits ∙ ap is_waiting none in
      cc
]
