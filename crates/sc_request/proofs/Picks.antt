-- What a handler has to do, and how it stands, by what is kept of it.
use Rattle.std.proofs.Common.{◌≡◌, ◌<◌, ◌≤◌, ◌||◌, ℕ, Bool, true, false, List, [], ◌∷◌, Option, Some, None, refl, ap, sym, ◌∙◌, length, get_or, arith}
use Rattle.std.proofs.lemmas.Bool.{or_left}
use Rattle.std.proofs.lemmas.Option.{slice_get_read}
use Rattle.std.specs.Prelude.{is_some, nat_lt, slice_get, slice_index, if◌then◌else◌}
use Rattle.std.specs.Option.{option_and_then}
use Rattle.sc_lockpass.specs.declared.wait_conditions.mark.Marked.{Marked}
use Rattle.sc_lockpass.proofs.Listings.{most_handlers-le}
use Rattle.sc_model.specs.declared.cause.Cause.{Cause}
use Rattle.sc_model.specs.declared.status.Status.{Status}
use Rattle.sc_model.specs.declared.status.Status.TheVariants.{Busy, Waiting}
use Rattle.sc_region.specs.declared.job.Job.{Job}
use Rattle.sc_handler.specs.declared.handler.HandlerStage as coded_stage
use Rattle.sc_handler.specs.declared.handler.HandlerStage.TheVariants as stage
use Rattle.sc_handler.specs.declared.handler.Handler as coded
use Rattle.sc_handler.specs.Handlers.{Posted, Answer, HandlerStage, Handler, State, has_requests}
use Rattle.sc_handler.specs.InMemory.{handler_with, stage_of}
use Rattle.sc_handler.specs.Picking.{job_at, job_awaiting, job_idle, job_of, job_with, status_idle, status_with}
use Rattle.sc_request.specs.declared.state.State as coded_state
use Rattle.sc_request.specs.Tables.{handler_in, out_at}
use Rattle.sc_request.specs.Places.{center_at, plain}
use Rattle.sc_request.specs.Logs.{pick_for, status_for}

below_is : (h n : ℕ) → h < n → nat_lt h n ≡ true
below_is h n l = grind (arith, l)

past_is : (h n : ℕ) → n ≤ h → nat_lt h n ≡ false
past_is h n l = grind (arith, l)

abbrev none : Option Job
none = None

none_either : (b : Bool) → (if b then none else none) ≡ none
none_either true = refl
none_either false = refl

some_else : (b : Bool) (o : Option Job) → b ≡ false → is_some (if b then None else o) ≡ false → is_some o ≡ false
some_else true o e f = cc
some_else false o e f = f

no_cause : (why : Option Cause) → is_some why ≡ false → why ≡ None
no_cause None e = refl
no_cause (Some w) e = cc

-- by whether it is out, whether it has failed, and whether it is there
abbrev picks_by : ℕ → Bool → Option Cause → Bool → Handler → State → Option Job
picks_by h is_out why is_there y s = if is_out then None else (if is_there then job_with h why y s else None)

abbrev stands_by : Option Cause → Bool → Bool → Bool → HandlerStage → Option Status
stands_by why is_out has_job is_there st = if is_there then Some (status_with why (is_out || has_job) st) else None

none_failing : (h : ℕ) (b : Bool) (why : Option Cause) (y : Handler) (s : State) → is_some why ≡ true → picks_by h b why true y s ≡ None
none_failing h true why y s e = refl
none_failing h false (Some w) y s e = refl
none_failing h false None y s e = cc

busy_either : (b : Bool) (o : Option Job) → is_some (if b then None else o) ≡ true → (b || is_some o) ≡ true
busy_either true o e = refl
busy_either false o e = e

waiting_is : (entry : List ℕ) (mark : List Marked) (st : coded_stage.HandlerStage) → (st ≡ stage.Idle → ⊥) → status_idle (stage_of entry mark st) ≡ Waiting
waiting_is entry mark stage.Idle f = absurd (f refl)
waiting_is entry mark stage.Runs f = refl
waiting_is entry mark (stage.HasMade k) f = refl
waiting_is entry mark stage.Reserves f = refl
waiting_is entry mark (stage.Awaits k c) f = refl

-- who has something to do is told without it
pub asked_is : (ps : List Posted) → has_requests ps ≡ is_some (job_idle ps)
asked_is [] = refl
asked_is (p ∷ ps) = refl

pub called_is : (k : ℕ) (is_creation : Bool) (p : Option Posted) (a : Option Answer) → (is_some p || is_some a) ≡ is_some (job_awaiting k is_creation p a)
called_is k is_creation (Some p) a = refl
called_is k is_creation None (Some a) = refl
called_is k is_creation None None = refl

module _ (s : coded_state.State) (h : ℕ) where
  pub none_past : s.count ≤ h → pick_for h (center_at 0 s) ≡ None
  none_past l =
      ap (λ b. picks_by h (is_some (out_at s.handlers.items h)) ((plain s).handlers h).failure b ((plain s).handlers h) (plain s)) (past_is h s.count l)
      ∙ none_either (is_some (out_at s.handlers.items h))

  pub no_status_past : s.count ≤ h → status_for h (center_at 0 s) ≡ None
  no_status_past l =
      ap (λ b. stands_by ((plain s).handlers h).failure (is_some (out_at s.handlers.items h)) (is_some (job_of h (plain s))) b ((plain s).handlers h).stage)
      (past_is h s.count l)

  module _ (x : coded.Handler) (below : h < s.count) (read : x ≡ get_or s.handlers.items h x) where
    there : slice_get s.handlers.items h ≡ Some x
    there =
        let own = s.handlers.ok.0 in
        let all = s.places in
        let some = s.some in
        let few = most_handlers-le s.rights.version in
        slice_get_read s.handlers.items (length s.handlers.items) h x refl (omega (arith, below, own, all, some, few)) read

    abbrev own : Handler
    own = handler_with (slice_index s.sessions.items h) x

    picks_own : pick_for h (center_at 0 s) ≡ picks_by h (is_some x.out) x.failure true own (plain s)
    picks_own =
        ap (λ (o : Option coded.Handler). picks_by h (is_some (option_and_then (λ (x : coded.Handler). x.out) o)) (handler_in o).failure (nat_lt h s.count)
        (record (handler_in o) { sessions = slice_index s.sessions.items h }) (plain s)) there
        ∙ ap (λ b. picks_by h (is_some x.out) x.failure b own (plain s)) (below_is h s.count below)

    pub none_out : is_some x.out ≡ true → pick_for h (center_at 0 s) ≡ None
    none_out out = picks_own ∙ ap (λ b. picks_by h b x.failure true own (plain s)) out

    pub none_failed : is_some x.failure ≡ true → pick_for h (center_at 0 s) ≡ None
    none_failed failed = picks_own ∙ none_failing h (is_some x.out) x.failure own (plain s) failed

    -- the stage tells what has to be done, where the handler isn't out and hasn't failed
    pub picks_at : is_some x.out ≡ false → is_some x.failure ≡ false → (st : coded_stage.HandlerStage) → x.stage ≡ st →
        pick_for h (center_at 0 s) ≡ job_at h (stage_of x.entry.items x.mark st) own (plain s)
    picks_at out well st q =
        picks_own ∙ ap (λ b. picks_by h b x.failure true own (plain s)) out
        ∙ ap (λ (why : Option Cause). picks_by h false why true own (plain s)) (no_cause x.failure well)
        ∙ ap (λ (st : coded_stage.HandlerStage). job_at h (stage_of x.entry.items x.mark st) own (plain s)) q

    stands_own : status_for h (center_at 0 s) ≡ stands_by x.failure (is_some x.out) (is_some (job_of h (plain s))) true (stage_of x.entry.items x.mark x.stage)
    stands_own =
        ap (λ (o : Option coded.Handler). stands_by (handler_in o).failure (is_some (option_and_then (λ (x : coded.Handler). x.out) o)) (is_some (job_of h (plain s)))
        (nat_lt h s.count) (handler_in o).stage) there
        ∙ ap (λ b. stands_by x.failure (is_some x.out) (is_some (job_of h (plain s))) b (stage_of x.entry.items x.mark x.stage)) (below_is h s.count below)

    picks_unless_out : is_some (pick_for h (center_at 0 s)) ≡ is_some (if is_some x.out then None else job_of h (plain s))
    picks_unless_out =
        ap (λ (o : Option coded.Handler). is_some (if is_some (option_and_then (λ (x : coded.Handler). x.out) o) then None else job_of h (plain s))) there

    -- who isn't out has a job where one is picked
    no_job : is_some x.out ≡ false → is_some (pick_for h (center_at 0 s)) ≡ false → is_some (job_of h (plain s)) ≡ false
    no_job out none = some_else (is_some x.out) (job_of h (plain s)) out (sym picks_unless_out ∙ none)

    busy_if : x.failure ≡ None → (is_some x.out || is_some (job_of h (plain s))) ≡ true → status_for h (center_at 0 s) ≡ Some Busy
    busy_if well busy =
        stands_own
        ∙ ap (λ (why : Option Cause). stands_by why (is_some x.out) (is_some (job_of h (plain s))) true (stage_of x.entry.items x.mark x.stage)) well
        ∙ ap (λ b. Some (status_with None b (stage_of x.entry.items x.mark x.stage))) busy

    pub busy_out : x.failure ≡ None → is_some x.out ≡ true → status_for h (center_at 0 s) ≡ Some Busy
    busy_out well out = busy_if well (or_left (is_some x.out) (is_some (job_of h (plain s))) out)

    pub busy_picked : x.failure ≡ None → is_some (pick_for h (center_at 0 s)) ≡ true → status_for h (center_at 0 s) ≡ Some Busy
    busy_picked well some = busy_if well (busy_either (is_some x.out) (job_of h (plain s)) (sym picks_unless_out ∙ some))

    -- the stage tells how a handler stands that isn't out and has nothing to do
    pub stands_at : x.failure ≡ None → is_some x.out ≡ false → is_some (pick_for h (center_at 0 s)) ≡ false →
        status_for h (center_at 0 s) ≡ Some (status_idle (stage_of x.entry.items x.mark x.stage))
    stands_at well out none =
        stands_own
        ∙ ap (λ (why : Option Cause). stands_by why (is_some x.out) (is_some (job_of h (plain s))) true (stage_of x.entry.items x.mark x.stage)) well
        ∙ ap (λ b. stands_by None b (is_some (job_of h (plain s))) true (stage_of x.entry.items x.mark x.stage)) out
        ∙ ap (λ b. stands_by None false b true (stage_of x.entry.items x.mark x.stage)) (no_job out none)

    -- who has failed stands so
    pub stands_failed : (why : Cause) → x.failure ≡ Some why → status_for h (center_at 0 s) ≡ stands_by (Some why) (is_some x.out) (is_some (job_of h (plain s))) true (stage_of x.entry.items x.mark x.stage)
    stands_failed why q =
        stands_own
        ∙ ap (λ (why : Option Cause). stands_by why (is_some x.out) (is_some (job_of h (plain s))) true (stage_of x.entry.items x.mark x.stage)) q

    -- it waits where it isn't idle
    pub waits_otherwise : x.failure ≡ None → is_some x.out ≡ false → is_some (pick_for h (center_at 0 s)) ≡ false → (x.stage ≡ stage.Idle → ⊥) →
        status_for h (center_at 0 s) ≡ Some Waiting
    waits_otherwise well out none apart =
        stands_at well out none ∙ ap (λ (st : Status). Some st) (waiting_is x.entry.items x.mark x.stage apart)
