-- A world reports what the machine reports of the state that it stands for.
use Rattle.std.proofs.Common.{◌≡◌, ◌<◌, ◌≤◌, ◌-◌, ◌&&◌, ◌||◌, inl, inr, ℕ, zero, suc, Bool, true, false, List, [], ◌∷◌, ◌++◌, Option, Some, None, is_some, map, slice_get, refl, ap, ◌∙◌, arith}
use Rattle.std.specs.List.{range_with_len}
use Rattle.std.specs.Prelude.{nat_lt}
use Rattle.sc_tree.specs.Plain.{System}
use Rattle.sc_model.specs.declared.cause.Cause.{Cause}
use Rattle.sc_model.specs.declared.status.Status.{Status}
use Rattle.sc_model.specs.declared.status.Status.TheVariants.{Waiting}
use Rattle.sc_model.specs.Handlers as machine
use Rattle.sc_model.specs.Handlers.{Awaits, Frame, InCall, Reserves, ReservesBlock, Runs, World}
use Rattle.sc_model.specs.Reports as reports
use Rattle.sc_model.specs.Reports.{end_text, line_feed, status_of}
use Rattle.sc_model.specs.Runs.{has_turn, has_turn_with}
use Rattle.sc_code.specs.declared.program.Image.{Image}
use Rattle.sc_region.specs.declared.job.Job.{Job}
use Rattle.sc_region.specs.declared.job.Job.TheVariants as job
use Rattle.sc_region.specs.Stores.{PlainStore}
use Rattle.sc_handler.specs.Handlers as core
use Rattle.sc_handler.specs.Picking.{job_of, status_idle, status_with}
use Rattle.sc_request.specs.Halves.{IsStage, IsTop}
use Rattle.sc_request.specs.Logs.{status_in}
use Rattle.sc_request.specs.Laws.{PicksWhereTurns}
use Rattle.sc_refines_world.specs.regions.RegionSteps.{numbering_by}
use Rattle.sc_play.specs.Regions.{PlainRegion}
use Rattle.sc_play.specs.Turns.{StopsFirst, begun, is_going}
use Rattle.sc_world.specs.Reports.{handler_report, handlers_report, is_busy, output_in, report, report_of, some_is_busy, statuses}
use Rattle.sc_world.specs.Worlds.{PlainWorld}
use Rattle.sc_refines_world.specs.Refining.{WorldReportsAsMachine}
use Rattle.sc_refines_world.specs.Standing.{IsNear, StandsNear, names_in}

-- ---- how a handler stands

-- one with frames waits
idle_waits : (f : Frame) (st : machine.Stage) (stage : core.HandlerStage) → IsStage st f stage → status_idle stage ≡ Waiting
idle_waits f Runs stage (inl e) = ap status_idle e
idle_waits f Runs stage (inr (k, e)) = ap status_idle e
idle_waits f Reserves stage e = ap status_idle e
idle_waits f ReservesBlock stage e = ap status_idle e
idle_waits f (InCall gives) stage e = ap status_idle e
idle_waits f (Awaits k gives is_creation) stage e = ap status_idle e

same_status : (why : Option Cause) (busy : Bool) (stack : List Frame) (stage : core.HandlerStage) → IsTop stack stage → status_with why busy stage ≡ reports.status_with why busy stack
same_status (Some why) busy stack stage top = refl
same_status None true stack stage top = refl
same_status None false [] stage top = ap status_idle top
same_status None false (f ∷ below) stage top = idle_waits f f.stage stage top

-- it is busy exactly where it has a turn
busy_with : (why : Option Cause) (busy : Bool) (stack : List Frame) → (busy ≡ true → why ≡ None) → is_busy (reports.status_with why busy stack) ≡ busy
busy_with (Some why) true stack lives = let no : Some why ≡ None = lives refl in cc
busy_with (Some why) false stack lives = refl
busy_with None true stack lives = refl
busy_with None false [] lives = refl
busy_with None false (f ∷ below) lives = refl

turn_lives : (h : ℕ) (w : World) → has_turn h w ≡ true → (w.handlers h).failure ≡ None
turn_lives h w = by (nat_lt h w.count) (w.handlers h).failure refl
  where
    by : (b : Bool) (why : Option Cause) → (w.handlers h).failure ≡ why → b && has_turn_with h why (w.handlers h).stack w ≡ true → (w.handlers h).failure ≡ None
    by b None e is = e
    by true (Some why) e is = cc
    by false (Some why) e is = cc

-- what was printed stays, where memory is refused
begun_output : (b : Bool) (j : Job) (x : PlainStore) → (begun b j x).output ≡ x.output
begun_output true (job.Made k) x = refl
begun_output false (job.Made k) x = refl
begun_output b (job.Take r) x = refl
begun_output b (job.Reply v) x = refl
begun_output b job.Failed x = refl
begun_output b job.Refused x = refl
begun_output b (job.Granted ks) x = refl
begun_output b job.Go x = refl

stops_output : (b : Bool) (x y : PlainStore) → StopsFirst b x y → y.output ≡ x.output
stops_output false x y same = ap (λ (z : PlainStore). z.output) same
stops_output true x y ahead = ahead.remains.output

near_output : (due : Option Job) (x y : PlainRegion) → IsNear due x y → y.store.output ≡ x.store.output
near_output due x y (inl same) = ap (λ (r : PlainRegion). r.store.output) same
near_output due x y (inr (j, is, refused)) = stops_output (is_going j) (begun x.is_told j x.store) y.store refused.store ∙ begun_output x.is_told j x.store

module _ (picks : PicksWhereTurns) (s : System) (p : Image) (w : World) (x : PlainWorld) (stands : StandsNear s p w x) where
  -- each handler stands as in the machine
  status_same : (h : ℕ) → status_in h x.center ≡ status_of h w
  status_same h =
      ap (λ (o : Option Job). status_with (x.center.state.handlers h).failure (is_some o || is_some (job_of h x.center.state)) (x.center.state.handlers h).stage) (stands.none_out h)
      ∙ ap (λ (b : Bool). status_with (x.center.state.handlers h).failure b (x.center.state.handlers h).stage) (picks (numbering_by (names_in p)) w x.center.state h stands.core)
      ∙ ap (λ (why : Option Cause). status_with why (has_turn h w) (x.center.state.handlers h).stage) (stands.core.handlers h).failure
      ∙ same_status (w.handlers h).failure (has_turn h w) (w.handlers h).stack (x.center.state.handlers h).stage (stands.core.handlers h).stage

  busy_same : (h : ℕ) → is_busy (status_in h x.center) ≡ has_turn h w
  busy_same h = ap is_busy (status_same h) ∙ busy_with (w.handlers h).failure (has_turn h w) (w.handlers h).stack (turn_lives h w)

  some_busy : (n : ℕ) → some_is_busy n x ≡ reports.some_has_turn n w
  some_busy zero = refl
  some_busy (suc n) = ap (λ (b : Bool). b || some_is_busy n x) (busy_same n) ∙ ap (λ (b : Bool). has_turn n w || b) (some_busy n)

  -- so is its line, with its output
  line_same : (h : ℕ) → h < w.count → report_of h x ≡ reports.handler_report h (w.handlers h) (status_of h w)
  line_same h few =
      let r = stands.regions h few in
      let output : output_in (slice_get x.regions h) ≡ (w.handlers h).output =
      ap output_in r.1 ∙ near_output (job_of h x.center.state) r.2.0 r.0 r.2.1 ∙ r.2.2.stands.output ∙ r.2.2.is_half.output in
      ap (λ (status : Status). handler_report h status (x.center.state.handlers h).refused (output_in (slice_get x.regions h))) (status_same h)
      ∙ ap (λ (k : ℕ). handler_report h (status_of h w) k (output_in (slice_get x.regions h))) (stands.core.handlers h).refused
      ∙ ap (λ (text : List ℕ). handler_report h (status_of h w) (w.handlers h).refused text) output

  lines_same : (n : ℕ) → n ≤ w.count → handlers_report n x ≡ reports.handlers_report n w
  lines_same zero few = refl
  lines_same (suc n) few =
      let less : w.count - suc n < w.count = omega (arith, few) in
      ap (λ (k : ℕ). report_of (k - suc n) x ++ handlers_report n x) stands.core.count
      ∙ ap (λ (text : List ℕ). text ++ handlers_report n x) (line_same (w.count - suc n) less)
      ∙ ap (λ (text : List ℕ). reports.handler_report (w.count - suc n) (w.handlers (w.count - suc n)) (status_of (w.count - suc n) w) ++ text) (lines_same n (omega (arith, few)))

  report_same : report x ≡ reports.report w
  report_same =
      ap (λ (k : ℕ). handlers_report k x ++ end_text (some_is_busy k x) ++ line_feed) stands.core.count
      ∙ ap (λ (text : List ℕ). text ++ end_text (some_is_busy w.count x) ++ line_feed) (lines_same w.count (omega arith))
      ∙ ap (λ (b : Bool). reports.handlers_report w.count w ++ end_text b ++ line_feed) (some_busy w.count)

  each_same : (hs : List ℕ) → map (λ h. status_in h x.center) hs ≡ map (λ h. status_of h w) hs
  each_same [] = refl
  each_same (h ∷ hs) = ap (λ (status : Status). status ∷ map (λ h. status_in h x.center) hs) (status_same h) ∙ ap (λ (them : List Status). status_of h w ∷ them) (each_same hs)

  statuses_same : statuses x ≡ map (λ h. status_of h w) (range_with_len 0 w.count)
  statuses_same = ap (λ (k : ℕ). map (λ h. status_in h x.center) (range_with_len 0 k)) stands.core.count ∙ each_same (range_with_len 0 w.count)

pub world_reports_as_machine : PicksWhereTurns → WorldReportsAsMachine
world_reports_as_machine picks s p w x stands = (report_same picks s p w x stands, statuses_same picks s p w x stands)
