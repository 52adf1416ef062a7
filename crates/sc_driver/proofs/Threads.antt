-- What a run on threads leaves tells what one thread's world tells.
use Rattle.std.proofs.Common.{◌≡◌, ◌∙◌, ◌-◌, ◌+◌, ◌<◌, ◌≤◌, inl, inr, ℕ, zero, suc, List, [], ◌∷◌, ◌++◌, Bool, true, false, Option, Some, None, is_some, map, slice_get, refl, sym, ap, subst, arith}
use Rattle.std.specs.Prelude.{◌||◌, nat_lt, replicate, if◌then◌else◌}
use Rattle.std.specs.List.{flat_map, range_with_len}
use Rattle.std.proofs.Math.Logic.{∥∥₁_map}
use Rattle.std.proofs.lemmas.Bool.{cases_lt}
use Rattle.std.proofs.lemmas.Bool.Decides.{nat_tests}
use Rattle.sc_lockpass.specs.declared.version.Version.TheVariants.{Two}
use Rattle.sc_code.specs.declared.program.Image.{Image}
use Rattle.sc_model.specs.declared.status.Status.{Status}
use Rattle.sc_model.specs.Reports.{end_text, line_feed}
use Rattle.sc_region.specs.declared.job.Job.{Job}
use Rattle.sc_handler.specs.declared.settlement.Settlement.{Settlement}
use Rattle.sc_handler.specs.Handlers.{State}
use Rattle.sc_handler.specs.Picking.{job_of, job_with, status_with}
use Rattle.sc_request.specs.Cores.{center_of, log_of, state_of}
use Rattle.sc_request.specs.Logs.{Center, first_from, first_with_job, next, numbers_from, pick_for, round, status_in}
use Rattle.sc_play.specs.Regions.{PlainRegion}
use Rattle.sc_world.specs.Reports.{handler_report, handlers_report, is_busy, output_in, report, report_of, some_is_busy, statuses}
use Rattle.sc_world.specs.Turning.{MakeTurns}
use Rattle.sc_world.specs.Worlds.{PlainWorld, opened}
use Rattle.sc_plant.specs.declared.left.Left.{Left}
use Rattle.sc_plant.specs.Left.{IsRun, RunsAreOneThreads, world_of}
use Rattle.sc_plant.specs.OneThread.{EndsIn}
use Rattle.sc_recording.specs.Recorded.{lines_of, turns_of}
use Rattle.sc_driver.specs.Execution.{IsThreadRun, line_turns}

-- the world of this state and of these regions, where no handler is out
abbrev home_of : State → List PlainRegion → PlainWorld
home_of s rs = record { most = 0; center = record { state = s; out = λ k. None; last = 0 }; regions = rs }

-- ---- a world where no handler is out tells of itself what its state and its regions tell

status_home : (x : PlainWorld) (h : ℕ) → x.center.out h ≡ None → status_in h x.center ≡ status_in h (home_of x.center.state x.regions).center
status_home x h none =
    let s = x.center.state in
    ap (λ (o : Option Job). status_with (s.handlers h).failure (is_some o || is_some (job_of h s)) (s.handlers h).stage) none

report_of_home : (x : PlainWorld) (h : ℕ) → x.center.out h ≡ None → report_of h x ≡ report_of h (home_of x.center.state x.regions)
report_of_home x h none =
    ap (λ (t : Status). handler_report h t (x.center.state.handlers h).refused (output_in (slice_get x.regions h))) (status_home x h none)

handlers_home : (n : ℕ) (x : PlainWorld) → ((h : ℕ) → x.center.out h ≡ None) →
    handlers_report n x ≡ handlers_report n (home_of x.center.state x.regions)
handlers_home zero x none = refl
handlers_home (suc n) x none =
    let h : ℕ = x.center.state.count - suc n in
    ap (λ (t : List ℕ). t ++ handlers_report n x) (report_of_home x h (none h))
    ∙ ap (λ (t : List ℕ). report_of h (home_of x.center.state x.regions) ++ t) (handlers_home n x none)

busy_home : (n : ℕ) (x : PlainWorld) → ((h : ℕ) → x.center.out h ≡ None) →
    some_is_busy n x ≡ some_is_busy n (home_of x.center.state x.regions)
busy_home zero x none = refl
busy_home (suc n) x none =
    ap (λ (t : Status). is_busy t || some_is_busy n x) (status_home x n (none n))
    ∙ ap (λ (b : Bool). is_busy (status_in n (home_of x.center.state x.regions).center) || b) (busy_home n x none)

report_home : (x : PlainWorld) → ((h : ℕ) → x.center.out h ≡ None) → report x ≡ report (home_of x.center.state x.regions)
report_home x none =
    let n = x.center.state.count in
    ap (λ (t : List ℕ). t ++ end_text (some_is_busy n x) ++ line_feed) (handlers_home n x none)
    ∙ ap (λ (b : Bool). handlers_report n (home_of x.center.state x.regions) ++ end_text b ++ line_feed) (busy_home n x none)

map_same : (f g : ℕ → Status) → ((h : ℕ) → f h ≡ g h) → (hs : List ℕ) → map f hs ≡ map g hs
map_same f g same [] = refl
map_same f g same (h ∷ hs) = ap (λ (s : Status). s ∷ map f hs) (same h) ∙ ap (λ (ss : List Status). g h ∷ ss) (map_same f g same hs)

statuses_home : (x : PlainWorld) → ((h : ℕ) → x.center.out h ≡ None) → statuses x ≡ statuses (home_of x.center.state x.regions)
statuses_home x none =
    map_same (λ h. status_in h x.center) (λ h. status_in h (home_of x.center.state x.regions).center) (λ h. status_home x h (none h))
    (range_with_len 0 x.center.state.count)

-- What the world tells of itself is what it tells of one with this state and these regions.
told_as : {A : Type 0} (tells : PlainWorld → A) (y : PlainWorld) (s : State) (rs : List PlainRegion) →
    tells y ≡ tells (home_of y.center.state y.regions) → EndsIn y s rs → tells (home_of s rs) ≡ tells y
told_as tells y s rs home ends =
    sym (home ∙ ap (λ (t : State). tells (home_of t y.regions)) ends.state ∙ ap (λ (xs : List PlainRegion). tells (home_of s xs)) ends.regions)

-- ---- where none is next, none is next after any other

none_here : (h : ℕ) (o : Option Job) (rest : Option (ℕ × Job)) → first_from h o rest ≡ None → (o ≡ None) × (rest ≡ None)
none_here h None rest e = (refl, e)
none_here h (Some j) rest e = cc

none_among : (n first h : ℕ) (c : Center) → first_with_job (numbers_from first n) c ≡ None → first ≤ h → h < first + n → pick_for h c ≡ None
none_among zero first h c e from below = absurd (omega (arith, from, below))
none_among (suc n) first h c e from below =
    let parts = none_here first (pick_for first c) (first_with_job (numbers_from (suc first) n) c) e in
    elim (cases_lt first h) [
      | inl later ↦ none_among n (suc first) h c parts.1 (omega (arith, later)) (omega (arith, below))
      | inr here ↦ let same : h ≡ first = omega (arith, from, here) in ap (λ (k : ℕ). pick_for k c) same ∙ parts.0
    ]

none_joined : (hs ks : List ℕ) (c : Center) → first_with_job (hs ++ ks) c ≡ None → (first_with_job hs c ≡ None) × (first_with_job ks c ≡ None)
none_joined [] ks c e = (refl, e)
none_joined (h ∷ hs) ks c e =
    let parts = none_here h (pick_for h c) (first_with_job (hs ++ ks) c) e in
    let rest = none_joined hs ks c parts.1 in
    (ap (λ (o : Option Job). first_from h o (first_with_job hs c)) parts.0 ∙ rest.0, rest.1)

none_has : (h : ℕ) (c : Center) → next c ≡ None → h < c.state.count → pick_for h c ≡ None
none_has h c e few =
    let parts = none_joined (numbers_from (suc c.last) (c.state.count - suc c.last)) (numbers_from 0 (if nat_lt c.last c.state.count then suc c.last else c.state.count)) c e in
    elim (cases_lt c.last h) [
      | inl later ↦ none_among (c.state.count - suc c.last) (suc c.last) h c parts.0 (omega (arith, later)) (omega (arith, later, few))
      | inr before ↦ by (nat_lt c.last c.state.count) parts.1 before
    ]
  where
    by : (b : Bool) → first_with_job (numbers_from 0 (if b then suc c.last else c.state.count)) c ≡ None → h ≤ c.last → pick_for h c ≡ None
    by true none before = none_among (suc c.last) 0 h c none (omega arith) (omega (arith, before))
    by false none before = none_among c.state.count 0 h c none (omega arith) (omega (arith, few))

none_picked : (hs : List ℕ) (c : Center) → ((h : ℕ) → pick_for h c ≡ None) → first_with_job hs c ≡ None
none_picked [] c none = refl
none_picked (h ∷ hs) c none = ap (λ (o : Option Job). first_from h o (first_with_job hs c)) (none h) ∙ none_picked hs c none

nothing_due : (h : ℕ) (c : Center) → c.out h ≡ None → next c ≡ None → job_of h c.state ≡ None
nothing_due h c home idle =
    elim (cases_lt h c.state.count) [
      | inl below ↦
          let here : pick_for h c ≡ job_of h c.state = ap (λ (o : Option Job). if is_some o then None else job_of h c.state) home in
          sym here ∙ none_has h c idle below
      | inr past ↦
          let test : nat_lt h c.state.count ≡ false = grind (arith, nat_tests, past) in
          ap (λ (b : Bool). if b then job_with h (c.state.handlers h).failure (c.state.handlers h) c.state else None) test
    ]

none_next : (c d : Center) → ((h : ℕ) → c.out h ≡ None) → ((h : ℕ) → d.out h ≡ None) → d.state ≡ c.state → next c ≡ None → next d ≡ None
none_next c d home none_out same idle =
    none_picked (round d.state.count d.last) d (λ h.
    ap (λ (o : Option Job). if is_some o then None else job_of h d.state) (none_out h)
    ∙ ap (λ (s : State). job_of h s) same ∙ nothing_due h c (home h) idle)

-- ---- what is left, and the world that one thread ends in

pub turns_of_lines : (es : List Settlement) → flat_map line_turns (lines_of es) ≡ turns_of es
turns_of_lines [] = refl
turns_of_lines (e ∷ es) = ap (λ (hs : List ℕ). replicate e.turns e.handler ++ hs) (turns_of_lines es)

pub thread_run : RunsAreOneThreads → (p : Image) (limit : ℕ) (left : Left) → IsRun p limit left →
    ∥ IsThreadRun p limit left.lines.items (report (world_of left)) (statuses (world_of left)) ∥₁
thread_run one_thread p limit left run =
    let es = log_of left.core in
    let c = center_of left.core in
    let s = state_of left.core in
    let rs = left.regions.items in
    let lines = left.lines.items in
    let turns : turns_of es ≡ flat_map line_turns lines = sym (ap (λ ls. flat_map line_turns ls) run.left_is.lines ∙ turns_of_lines es) in
    ∥∥₁_map (one_thread p limit left run)
    (λ (w : (y : PlainWorld) × MakeTurns (turns_of es) (opened p Two) y × EndsIn y s rs).
    record {
      world = w.0;
      makes = subst (λ (hs : List ℕ). MakeTurns hs (opened p Two) w.0) turns w.1;
      leaves = record {
        report_is = report_home (world_of left) run.over.home ∙ told_as report w.0 s rs (report_home w.0 w.2.none_out) w.2;
        statuses_are = statuses_home (world_of left) run.over.home ∙ told_as statuses w.0 s rs (statuses_home w.0 w.2.none_out) w.2;
      };
      few = run.over.few;
      short = run.over.lines;
      ends = elim run.over.ends [
        | inl idle ↦ inl (none_next c w.0.center run.over.home w.2.none_out w.2.state idle)
        | inr rest ↦ inr rest
      ];
    })

-- the same, of what was told of it
pub told_run : RunsAreOneThreads → (p : Image) (limit : ℕ) (left : Left) (text : List ℕ) (ss : List Status) → IsRun p limit left →
    text ≡ report (world_of left) → ss ≡ statuses (world_of left) → ∥ IsThreadRun p limit left.lines.items text ss ∥₁
told_run one_thread p limit left text ss run told stand =
    subst (λ (t : List ℕ). ∥ IsThreadRun p limit left.lines.items t ss ∥₁) (sym told)
    (subst (λ (us : List Status). ∥ IsThreadRun p limit left.lines.items (report (world_of left)) us ∥₁) (sym stand) (thread_run one_thread p limit left run))
