-- What a region asks in a handler's turn is what the machine's turn asks.
use Rattle.std.proofs.Common.{◌≡◌, ◌⊎◌, inl, inr, ◌++◌, ℕ, Bool, true, false, List, [], ◌∷◌, Option, Some, None, length, map, refl, sym, ap, subst, ◌∙◌}
use Rattle.std.proofs.lemmas.List.Elements.{All-head}
use Rattle.std.specs.Prelude.{All, nat_lt, if◌then◌else◌}
use Rattle.std.specs.Option.{option_map}
use Rattle.sc_tree.specs.Plain.{System}
use Rattle.sc_rules.specs.declared.entity_types.entity_type.EntityType.{EntityType}
use Rattle.sc_lockpass.specs.declared.wait_conditions.mark.Marked.{Marked}
use Rattle.sc_model.specs.declared.cause.Cause.{Cause}
use Rattle.sc_model.specs.declared.cause.Cause.TheVariants as cause
use Rattle.sc_model.specs.Environments.{separate_formals}
use Rattle.sc_model.specs.Entries.{needed_for, opened_in}
use Rattle.sc_model.specs.Failures.{to_list, fail}
use Rattle.sc_model.specs.Steps.{Act, Point, Step, Goes, Does}
use Rattle.sc_model.specs.Moves.{moves}
use Rattle.sc_model.specs.Takes as takes_at
use Rattle.sc_model.specs.Turns as turns
use Rattle.sc_model.specs.Turns.{turn, effect}
use Rattle.sc_model.specs.Handlers as machine
use Rattle.sc_model.specs.Handlers.{Request, Reply, Refused, Stage, Frame, Handler, World, point_of, frame_at}
use Rattle.sc_region.specs.declared.job.Job.{Job}
use Rattle.sc_region.specs.declared.job.Job.TheVariants as job
use Rattle.sc_region.specs.declared.job.Want.TheVariants as want
use Rattle.sc_handler.specs.Handlers as core
use Rattle.sc_handler.specs.Picking.{job_of, job_answered, job_at, job_awaiting, job_idle, job_reserving, job_with}
use Rattle.sc_request.specs.Asked.{Numbering, asked, asks_acting, asks_errand, asks_going, asks_moving, asks_on, asks_taking, request_of, taken_of, value_of}
use Rattle.sc_request.specs.Halves.{posted_of, answer_of, IsStage, IsTop, IsHalfOf}
use Rattle.sc_interp.specs.Values.{value_of as value_in}
use Rattle.sc_refines_world.specs.regions.RegionTurns as region
use Rattle.sc_refines_world.specs.regions.RegionTurns.{Half, told, settles}
use Rattle.sc_refines_world.specs.regions.RegionHalves.{IsStageFor, IsToldOf, AreHalvesOf, IsRegionHalf}
use Rattle.sc_refines_world.specs.regions.RegionSteps.{numbering_by, task_of, first_want, unless_failed, IsNamed, AreNamed, RegionsAsk}
use Rattle.sc_refines_world.proofs.regions.Alike.{own}
use Rattle.sc_refines_world.proofs.regions.Halves.{none_some, half_at, half_is, calm_halves, view, seen, same_length, IsCalm}
use Rattle.sc_refines_world.proofs.regions.SettledObjects.{Meets}
use Rattle.sc_refines_world.proofs.regions.RegionRequests.{task_there, unpassed_request}
use Rattle.sc_refines_world.proofs.regions.HalfTurns.{own_meet}
use Rattle.sc_refines_world.proofs.regions.CoreTests.{same_job, named_callback}
use Rattle.sc_refines_world.proofs.regions.VisibleWants.{acts_wants, takes_want}

-- ---- a turn

module _ (most : ℕ) (names : List (List ℕ)) (s : System) (h : ℕ) (w : World) (c : core.State) (half : IsHalfOf (numbering_by names) w c)
    (lives : (w.handlers h).failure ≡ None) where
  abbrev n : Numbering
  n = numbering_by names

  -- Under this job the region asks what the turn that comes to this asks.
  abbrev Asks : Option Job → World → Half → Type 0
  Asks None v x = Unit {0}
  Asks (Some j) v x = Meets s (v.handlers h) → first_want n s h (task_of names j) x ≡ asked n s h j (w.handlers h)

  takes_asks : (r : Request) (v : World) (gs : List Frame) → IsNamed names r.errand →
      taken_of (w.handlers h).stack (w.handlers h).queue (w.handlers h).callback ≡ Some r → length (w.handlers h).stack ≡ length gs →
      (Meets s (v.handlers h) →
      unless_failed (region.takes s h (unpassed_request r) (half_at (w.handlers h) gs)).failure (asks_errand s h (unpassed_request r) r.errand (length gs) (w.handlers h).objects)
      ≡ asks_errand s h r r.errand (length gs) (w.handlers h).objects) →
      Asks (Some (job.Take (request_of n r))) v (half_at (w.handlers h) gs)
  takes_asks r v gs named taken same e meets =
      let y = w.handlers h in
      ap (λ (t : region.Task). first_want n s h t (half_at y gs)) (task_there names r named)
      ∙ e meets
      ∙ ap (λ (d : ℕ). asks_errand s h r r.errand d y.objects) (sym same)
      ∙ ap (λ (o : Option Request). asks_taking s h (length y.stack) y.objects o) (sym taken)

  idle : (rs : List Request) → (w.handlers h).stack ≡ [] → (w.handlers h).queue ≡ rs → AreNamed names (w.handlers h) →
      Asks (job_idle (map (posted_of n) rs)) (takes_at.takes_next s h rs w) (half_at (w.handlers h) [])
  idle [] stack queued named = tt
  idle (r ∷ rs) stack queued named =
      let y = w.handlers h in
      let w1 = machine.put h (record y { queue = rs }) w in
      let all = subst (λ (qs : List Request). All (λ (q : Request). IsNamed names q.errand) (qs ++ to_list y.callback)) queued named in
      takes_asks r (takes_at.takes s h r [] w1) [] (All-head (λ (q : Request). IsNamed names q.errand) r (rs ++ to_list y.callback) all)
      (ap (λ (fs : List Frame). taken_of fs y.queue y.callback) stack ∙ ap (λ (qs : List Request). taken_of [] qs y.callback) queued)
      (ap (λ (fs : List Frame). length fs) stack)
      (takes_want s h r [] [] tt w1 (record y { queue = rs }) (own h (record y { queue = rs }) w) stack lives)

  module _ (f g : Frame) (below under : List Frame) (stack : (w.handlers h).stack ≡ f ∷ below) (halves : AreHalvesOf h (c.handlers h).stage (f ∷ below) (g ∷ under)) where
    abbrev start : Half
    start = half_at (w.handlers h) (g ∷ under)

    depths : length (f ∷ below) ≡ length (g ∷ under)
    depths = same_length h (c.handlers h).stage (f ∷ below) (g ∷ under) halves

    called : (r : Request) → (w.handlers h).callback ≡ Some r → IsCalm (c.handlers h).stage → AreNamed names (w.handlers h) →
        Asks (Some (job.Take (request_of n r))) (takes_at.takes_callback s h r (f ∷ below) w) start
    called r is calm named =
        let y = w.handlers h in
        let w1 = machine.put h (record y { callback = None }) w in
        let all = subst (λ (o : Option Request). All (λ (q : Request). IsNamed names q.errand) (y.queue ++ to_list o)) is named in
        let below_halves = calm_halves h (c.handlers h).stage (f ∷ below) (g ∷ under) calm halves in
        takes_asks r (takes_at.takes s h r (f ∷ below) w1) (g ∷ under) (named_callback (λ (q : Request). IsNamed names q.errand) y.queue r all)
        (ap (λ (fs : List Frame). taken_of fs y.queue y.callback) stack ∙ is) (ap (λ (fs : List Frame). length fs) stack ∙ depths)
        (takes_want s h r (f ∷ below) (g ∷ under) below_halves w1 (record y { callback = None }) (own h (record y { callback = None }) w) stack lives)

    -- what it asks, by the stage of the frame
    asks_at : (stage : Stage) → f.stage ≡ stage →
        asks_on n s h (w.handlers h).stack (w.handlers h).objects ≡ asks_going n s h stage f (length (g ∷ under)) (w.handlers h).objects
    asks_at stage is =
        ap (λ (fs : List Frame). asks_on n s h fs (w.handlers h).objects) stack
        ∙ ap (λ (st : Stage). asks_going n s h st f (length (f ∷ below)) (w.handlers h).objects) is
        ∙ ap (λ (d : ℕ). asks_going n s h stage f d (w.handlers h).objects) depths

    answers : (k : ℕ) (gives : Option EntityType) (b : Bool) (a : machine.Answer) → f.stage ≡ machine.Awaits k gives b →
        Asks (Some (job_answered k b (answer_of a))) (takes_at.takes_answer h a k gives b f below w) start
    answers k gives true (machine.Reply v) is meets =
        let awaits : g.stage ≡ machine.Awaits h gives true = subst (λ (st : Stage). IsStageFor h st g.stage) is halves.0.stands in
        let g' = record g { values = told k g.values } in
        subst (λ (st : Stage). unless_failed (region.takes_made s h st g' under start).failure (asks_going n s h st g' (length (g ∷ under)) (w.handlers h).objects)
        ≡ want.Continue) (sym awaits) refl
        ∙ sym (asks_at (machine.Awaits k gives true) is)
    answers k gives false (machine.Reply v) is meets = by (subst (λ (st : Stage). IsStageFor h st g.stage) is halves.0.stands)
      where
        by : (g.stage ≡ machine.Awaits k gives false) ⊎ ((gives ≡ None) × (g.stage ≡ machine.Runs)) →
            first_want n s h (task_of names (job.Reply (option_map value_of v))) start ≡ want.Continue
        by (inl awaits) =
            subst (λ (st : Stage). unless_failed (region.takes_reply st (option_map value_in (option_map value_of v)) g under start).failure want.Continue ≡ want.Continue) (sym awaits) refl
        by (inr (none, runs)) =
            subst (λ (st : Stage). unless_failed (region.takes_reply st (option_map value_in (option_map value_of v)) g under start).failure want.Continue ≡ want.Continue) (sym runs) refl
    answers k gives true machine.Failed is meets = refl
    answers k gives false machine.Failed is meets = refl
    answers k gives true machine.Refused is meets = refl
    answers k gives false machine.Refused is meets = refl

    waits : (k : ℕ) (gives : Option EntityType) (b : Bool) (callback : Option Request) (a : Option machine.Answer) → f.stage ≡ machine.Awaits k gives b →
        IsCalm (c.handlers h).stage → (w.handlers h).callback ≡ callback → AreNamed names (w.handlers h) →
        Asks (job_awaiting k b (option_map (posted_of n) callback) (option_map answer_of a)) (turns.waits s h callback a k gives b f below w) start
    waits k gives b (Some r) a is calm called_back named = called r called_back calm named
    waits k gives b None (Some a) is calm called_back named = answers k gives b a is
    waits k gives b None None is calm called_back named = tt

    -- by the tests on what is needed
    reserves : (v : World) (ks : List ℕ) (lost may : Bool) → unless_failed (region.takes_grant g.stage ks g under start).failure want.Continue ≡ want.Continue →
        Asks (job_reserving lost may ks) v start
    reserves v ks true may e = λ meets. refl
    reserves v ks false true e = λ meets. e
    reserves v ks false false e = tt

    -- ---- the topmost frame goes on

    module _ (m : List Marked) (is : f.stage ≡ machine.Runs) where
      -- the handler after the silent steps
      abbrev stepped_to : Point → Handler
      stepped_to p = record (w.handlers h) { objects = p.objects; stack = frame_at f p ∷ below }

      abbrev behind : Point → World
      behind p = machine.put h (stepped_to p) w

      act : (a : Act) (p : Point) → Meets s ((effect most s h a (frame_at f p) below (behind p)).handlers h) →
          unless_failed (region.acts s h a (view (frame_at f p) m) under (half_at (stepped_to p) (view (frame_at f p) m ∷ under))).failure
          (asks_acting n s h a (view (frame_at f p) m) (length (g ∷ under)) p.objects)
          ≡ asks_acting n s h a (frame_at f p) (length (g ∷ under)) p.objects
      act a p meets =
          let same = own h (stepped_to p) w in
          subst (λ (u : Handler). unless_failed (region.acts s h a (view (frame_at f p) m) under (half_at u (view (frame_at f p) m ∷ under))).failure
          (asks_acting n s h a (view (frame_at f p) m) (length (g ∷ under)) u.objects)
          ≡ asks_acting n s h a (frame_at f p) (length (g ∷ under)) u.objects) same
          (acts_wants n most s h (behind p) (frame_at f p) m below under (ap (λ (y : Handler). y.stack) same) (ap (λ (y : Handler). y.failure) same ∙ lives) is halves.1 a meets)

      step : (st : Step) → Meets s ((turns.settles most s h st f below w).handlers h) →
          unless_failed (region.moved s h st (view f m) under (half_at (w.handlers h) (view f m ∷ under))).failure (asks_moving n s h st (view f m) (length (g ∷ under)))
          ≡ asks_moving n s h st f (length (g ∷ under))
      step (Goes p) meets = refl
      step (Does a p) meets = act a p meets

      runs : Meets s ((turns.settles most s h (moves s f.current (point_of f (w.handlers h).objects)) f below w).handlers h) →
          unless_failed (region.goes_on s h machine.Runs (view f m) under (half_at (w.handlers h) (view f m ∷ under))).failure
          (asks_going n s h machine.Runs (view f m) (length (g ∷ under)) (w.handlers h).objects)
          ≡ asks_on n s h (w.handlers h).stack (w.handlers h).objects
      runs meets = step (moves s f.current (point_of f (w.handlers h).objects)) meets ∙ sym (asks_at machine.Runs is)

    -- ---- each stage

    abbrev ran : World
    ran = turns.settles most s h (moves s f.current (point_of f (w.handlers h).objects)) f below w

    running : f.stage ≡ machine.Runs → ((c.handlers h).stage ≡ core.Runs) ⊎ ((k : ℕ) × ((c.handlers h).stage ≡ core.HasMade k)) →
        Asks (job_at h (c.handlers h).stage (c.handlers h) c) ran start
    running is (inl goes) =
        subst (λ (t : core.HandlerStage). Asks (job_at h t (c.handlers h) c) ran start) (sym goes)
        (λ meets.
        let y = w.handlers h in
        let stands : g.stage ≡ machine.Runs = subst (λ (st : Stage). IsStageFor h st g.stage) is halves.0.stands in
        let values : f.values ≡ g.values =
        subst (λ (st : Stage). IsToldOf st core.Runs f.values g.values) is (subst (λ (t : core.HandlerStage). IsToldOf f.stage t f.values g.values) goes halves.0.values) in
        let same : g ≡ view f g.mark = seen h (c.handlers h).stage f g f.stage g.values f.values halves.0 (stands ∙ sym is) (sym values) in
        subst (λ (st : Stage). unless_failed (region.goes_on s h st g under start).failure (asks_going n s h st g (length (g ∷ under)) y.objects) ≡ asks_on n s h y.stack y.objects) (sym stands)
        (subst (λ (g' : Frame). unless_failed (region.goes_on s h machine.Runs g' under (half_at y (g' ∷ under))).failure
        (asks_going n s h machine.Runs g' (length (g ∷ under)) y.objects) ≡ asks_on n s h y.stack y.objects) (sym same)
        (runs g.mark is meets)))
    running is (inr (k, made)) =
        subst (λ (t : core.HandlerStage). Asks (job_at h t (c.handlers h) c) ran start) (sym made)
        (λ meets.
        let y = w.handlers h in
        let stands : g.stage ≡ machine.Runs = subst (λ (st : Stage). IsStageFor h st g.stage) is halves.0.stands in
        let values : f.values ≡ told k g.values =
        subst (λ (st : Stage). IsToldOf st (core.HasMade k) f.values g.values) is (subst (λ (t : core.HandlerStage). IsToldOf f.stage t f.values g.values) made halves.0.values) in
        let same : record g { values = told k g.values } ≡ view f g.mark =
        seen h (c.handlers h).stage f g f.stage (told k g.values) f.values halves.0 (stands ∙ sym is) (sym values) in
        subst (λ (st : Stage). unless_failed (region.takes_made s h st (record g { values = told k g.values }) under start).failure
        (asks_going n s h st (record g { values = told k g.values }) (length (g ∷ under)) y.objects) ≡ asks_on n s h y.stack y.objects) (sym stands)
        (subst (λ (g' : Frame). unless_failed (region.goes_on s h machine.Runs g' under (half_at y (g' ∷ under))).failure
        (asks_going n s h machine.Runs g' (length (g ∷ under)) y.objects) ≡ asks_on n s h y.stack y.objects) (sym same)
        (runs g.mark is meets)))

    in_call : (gives : Option EntityType) → f.stage ≡ machine.InCall gives → (c.handlers h).stage ≡ core.Runs →
        Asks (job_at h (c.handlers h).stage (c.handlers h) c) (fail h cause.BadCode w) start
    in_call gives is goes =
        subst (λ (t : core.HandlerStage). Asks (job_at h t (c.handlers h) c) (fail h cause.BadCode w) start) (sym goes)
        (λ meets.
        let y = w.handlers h in
        let stands : g.stage ≡ machine.InCall gives = subst (λ (st : Stage). IsStageFor h st g.stage) is halves.0.stands in
        subst (λ (st : Stage). unless_failed (region.goes_on s h st g under start).failure (asks_going n s h st g (length (g ∷ under)) y.objects) ≡ want.Fail cause.BadCode) (sym stands) refl
        ∙ sym (asks_at (machine.InCall gives) is))

    goes : (stage : Stage) → f.stage ≡ stage → AreNamed names (w.handlers h) → IsStage stage f (c.handlers h).stage →
        Asks (job_at h (c.handlers h).stage (c.handlers h) c) (turns.goes_on most s h stage f below w) start
    goes machine.Runs is named at = running is at
    goes machine.Reserves is named at =
        let ks = needed_for h (separate_formals f.environment) w in
        let v = turns.goes_on most s h machine.Reserves f below w in
        let stands : g.stage ≡ machine.Reserves = subst (λ (st : Stage). IsStageFor h st g.stage) is halves.0.stands in
        subst (λ (t : core.HandlerStage). Asks (job_at h t (c.handlers h) c) v start) (sym at)
        (subst (λ (j : Option Job). Asks j v start) (sym (same_job n h w c (separate_formals f.environment) f.mark half))
        (reserves v ks _ _ (subst (λ (st : Stage). unless_failed (region.takes_grant st ks g under start).failure want.Continue ≡ want.Continue) (sym stands) refl)))
    goes machine.ReservesBlock is named at =
        let ks = needed_for h (opened_in f.environment f.tasks) w in
        let v = turns.goes_on most s h machine.ReservesBlock f below w in
        let stands : g.stage ≡ machine.ReservesBlock = subst (λ (st : Stage). IsStageFor h st g.stage) is halves.0.stands in
        subst (λ (t : core.HandlerStage). Asks (job_at h t (c.handlers h) c) v start) (sym at)
        (subst (λ (j : Option Job). Asks j v start) (sym (same_job n h w c (opened_in f.environment f.tasks) [] half))
        (reserves v ks _ _ (subst (λ (st : Stage). unless_failed (region.takes_grant st ks g under start).failure want.Continue ≡ want.Continue) (sym stands) refl)))
    goes (machine.InCall gives) is named at = in_call gives is at
    goes (machine.Awaits k gives b) is named at =
        let y = w.handlers h in
        let v = turns.waits s h y.callback y.answer k gives b f below w in
        subst (λ (t : core.HandlerStage). Asks (job_at h t (c.handlers h) c) v start) (sym at)
        (subst (λ (p : Option core.Posted). Asks (job_awaiting k b p (c.handlers h).answer) v start) (sym (half.handlers h).callback)
        (subst (λ (a : Option core.Answer). Asks (job_awaiting k b (option_map (posted_of n) y.callback) a) v start) (sym (half.handlers h).answer)
        (waits k gives b y.callback y.answer is (subst IsCalm (sym at) tt) refl named)))

  stands_asks : (stack gs : List Frame) → (w.handlers h).stack ≡ stack → AreHalvesOf h (c.handlers h).stage stack gs → IsTop stack (c.handlers h).stage →
      AreNamed names (w.handlers h) →
      Asks (job_at h (c.handlers h).stage (c.handlers h) c) (turns.turn_with most s h None stack w) (half_at (w.handlers h) gs)
  stands_asks [] [] stack halves top named =
      let y = w.handlers h in
      let v = takes_at.takes_next s h y.queue w in
      subst (λ (t : core.HandlerStage). Asks (job_at h t (c.handlers h) c) v (half_at y [])) (sym top)
      (subst (λ (ps : List core.Posted). Asks (job_idle ps) v (half_at y [])) (sym (half.handlers h).queue) (idle y.queue stack refl named))
  stands_asks [] (g ∷ under) stack halves top named = absurd halves
  stands_asks (f ∷ below) [] stack halves top named = absurd halves
  stands_asks (f ∷ below) (g ∷ under) stack halves top named = goes f g below under stack halves f.stage refl named top

-- ---- each handler

module _ (most : ℕ) (names : List (List ℕ)) (s : System) (h : ℕ) (w : World) (c : core.State) (x : Half) (half : IsHalfOf (numbering_by names) w c)
    (given : IsRegionHalf h (w.handlers h) (c.handlers h).stage x) (named : AreNamed names (w.handlers h)) where
  -- Under the job, if it is one, the region asks what the turn that comes to this asks.
  abbrev AsksFor : Option Job → World → Half → Type 0
  AsksFor None v z = Unit {0}
  AsksFor (Some j) v z = Meets s (v.handlers h) → first_want (numbering_by names) s h (task_of names j) z ≡ asked (numbering_by names) s h j (w.handlers h)

  asks_for : (lives : (w.handlers h).failure ≡ None) (j : Option Job) (v : World) (z : Half) → Asks most names s h w c half lives j v z → AsksFor j v z
  asks_for lives None v z e = e
  asks_for lives (Some j) v z e = e

  living : (why : Option Cause) → (w.handlers h).failure ≡ why →
      AsksFor (job_with h why (c.handlers h) c) (turns.turn_with most s h why (w.handlers h).stack w) x
  living (Some why) fell = tt
  living None lives =
      let y = w.handlers h in
      let v = turns.turn_with most s h None y.stack w in
      let j = job_at h (c.handlers h).stage (c.handlers h) c in
      subst (λ (z : Half). AsksFor j v z) (sym (half_is h (c.handlers h).stage y x lives given))
      (asks_for lives j v (half_at y x.stack)
      (stands_asks most names s h w c half lives y.stack x.stack refl (given.stands lives).1 (half.handlers h).stage named))

  numbered : (a b : Bool) → a ≡ b →
      AsksFor (if a then job_with h (c.handlers h).failure (c.handlers h) c else None)
      (if b then turns.turn_with most s h (w.handlers h).failure (w.handlers h).stack w else w) x
  numbered false false same = tt
  numbered true true same =
      let y = w.handlers h in
      let v = turns.turn_with most s h y.failure y.stack w in
      subst (λ (why : Option Cause). AsksFor (job_with h why (c.handlers h) c) v x) (sym (half.handlers h).failure) (living y.failure refl)
  numbered true false same = cc
  numbered false true same = cc

  -- a handler that has a job has a number
  picked : (j : Job) → job_of h c ≡ Some j → nat_lt h w.count ≡ true
  picked j is = ap (λ (k : ℕ). nat_lt h k) (sym half.count) ∙ by (nat_lt h c.count) is
    where
      by : (a : Bool) → (if a then job_with h (c.handlers h).failure (c.handlers h) c else None) ≡ Some j → a ≡ true
      by true e = refl
      by false e = none_some j e

  asks : (j : Job) → job_of h c ≡ Some j → Meets s ((turn most s h w).handlers h) →
      first_want (numbering_by names) s h (task_of names j) x ≡ asked (numbering_by names) s h j (w.handlers h)
  asks j is =
      subst (λ (o : Option Job). AsksFor o (turn most s h w) x) is
      (numbered (nat_lt h c.count) (nat_lt h w.count) (ap (λ (k : ℕ). nat_lt h k) half.count))

-- What the region asks is what the machine's turn asks.
pub regions_ask : RegionsAsk
regions_ask most names s h w c x j half given is named meets =
    asks most names s h w c x half given named j is (own_meet most s h w meets (picked most names s h w c x half given named j is))
