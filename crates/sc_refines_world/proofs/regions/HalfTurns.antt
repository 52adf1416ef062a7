-- What a handler's turn makes of the region's half, move by move, where the core's half and the region's are those of the machine.
use Rattle.std.proofs.Common.{◌≡◌, ◌⊎◌, inl, inr, ◌<◌, ◌||◌, ◌++◌, ℕ, Bool, true, false, List, [], ◌∷◌, Option, Some, None, length, map, refl, sym, ap, subst, ◌∙◌, lt_irrefl, arith}
use Rattle.std.proofs.lemmas.Bool.{cases_Bool, ltb-true}
use Rattle.std.proofs.lemmas.List.Elements.{All-head}
use Rattle.std.specs.Prelude.{All, nat_lt, if◌then◌else◌}
use Rattle.std.specs.Option.{option_map}
use Rattle.sc_tree.specs.Plain.{System}
use Rattle.sc_rules.specs.declared.entity_types.entity_type.EntityType.{EntityType}
use Rattle.sc_lockpass.specs.wait_conditions.Reservations.{reserve_fails}
use Rattle.sc_lockpass.specs.declared.wait_conditions.mark.Marked.{Marked}
use Rattle.sc_model.specs.declared.cause.Cause.{Cause}
use Rattle.sc_model.specs.declared.cause.Cause.TheVariants as cause
use Rattle.sc_model.specs.Values.{Value, Operand, values_of}
use Rattle.sc_model.specs.Environments.{separate_formals}
use Rattle.sc_model.specs.Entries as entries
use Rattle.sc_model.specs.Entries.{needed_for, opened_in}
use Rattle.sc_model.specs.Asking as asking
use Rattle.sc_model.specs.Failures.{to_list, fail}
use Rattle.sc_model.specs.Steps.{Act, Prints, Until, Creates, CreatesHandler, Enters, Requests, Starts, Refuses, Opens, Leaves, Exits, Fails, Point, Step, Goes, Does}
use Rattle.sc_model.specs.Moves.{moves}
use Rattle.sc_model.specs.Takes as takes_at
use Rattle.sc_model.specs.Sessions as sessions
use Rattle.sc_model.specs.Settled.{SettledObjectsMeet}
use Rattle.sc_model.specs.Turns as turns
use Rattle.sc_model.specs.Turns.{turn}
use Rattle.sc_model.specs.Handlers as machine
use Rattle.sc_model.specs.Handlers.{Request, Stage, Frame, Handler, World, point_of, frame_at}
use Rattle.sc_region.specs.declared.job.Job.{Job}
use Rattle.sc_region.specs.declared.job.Job.TheVariants as job
use Rattle.sc_region.specs.declared.job.Want.{Want}
use Rattle.sc_region.specs.declared.job.Want.TheVariants as want
use Rattle.sc_handler.specs.Handlers as core
use Rattle.sc_handler.specs.Picking.{job_answered, job_at, job_awaiting, job_idle, job_reserving}
use Rattle.sc_handler.specs.Fits.{fits_turns}
use Rattle.sc_request.specs.Settling.{asked_in, begun, made_at}
use Rattle.sc_request.specs.Asked.{Numbering, asked, asks_acting, asks_going, asks_moving, asks_on, request_of, taken_of, value_of}
use Rattle.sc_request.specs.Halves.{posted_of, answer_of, IsStage, IsTop, IsHalfOf}
use Rattle.sc_request.specs.Steps.{stepped}
use Rattle.sc_refines_world.specs.regions.RegionTurns as region
use Rattle.sc_refines_world.specs.regions.RegionTurns.{Half, told, taken_turn}
use Rattle.sc_refines_world.specs.regions.RegionHalves.{IsStageFor, IsToldOf, AreHalvesOf, IsRegionHalf}
use Rattle.sc_refines_world.specs.regions.RegionSteps.{numbering_by, taken_if, IsNamed, AreNamed}
use Rattle.sc_refines_world.specs.regions.Order.{AreInOrder, TakesNone}
use Rattle.sc_refines_world.proofs.regions.Alike.{own, fails_alike}
use Rattle.sc_refines_world.proofs.regions.Halves.{half_calm, half_fallen, half_at, calm_halves, view, seen, fail_both, IsCalm}
use Rattle.sc_refines_world.proofs.regions.SettledObjects.{Meets}
use Rattle.sc_refines_world.proofs.regions.VisibleSteps as acting
use Rattle.sc_refines_world.proofs.regions.VisibleSteps.{IsPlainAct}
use Rattle.sc_refines_world.proofs.regions.CalmStages.{IsPlain, IsRested, RestedUnder, asked_calm, creates_made}
use Rattle.sc_refines_world.proofs.regions.Plain.{taking as taking_plain, acting as acting_plain}
use Rattle.sc_refines_world.proofs.regions.RegionRequests.{value_back, task_there, unpassed_request, takes_half}
use Rattle.sc_refines_world.proofs.regions.TakenAnswers as answering
use Rattle.sc_refines_world.proofs.regions.Others.{turn_counts}
use Rattle.sc_refines_world.proofs.regions.CoreTests.{same_job, named_callback}

-- ---- a turn

module _ (most : ℕ) (names : List (List ℕ)) (s : System) (h : ℕ) (w : World) (c : core.State) (counted : h < w.count)
    (half : IsHalfOf (numbering_by names) w c) (lives : (w.handlers h).failure ≡ None) where
  abbrev n : Numbering
  n = numbering_by names

  -- Under this job the turn comes to this.
  abbrev Comes : Option Job → World → Half → Type 0
  Comes j v x =
      RestedUnder h c j → Meets s (v.handlers h) →
      IsRegionHalf h (v.handlers h) ((stepped most n s h w j c).handlers h).stage (taken_if s h names j x)

  apart : h ≡ w.count → ⊥
  apart e = lt_irrefl w.count (subst (λ (k : ℕ). k < w.count) e counted)

  -- the core has nothing to tell after it
  settled_half : (j : Job) (v : World) (z : Half) → IsPlain (asked n s h j (w.handlers h)) → IsRested ((begun h j c).handlers h) →
      IsRegionHalf h (v.handlers h) core.Runs z → IsRegionHalf h (v.handlers h) ((stepped most n s h w (Some j) c).handlers h).stage z
  settled_half j v z plain rested e =
      half_calm h (v.handlers h) _ z
      (asked_calm most h (fits_turns 1 (c.handlers h).stage j (asked n s h j (w.handlers h))) (asked n s h j (w.handlers h)) (begun h j c) plain rested) e

  -- both fail
  fails_half : (j : Job) (why : Cause) (x : Half) → IsPlain (asked n s h j (w.handlers h)) → IsRested ((begun h j c).handlers h) →
      x.objects ≡ (w.handlers h).objects → x.output ≡ (w.handlers h).output →
      IsRegionHalf h ((fail h why w).handlers h) ((stepped most n s h w (Some j) c).handlers h).stage (region.failed why x)
  fails_half j why x plain rested objects output = settled_half j (fail h why w) (region.failed why x) plain rested (fail_both h core.Runs why [] w x objects output)

  -- ---- requests

  takes_comes : (r : Request) (v : World) (fs gs : List Frame) → IsNamed names r.errand → AreHalvesOf h core.Runs fs gs →
      (Meets s (v.handlers h) → IsRegionHalf h (v.handlers h) core.Runs (region.takes s h (unpassed_request r) (half_at (w.handlers h) gs))) →
      Comes (Some (job.Take (request_of n r))) v (half_at (w.handlers h) gs)
  takes_comes r v fs gs named halves e rested meets =
      let y = w.handlers h in
      settled_half (job.Take (request_of n r)) v _ (taking_plain s h (length y.stack) y.objects (taken_of y.stack y.queue y.callback)) rested
      (subst (λ (t : region.Task). IsRegionHalf h (v.handlers h) core.Runs (taken_turn s h t (half_at y gs))) (sym (task_there names r named)) (e meets))

  idle : (rs : List Request) → (w.handlers h).stack ≡ [] → (w.handlers h).queue ≡ rs → AreNamed names (w.handlers h) →
      IsRegionHalf h (w.handlers h) (c.handlers h).stage (half_at (w.handlers h) []) →
      Comes (job_idle (map (posted_of n) rs)) (takes_at.takes_next s h rs w) (half_at (w.handlers h) [])
  idle [] stack queued named e = λ rested meets. e
  idle (r ∷ rs) stack queued named e =
      let y = w.handlers h in
      let w1 = machine.put h (record y { queue = rs }) w in
      let all = subst (λ (qs : List Request). All (λ (q : Request). IsNamed names q.errand) (qs ++ to_list y.callback)) queued named in
      takes_comes r (takes_at.takes s h r [] w1) [] [] (All-head (λ (q : Request). IsNamed names q.errand) r (rs ++ to_list y.callback) all) tt
      (takes_half s h r [] [] tt w1 (record y { queue = rs }) (own h (record y { queue = rs }) w) stack lives)

  -- ---- the topmost frame waits

  module _ (f g : Frame) (below under : List Frame) (stack : (w.handlers h).stack ≡ f ∷ below) (halves : AreHalvesOf h (c.handlers h).stage (f ∷ below) (g ∷ under))
      (given : IsRegionHalf h (w.handlers h) (c.handlers h).stage (half_at (w.handlers h) (g ∷ under))) where
    abbrev x : Half
    x = half_at (w.handlers h) (g ∷ under)

    called : (r : Request) → (w.handlers h).callback ≡ Some r → IsCalm (c.handlers h).stage → AreNamed names (w.handlers h) →
        Comes (Some (job.Take (request_of n r))) (takes_at.takes_callback s h r (f ∷ below) w) x
    called r is calm named =
        let y = w.handlers h in
        let w1 = machine.put h (record y { callback = None }) w in
        let all = subst (λ (o : Option Request). All (λ (q : Request). IsNamed names q.errand) (y.queue ++ to_list o)) is named in
        let below_halves = calm_halves h (c.handlers h).stage (f ∷ below) (g ∷ under) calm halves in
        takes_comes r (takes_at.takes s h r (f ∷ below) w1) (f ∷ below) (g ∷ under) (named_callback (λ (q : Request). IsNamed names q.errand) y.queue r all) below_halves
        (takes_half s h r (f ∷ below) (g ∷ under) below_halves w1 (record y { callback = None }) (own h (record y { callback = None }) w) stack lives)

    -- what it asks, by the stage of the frame
    asks_at : (stage : Stage) → f.stage ≡ stage →
        asks_on n s h (w.handlers h).stack (w.handlers h).objects ≡ asks_going n s h stage f (length (f ∷ below)) (w.handlers h).objects
    asks_at stage is =
        ap (λ (fs : List Frame). asks_on n s h fs (w.handlers h).objects) stack
        ∙ ap (λ (st : Stage). asks_going n s h st f (length (f ∷ below)) (w.handlers h).objects) is

    plain_at : (stage : Stage) → f.stage ≡ stage → IsPlain (asks_going n s h stage f (length (f ∷ below)) (w.handlers h).objects) →
        IsPlain (asks_on n s h (w.handlers h).stack (w.handlers h).objects)
    plain_at stage is plain = subst IsPlain (sym (asks_at stage is)) plain

    answers : (k : ℕ) (gives : Option EntityType) (b : Bool) (a : machine.Answer) → f.stage ≡ machine.Awaits k gives b → TakesNone f.stage →
        Comes (Some (job_answered k b (answer_of a))) (takes_at.takes_answer h a k gives b f below w) x
    answers k gives true (machine.Reply v) is none rested meets =
        let empty : gives ≡ None = subst TakesNone is none in
        settled_half (job.Made k) (takes_at.takes_answer h (machine.Reply v) k gives true f below w) _ (plain_at (machine.Awaits k gives true) is tt) rested
        (answering.creation_half s h w f g below under lives halves.1 (c.handlers h).stage k gives v halves.0 is empty)
    answers k gives false (machine.Reply v) is none rested meets =
        settled_half (job.Reply (option_map value_of v)) (takes_at.takes_answer h (machine.Reply v) k gives false f below w) _ tt rested
        (subst (λ (u : Option Value). IsRegionHalf h ((takes_at.takes_answer h (machine.Reply v) k gives false f below w).handlers h) core.Runs (region.takes_reply g.stage u g under x))
        (sym (value_back v)) (answering.reply_half s h w f g below under lives halves.1 (c.handlers h).stage k gives v halves.0 is))
    answers k gives true machine.Failed is none rested meets = fails_half job.Failed cause.SupplierFailed x tt rested refl refl
    answers k gives false machine.Failed is none rested meets = fails_half job.Failed cause.SupplierFailed x tt rested refl refl
    answers k gives true machine.Refused is none rested meets = fails_half job.Refused cause.Precondition x tt rested refl refl
    answers k gives false machine.Refused is none rested meets = fails_half job.Refused cause.Precondition x tt rested refl refl

    waits : (k : ℕ) (gives : Option EntityType) (b : Bool) (callback : Option Request) (a : Option machine.Answer) → f.stage ≡ machine.Awaits k gives b →
        TakesNone f.stage → IsCalm (c.handlers h).stage → (w.handlers h).callback ≡ callback → AreNamed names (w.handlers h) →
        Comes (job_awaiting k b (option_map (posted_of n) callback) (option_map answer_of a)) (turns.waits s h callback a k gives b f below w) x
    waits k gives b (Some r) a is none calm called_back named = called r called_back calm named
    waits k gives b None (Some a) is none calm called_back named = answers k gives b a is none
    waits k gives b None None is none calm called_back named = λ rested meets. given

    -- ---- reserve steps

    -- by the tests on what is needed
    reserves : (f' : Frame) (ks : List ℕ) (lost may : Bool) →
        IsRegionHalf h ((sessions.reserve h ks (machine.with_stack h (f' ∷ below) w)).handlers h) core.Runs (region.takes_grant g.stage ks g under x) →
        reserve_fails (sessions.standing_in w) w.rights ks ≡ lost →
        Comes (job_reserving lost may ks) (entries.reserves_if (lost || may) h ks f' below w) x
    reserves f' ks true may e is rested meets = rw is (fails_half job.Failed cause.SupplierFailed x tt rested refl refl)
    reserves f' ks false true e is rested meets =
        rw is (settled_half (job.Granted (record { items = ks })) (sessions.reserve h ks (machine.with_stack h (f' ∷ below) w)) _ tt rested e)
    reserves f' ks false false e is rested meets = given

    -- ---- the topmost frame goes on

    -- the core has begun the job, and stands so
    module _ (c1 : core.State) (count : c1.count ≡ w.count) (rested : IsRested (c1.handlers h)) (m : List Marked) (is : f.stage ≡ machine.Runs) where
      -- the handler after the silent steps
      abbrev stepped_to : Point → Handler
      stepped_to p = record (w.handlers h) { objects = p.objects; stack = frame_at f p ∷ below }

      abbrev behind : Point → World
      behind p = machine.put h (stepped_to p) w

      stack_behind : (p : Point) → ((behind p).handlers h).stack ≡ frame_at f p ∷ below
      stack_behind p = ap (λ (y : Handler). y.stack) (own h (stepped_to p) w)

      lives_behind : (p : Point) → ((behind p).handlers h).failure ≡ None
      lives_behind p = ap (λ (y : Handler). y.failure) (own h (stepped_to p) w) ∙ lives

      -- what the visible step leaves, where the core stands so
      abbrev Leaves_half : Act → Point → core.HandlerStage → Type 0
      Leaves_half a p t =
          IsRegionHalf h ((turns.effect most s h a (frame_at f p) below (behind p)).handlers h) t
          (region.acts s h a (view (frame_at f p) m) under (half_at (stepped_to p) (view (frame_at f p) m ∷ under)))

      abbrev settled_at : Act → Point → core.HandlerStage
      settled_at a p = ((asked_in true most h (asks_acting n s h a (frame_at f p) (length (f ∷ below)) p.objects) c1).handlers h).stage

      plain_act : (a : Act) (p : Point) → IsPlainAct a → Meets s ((turns.effect most s h a (frame_at f p) below (behind p)).handlers h) → Leaves_half a p (settled_at a p)
      plain_act a p plain meets =
          half_calm h _ (settled_at a p) _
          (asked_calm most h true (asks_acting n s h a (frame_at f p) (length (f ∷ below)) p.objects) c1
          (acting_plain n s h a (frame_at f p) (length (f ∷ below)) p.objects plain) rested)
          (subst (λ (u : Handler). IsRegionHalf h ((turns.effect most s h a (frame_at f p) below (behind p)).handlers h) core.Runs
          (region.acts s h a (view (frame_at f p) m) under (half_at u (view (frame_at f p) m ∷ under)))) (own h (stepped_to p) w)
          (acting.acts most s h (behind p) (frame_at f p) m below under (stack_behind p) (lives_behind p) is halves.1 a plain apart meets))

      -- a handler is created, and its creator goes on
      creation : (class : ℕ) (procedure : Option (List ℕ)) (us : List Operand) (t : EntityType) (p : Point) →
          Leaves_half (CreatesHandler class procedure us t false) p (settled_at (CreatesHandler class procedure us t false) p)
      creation class procedure us t p = by (cases_Bool (nat_lt w.count most))
        where
          made : Leaves_half (CreatesHandler class procedure us t false) p (core.HasMade w.count)
          made =
              subst (λ (u : Handler). IsRegionHalf h ((turns.effect most s h (CreatesHandler class procedure us t false) (frame_at f p) below (behind p)).handlers h) (core.HasMade w.count)
              (region.acts s h (CreatesHandler class procedure us t false) (view (frame_at f p) m) under (half_at u (view (frame_at f p) m ∷ under)))) (own h (stepped_to p) w)
              (acting.creates most s h (behind p) (frame_at f p) m below under (stack_behind p) (lives_behind p) is halves.1 class procedure us t false apart)

          by : (nat_lt w.count most ≡ true) ⊎ (nat_lt w.count most ≡ false) →
              Leaves_half (CreatesHandler class procedure us t false) p (settled_at (CreatesHandler class procedure us t false) p)
          by (inl room) =
              subst (Leaves_half (CreatesHandler class procedure us t false) p)
              (sym (creates_made most h class (option_map (n.procedure class) procedure) (record { items = map value_of (values_of us) }) c1
              (ap (λ (k : ℕ). nat_lt k most) count ∙ room)
              ∙ ap (λ (k : ℕ). core.HasMade k) count)) made
          by (inr full) =
              half_fallen h _ (core.HasMade w.count) _ _ cause.TooManyHandlers
              (subst (λ (b : Bool).
              ((if b then asking.created h (record { handler = w.count; number = 1; class = class }) procedure us t false (frame_at f p) below (behind p)
              else fail h cause.TooManyHandlers (behind p)).handlers h).failure ≡ Some cause.TooManyHandlers)
              (sym full) (fails_alike h cause.TooManyHandlers [] (behind p)).failure) made

      act : (a : Act) (p : Point) → Meets s ((turns.effect most s h a (frame_at f p) below (behind p)).handlers h) → Leaves_half a p (settled_at a p)
      act (CreatesHandler class procedure us t false) p meets = creation class procedure us t p
      act (CreatesHandler class procedure us t true) p meets = plain_act (CreatesHandler class procedure us t true) p tt meets
      act (Prints text) p meets = plain_act (Prints text) p tt meets
      act Until p meets = plain_act Until p tt meets
      act Creates p meets = plain_act Creates p tt meets
      act Starts p meets = plain_act Starts p tt meets
      act (Enters b me name us gives) p meets = plain_act (Enters b me name us gives) p tt meets
      act (Requests r name us gives passing) p meets = plain_act (Requests r name us gives passing) p tt meets
      act (Refuses k) p meets = plain_act (Refuses k) p tt meets
      act Opens p meets = plain_act Opens p tt meets
      act Leaves p meets = plain_act Leaves p tt meets
      act Exits p meets = plain_act Exits p tt meets
      act (Fails why) p meets = plain_act (Fails why) p tt meets

      step : (st : Step) → Meets s ((turns.settles most s h st f below w).handlers h) →
          IsRegionHalf h ((turns.settles most s h st f below w).handlers h) ((asked_in true most h (asks_moving n s h st f (length (f ∷ below))) c1).handlers h).stage
          (region.moved s h st (view f m) under (half_at (w.handlers h) (view f m ∷ under)))
      step (Goes p) meets =
          half_calm h (w.handlers h) _ _ (asked_calm most h true want.Continue c1 tt rested)
          (acting.unchanged most s h w f m below under stack lives is halves.1)
      step (Does a p) meets = act a p meets

      runs : Meets s ((turns.settles most s h (moves s f.current (point_of f (w.handlers h).objects)) f below w).handlers h) →
          IsRegionHalf h ((turns.settles most s h (moves s f.current (point_of f (w.handlers h).objects)) f below w).handlers h)
          ((asked_in true most h (asks_on n s h (w.handlers h).stack (w.handlers h).objects) c1).handlers h).stage
          (region.goes_on s h machine.Runs (view f m) under (half_at (w.handlers h) (view f m ∷ under)))
      runs meets =
          subst (λ (o : Want).
          IsRegionHalf h ((turns.settles most s h (moves s f.current (point_of f (w.handlers h).objects)) f below w).handlers h)
          ((asked_in true most h o c1).handlers h).stage
          (region.goes_on s h machine.Runs (view f m) under (half_at (w.handlers h) (view f m ∷ under))))
          (sym (asks_at machine.Runs is)) (step (moves s f.current (point_of f (w.handlers h).objects)) meets)

    -- ---- each stage

    abbrev ran : World
    ran = turns.settles most s h (moves s f.current (point_of f (w.handlers h).objects)) f below w

    running : f.stage ≡ machine.Runs → ((c.handlers h).stage ≡ core.Runs) ⊎ ((k : ℕ) × ((c.handlers h).stage ≡ core.HasMade k)) →
        Comes (job_at h (c.handlers h).stage (c.handlers h) c) ran x
    running is (inl goes) =
        subst (λ (t : core.HandlerStage). Comes (job_at h t (c.handlers h) c) ran x) (sym goes)
        (λ rested meets.
        let stands : g.stage ≡ machine.Runs = subst (λ (st : Stage). IsStageFor h st g.stage) is halves.0.stands in
        let values : f.values ≡ g.values =
        subst (λ (st : Stage). IsToldOf st core.Runs f.values g.values) is (subst (λ (t : core.HandlerStage). IsToldOf f.stage t f.values g.values) goes halves.0.values) in
        let same : g ≡ view f g.mark = seen h (c.handlers h).stage f g f.stage g.values f.values halves.0 (stands ∙ sym is) (sym values) in
        subst (λ (st : Stage). IsRegionHalf h (ran.handlers h) ((stepped most n s h w (Some job.Go) c).handlers h).stage (region.goes_on s h st g under x)) (sym stands)
        (subst (λ (g' : Frame). IsRegionHalf h (ran.handlers h) ((stepped most n s h w (Some job.Go) c).handlers h).stage
        (region.goes_on s h machine.Runs g' under (half_at (w.handlers h) (g' ∷ under)))) (sym same)
        (runs c half.count rested g.mark is meets)))
    running is (inr (k, made)) =
        subst (λ (t : core.HandlerStage). Comes (job_at h t (c.handlers h) c) ran x) (sym made)
        (λ rested meets.
        let stands : g.stage ≡ machine.Runs = subst (λ (st : Stage). IsStageFor h st g.stage) is halves.0.stands in
        let values : f.values ≡ told k g.values =
        subst (λ (st : Stage). IsToldOf st (core.HasMade k) f.values g.values) is (subst (λ (t : core.HandlerStage). IsToldOf f.stage t f.values g.values) made halves.0.values) in
        let same : record g { values = told k g.values } ≡ view f g.mark =
        seen h (c.handlers h).stage f g f.stage (told k g.values) f.values halves.0 (stands ∙ sym is) (sym values) in
        let asks = asks_on n s h (w.handlers h).stack (w.handlers h).objects in
        subst (λ (t : core.HandlerStage). IsRegionHalf h (ran.handlers h) ((asked_in (fits_turns 1 t (job.Made k) asks) most h asks (made_at h t c)).handlers h).stage
        (region.takes_made s h g.stage (record g { values = told k g.values }) under x)) (sym made)
        (subst (λ (st : Stage). IsRegionHalf h (ran.handlers h) ((asked_in true most h asks (core.with_stage h core.Runs c)).handlers h).stage
        (region.takes_made s h st (record g { values = told k g.values }) under x)) (sym stands)
        (subst (λ (g' : Frame). IsRegionHalf h (ran.handlers h) ((asked_in true most h asks (core.with_stage h core.Runs c)).handlers h).stage
        (region.goes_on s h machine.Runs g' under (half_at (w.handlers h) (g' ∷ under)))) (sym same)
        (runs (core.with_stage h core.Runs c) half.count (subst (λ (t : core.HandlerStage). IsRested ((made_at h t c).handlers h)) made rested) g.mark is meets))))

    -- a frame in a call is never the topmost one of a handler that fails no test
    in_call : (gives : Option EntityType) → f.stage ≡ machine.InCall gives → (c.handlers h).stage ≡ core.Runs →
        Comes (job_at h (c.handlers h).stage (c.handlers h) c) (fail h cause.BadCode w) x
    in_call gives is goes =
        subst (λ (t : core.HandlerStage). Comes (job_at h t (c.handlers h) c) (fail h cause.BadCode w) x) (sym goes)
        (λ rested meets.
        let stands : g.stage ≡ machine.InCall gives = subst (λ (st : Stage). IsStageFor h st g.stage) is halves.0.stands in
        subst (λ (st : Stage). IsRegionHalf h ((fail h cause.BadCode w).handlers h) ((stepped most n s h w (Some job.Go) c).handlers h).stage (region.goes_on s h st g under x)) (sym stands)
        (fails_half job.Go cause.BadCode x (plain_at (machine.InCall gives) is tt) rested refl refl))

    goes : (stage : Stage) → f.stage ≡ stage → TakesNone f.stage → AreNamed names (w.handlers h) → IsStage stage f (c.handlers h).stage →
        Comes (job_at h (c.handlers h).stage (c.handlers h) c) (turns.goes_on most s h stage f below w) x
    goes machine.Runs is none named at = running is at
    goes machine.Reserves is none named at =
        let ks = needed_for h (separate_formals f.environment) w in
        let v = turns.goes_on most s h machine.Reserves f below w in
        subst (λ (t : core.HandlerStage). Comes (job_at h t (c.handlers h) c) v x) (sym at)
        (subst (λ (j : Option Job). Comes j v x) (sym (same_job n h w c (separate_formals f.environment) f.mark half))
        (reserves (record f { stage = machine.Runs; reserved = ks }) ks _ _
        (answering.entry_half s h w f g below under lives halves.1 (c.handlers h).stage ks halves.0 is) refl))
    goes machine.ReservesBlock is none named at =
        let ks = needed_for h (opened_in f.environment f.tasks) w in
        let v = turns.goes_on most s h machine.ReservesBlock f below w in
        subst (λ (t : core.HandlerStage). Comes (job_at h t (c.handlers h) c) v x) (sym at)
        (subst (λ (j : Option Job). Comes j v x) (sym (same_job n h w c (opened_in f.environment f.tasks) [] half))
        (reserves (record f { stage = machine.Runs; blocks = ks ∷ f.blocks }) ks _ _
        (answering.block_half s h w f g below under lives halves.1 (c.handlers h).stage ks halves.0 is) refl))
    goes (machine.InCall gives) is none named at = in_call gives is at
    goes (machine.Awaits k gives b) is none named at =
        let y = w.handlers h in
        let v = turns.waits s h y.callback y.answer k gives b f below w in
        subst (λ (t : core.HandlerStage). Comes (job_at h t (c.handlers h) c) v x) (sym at)
        (subst (λ (p : Option core.Posted). Comes (job_awaiting k b p (c.handlers h).answer) v x) (sym (half.handlers h).callback)
        (subst (λ (a : Option core.Answer). Comes (job_awaiting k b (option_map (posted_of n) y.callback) a) v x) (sym (half.handlers h).answer)
        (waits k gives b y.callback y.answer is none (subst IsCalm (sym at) tt) refl named)))

  -- ---- a handler

  pub stands_comes : (stack gs : List Frame) → (w.handlers h).stack ≡ stack → AreHalvesOf h (c.handlers h).stage stack gs → AreInOrder stack →
      IsTop stack (c.handlers h).stage → AreNamed names (w.handlers h) → IsRegionHalf h (w.handlers h) (c.handlers h).stage (half_at (w.handlers h) gs) →
      Comes (job_at h (c.handlers h).stage (c.handlers h) c) (turns.turn_with most s h None stack w) (half_at (w.handlers h) gs)
  stands_comes [] [] stack halves order top named given =
      let y = w.handlers h in
      let v = takes_at.takes_next s h y.queue w in
      subst (λ (t : core.HandlerStage). Comes (job_at h t (c.handlers h) c) v (half_at y [])) (sym top)
      (subst (λ (ps : List core.Posted). Comes (job_idle ps) v (half_at y [])) (sym (half.handlers h).queue) (idle y.queue stack refl named given))
  stands_comes [] (g ∷ under) stack halves order top named given = absurd halves
  stands_comes (f ∷ below) [] stack halves order top named given = absurd halves
  stands_comes (f ∷ below) (g ∷ under) stack halves order top named given =
      goes f g below under stack halves given f.stage refl order.1 named top

-- the settled objects of the handler of the turn meet their invariants
pub own_meet : (most : ℕ) (s : System) (h : ℕ) (w : World) → SettledObjectsMeet s (turn most s h w) → nat_lt h w.count ≡ true → Meets s ((turn most s h w).handlers h)
own_meet most s h w meets is = λ number o settled found.
    let less = ltb-true h w.count is in
    let more = turn_counts most s h w in
    meets h number o (omega (arith, less, more)) settled found
