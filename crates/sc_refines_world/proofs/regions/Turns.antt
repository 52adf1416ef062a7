-- One whole turn of a handler.
use Rattle.std.proofs.Common.{◌≡◌, ℕ, ◌-◌, ◌<◌, Bool, true, false, List, [], ◌∷◌, Option, Some, None, length, refl, sym, ap, ◌∙◌, subst, arith}
use Rattle.std.specs.Prelude.{slice_get}
use Rattle.sc_tree.specs.Plain.{System}
use Rattle.sc_model.specs.declared.cause.Cause.TheVariants as cause
use Rattle.sc_model.specs.Handlers as machine
use Rattle.sc_model.specs.Handlers.{Frame, Runs, Reserves, ReservesBlock, InCall, Awaits}
use Rattle.sc_code.specs.Machine as flat
use Rattle.sc_region.specs.declared.frame.Stage.TheVariants as stage
use Rattle.sc_region.specs.declared.job.Job.TheVariants as job
use Rattle.sc_region.specs.declared.job.Want.{Want}
use Rattle.sc_region.specs.declared.job.Want.TheVariants as want
use Rattle.sc_region.specs.Frames.{PlainActivation, PlainFrame, top_activation}
use Rattle.sc_region.specs.Stores as store
use Rattle.sc_region.specs.Stores.{PlainStore}
use Rattle.sc_request.specs.Asked.{Numbering, asks_going, asks_on}
use Rattle.sc_acts.specs.declared.act.Act.{Act}
use Rattle.sc_acts.specs.declared.act.Act.TheVariants as act
use Rattle.sc_interp.specs.declared.hops.Hop.{Hop}
use Rattle.sc_interp.specs.declared.hops.Hop.TheVariants as hop
use Rattle.sc_region.specs.Calls.{on_top}
use Rattle.sc_refines_world.specs.regions.Laws.{ProgramsServe}
use Rattle.sc_acts.specs.Refusing.{is_waited_for, refused}
use Rattle.sc_refines_world.specs.regions.RegionHalves.{IsRegionOf, AreFrames, stage_of}
use Rattle.sc_refines_world.specs.regions.RegionSteps as region_steps
use Rattle.sc_refines_world.specs.regions.RegionSteps.{IsProgramFor, first_want, names_of, next_want, numbering_by, task_of}
use Rattle.sc_refines_world.specs.regions.RegionTurns as half
use Rattle.sc_refines_world.specs.regions.RegionTurns.{Half, goes_on, taken_turn, told_frames, turn, turn_on, with_stack}
use Rattle.sc_acts.specs.Tables.{formals_at}
use Rattle.sc_acts.specs.Turning.{unless_failed}
use Rattle.sc_acts.proofs.Options.{none_some}
use Rattle.sc_refines_world.proofs.regions.RegionSame.{still_fails}
use Rattle.sc_acts.specs.Acting.{acted, asks_acted}
use Rattle.sc_play.specs.Answering as answering
use Rattle.sc_play.specs.Answering.{told, top_stage}
use Rattle.sc_acts.specs.Leaving.{block_left, innermost, innermost_in, left_with}
use Rattle.sc_play.specs.Taking as taking
use Rattle.sc_play.specs.Taking.{asks_taking}
use Rattle.sc_play.specs.Turns.{Becomes, GoesOn, TurnIn, TurnMade, TurnOf, asks_done, done}
use Rattle.sc_play.proofs.Programs.{turn_keeps}
use Rattle.sc_refines_world.specs.regions.Acting.{AreWhole, Comes, HasBlock, HasNoBlock, IsNotWaitedFor, TopRuns, TurnsInto, asks_nothing}
use Rattle.sc_refines_world.specs.regions.Making.{told_half}
use Rattle.sc_refines_world.specs.regions.Turns.{FirstTurnsAreMade, JobsAreTaken, MayAct, MayDo, MayGoOn, MayTurn, MayTurnIn, MayTurnMade, TurnsAreMade}
use Rattle.sc_refines_world.specs.regions.Waiting.{IsWaitedFor, RefusesInContract}
use Rattle.sc_refines_world.proofs.regions.TurnAsks.{failures_are_told, same_unless, simple_steps_ask_nothing, told_by}
use Rattle.sc_refines_world.proofs.regions.BlockAsks.{blocks_ask}
use Rattle.sc_refines_world.proofs.regions.Calls.{calls_are_made}
use Rattle.sc_refines_world.proofs.regions.CallAsks.{calls_ask, object_creations_ask}
use Rattle.sc_refines_world.proofs.regions.SilentOperations.{meets}
use Rattle.sc_refines_world.proofs.regions.Creations.{objects_are_created}
use Rattle.sc_refines_world.proofs.regions.ProcedureCreations.{objects_are_created_by_name}
use Rattle.sc_refines_world.proofs.regions.Exits.{routines_end}
use Rattle.sc_refines_world.proofs.regions.Jobs.{answers_are_taken, bad_answers_are_taken, grants_are_taken}
use Rattle.sc_refines_world.proofs.regions.Creators.{creators_are_told, made_are_answers}
use Rattle.sc_refines_world.proofs.regions.PassedOperations.{bodies_start, booleans_are_printed, integers_are_printed, rounds_end, routines_fail, texts_are_printed}
use Rattle.sc_refines_world.proofs.regions.Refusals.{calls_are_refused}
use Rattle.sc_refines_world.proofs.regions.StageChanges.{blocks_begin, blocks_end, handlers_are_created, no_block_ends, requests_are_made}
use Rattle.sc_refines_world.proofs.regions.TakenRequests.{requests_are_taken, taken_requests_ask}
use Rattle.sc_refines_world.proofs.regions.WaitedClauses.{routines_wait}
use Rattle.sc_refines_world.proofs.regions.TurnWants.{block_ends_ask, creations_ask, last_is, refusals_ask, requests_ask, routine_ends_ask}
use Rattle.sc_refines_world.proofs.regions.MadeOperations.{requested_is, handler_created_is, opened_is}

-- ---- what a turn comes to

module _ (serve : ProgramsServe) (h : ℕ) (y : PlainStore) (s : System) (x : Half) (is : IsProgramFor s y.program) (region : IsRegionOf s x y)
    (in_contract : RefusesInContract s x.objects x.stack) where
  abbrev names : Numbering
  names = numbering_by (names_of y)

  -- the turn leaves this store, and asks this
  abbrev Makes : PlainStore → Want → Type 0
  Makes z w = IsRegionOf s (turn s h x) z × (w ≡ next_want names s h x)

  module _ (b : PlainStore) where
    -- what it makes, and what it asks unless the store has failed
    made : (a : Act) (w : PlainStore) (v : Want) → IsRegionOf s (turn s h x) w → next_want names s h x ≡ unless_failed w.failure v → Makes w (unless_failed w.failure v)
    made a w v left_so asks = (left_so, sym asks)

    simple : (a : Act) (w : PlainStore) → asks_nothing a ≡ true → Comes (hop.Comes a) y b → TurnsInto y w → Makes w (unless_failed w.failure want.Continue)
    simple a w nothing comes turns = (turns s h x is region, sym (simple_steps_ask_nothing serve a y b w nothing comes turns names s h x is region))

    abbrev DoesSo : Act → Type 0
    DoesSo a = Makes (acted h a b) (unless_failed (acted h a b).failure (asks_acted h a b (acted h a b)))

    -- by another name of the store
    as_store : (a : Act) (w : PlainStore) → w ≡ acted h a b → IsRegionOf s (turn s h x) w →
        (IsRegionOf s (turn s h x) (acted h a b) → next_want names s h x ≡ unless_failed (acted h a b).failure (asks_acted h a b (acted h a b))) → DoesSo a
    as_store a w e left_so asks = let left_here = subst (λ w. IsRegionOf s (turn s h x) w) e left_so in (left_here, sym (asks left_here))

    creates : (class : ℕ) (k : Option ℕ) (n : ℕ) → Comes (hop.Comes (act.Create class k n)) y b → MayAct h (act.Create class k n) b →
        (acted h (act.Create class k n) b).program ≡ y.program → DoesSo (act.Create class k n)
    creates class None n comes may program =
        let a = act.Create class None n in
        as_store a _ refl (objects_are_created serve h class n y b comes may s h x is region)
        (object_creations_ask serve h class None n y b (acted h a b) comes program s x is region)
    creates class (Some k) n comes may program =
        let a = act.Create class (Some k) n in
        as_store a _ refl (objects_are_created_by_name serve h class k n may.0.0 y b comes may.4 may.0.1 may.1 may.2 may.3 s h x is region)
        (object_creations_ask serve h class (Some k) n y b (acted h a b) comes program s x is region)

    refuses : (k : ℕ) → Comes (hop.Comes (act.Refuse k)) y b → AreWhole b → DoesSo (act.Refuse k)
    refuses k comes whole =
        let left_so = by (top_activation b.frames) refl in
        (left_so, sym (refusals_ask serve h k y b comes whole s x is region left_so))
      where
        waits : (a : PlainActivation) → top_activation b.frames ≡ Some a → (c : Bool) → is_waited_for a (formals_at b.program k) ≡ c → IsRegionOf s (turn s h x) (refused k b)
        waits a e true waited = routines_wait serve k y b comes (subst (IsWaitedFor (formals_at b.program k)) (sym e) waited) s h x is region in_contract
        waits a e false waited = calls_are_refused serve k y b comes whole (subst (IsNotWaitedFor (formals_at b.program k)) (sym e) waited) s h x is region

        by : (o : Option PlainActivation) → top_activation b.frames ≡ o → IsRegionOf s (turn s h x) (refused k b)
        by None e =
            let m = meets serve s x (hop.Comes (act.Refuse k)) y b is region comes in
            none_some m.activation (sym e ∙ ap top_activation m.frames)
        by (Some a) e = waits a e (is_waited_for a (formals_at b.program k)) refl

    leaves : Comes (hop.Comes act.Leave) y b → DoesSo act.Leave
    leaves comes =
        let left_so = by (top_activation b.frames) refl in
        (left_so, sym (block_ends_ask serve h y b (block_left b) comes s x is region left_so))
      where
        by_blocks : (a : PlainActivation) → top_activation b.frames ≡ Some a → (bs : List (List ℕ)) → a.blocks ≡ bs → IsRegionOf s (turn s h x) (block_left b)
        by_blocks a e [] none =
            subst (λ w. IsRegionOf s (turn s h x) w) (sym (ap (λ o. left_with (innermost_in o) b) e ∙ ap (λ bs. left_with (innermost bs) b) none))
            (no_block_ends serve y b comes (subst HasNoBlock (sym e) none) s h x is region)
        by_blocks a e (k ∷ ks) some =
            let last = last_is k ks in
            let less : length (k ∷ ks) - 1 ≡ length ks = omega arith in
            let inner : innermost (k ∷ ks) ≡ Some last.0 = ap (slice_get (k ∷ ks)) less ∙ last.3 in
            subst (λ w. IsRegionOf s (turn s h x) w)
            (sym (ap (λ o. left_with (innermost_in o) b) e ∙ ap (λ bs. left_with (innermost bs) b) some ∙ ap (λ o. left_with o b) inner))
            (blocks_end serve y b comes (subst HasBlock (sym e) (subst (λ bs. 0 < length bs) (sym some) (omega arith))) s h x is region)

        by : (o : Option PlainActivation) → top_activation b.frames ≡ o → IsRegionOf s (turn s h x) (block_left b)
        by None e =
            let m = meets serve s x (hop.Comes act.Leave) y b is region comes in
            none_some m.activation (sym e ∙ ap top_activation m.frames)
        by (Some a) e = by_blocks a e a.blocks refl

    acts : (a : Act) → Comes (hop.Comes a) y b → MayAct h a b → (acted h a b).program ≡ y.program → DoesSo a
    acts (act.PrintInteger v) comes may program = simple (act.PrintInteger v) _ refl comes (integers_are_printed serve v y b comes)
    acts (act.PrintBoolean v) comes may program = simple (act.PrintBoolean v) _ refl comes (booleans_are_printed serve v y b comes)
    acts (act.PrintText k) comes may program = simple (act.PrintText k) _ refl comes (texts_are_printed serve k y b comes)
    acts (act.Until n) comes may program = simple (act.Until n) _ refl comes (rounds_end serve n y b comes)
    acts act.Start comes may program = simple act.Start _ refl comes (bodies_start serve y b comes)
    acts (act.Enter c r k n gives) comes may program =
        let left_so = calls_are_made serve c r k n gives may.0.0 y b comes may.0.1 may.1 s h x is region in
        (left_so, sym (calls_ask serve h c r k n gives y b (acted h (act.Enter c r k n gives) b) comes program s x is region left_so))
    acts (act.Request q) comes may program =
        let a = act.Request q in
        as_store a _ (requested_is h q.object q.name q.count q.gives q.passes b may.1)
        (requests_are_made serve q.object q.name q.count q.gives q.passes y b comes s h x is region)
        (requests_ask serve h q.object q.name q.count q.gives q.passes y b (acted h a b) comes may.0 may.1 s x is region)
    acts (act.Create class k n) comes may program = creates class k n comes may program
    acts (act.CreateHandler q) comes may program =
        let a = act.CreateHandler q in
        as_store a _ (handler_created_is h q.class q.procedure q.count q.passes b may.1)
        (handlers_are_created serve h q.class q.procedure q.count q.passes y b comes s x is region)
        (creations_ask serve h q.class q.procedure q.count q.passes y b (acted h a b) comes may.0 may.1 s x is region)
    acts (act.Refuse k) comes may program = refuses k comes may
    acts (act.Open first n) comes may program =
        let a = act.Open first n in
        as_store a _ (opened_is first n b b.frames may) (blocks_begin serve first n y b comes s h x is region)
        (blocks_ask serve h first n y b (acted h a b) comes may s x is region)
    acts act.Leave comes may program = leaves comes
    acts act.Exit comes may program =
        let left_so = routines_end serve y b comes may.0 may.1 s h x is region in
        (left_so, sym (routine_ends_ask serve h y b comes may.0 s x is region left_so))

    hops : (o : Hop) → Comes o y b → MayDo h o b → (done h o b).program ≡ y.program → Makes (done h o b) (asks_done h o b (done h o b))
    hops hop.Passed comes may program = let m = meets serve s x hop.Passed y b is region comes in goes_nowhere m.does
      where
        goes_nowhere : {A : Type 0} {f g : flat.State} {a : flat.Act} → flat.Goes f ≡ flat.Does a g → A
        goes_nowhere e = cc
    hops (hop.Failed why) comes may program =
        let turns = routines_fail serve why y b comes in
        (turns s h x is region, sym (failures_are_told why y (store.failed why b) turns refl names s h x is region))
    hops (hop.Comes a) comes may program = acts a comes may program

  -- ---- stages

  runs : (z : PlainStore) (w : Want) → TopRuns y → (g : GoesOn h y z w) → MayGoOn h y z w g → z.program ≡ y.program → Makes z w
  runs z w in_stage g may program =
      let o = g.operation in
      let b = g.before in
      let made_so = hops b o (record { runs = in_stage; comes = g.comes; remains = g.remains }) may (ap (λ (z : PlainStore). z.program) (sym g.does) ∙ program) in
      (subst (λ z. IsRegionOf s (turn s h x) z) (sym g.does) made_so.0, g.want ∙ ap (asks_done h o b) g.does ∙ made_so.1)

  becomes : (v : PlainStore) (z : PlainStore) (w : Want) (asked : Want) → Becomes v want.Continue z w → IsRegionOf s (turn s h x) v → asks_on names s h x.stack x.objects ≡ asked →
      unless_failed v.failure asked ≡ unless_failed v.failure want.Continue → Makes z w
  becomes v z w asked b left_so e same = (
    subst (λ z. IsRegionOf s (turn s h x) z) (sym b.store) left_so,
    b.want ∙ ap (λ (z : PlainStore). unless_failed z.failure want.Continue) b.store ∙ sym (told_by names s h x v asked left_so e ∙ same),
  )

  module _ (z : PlainStore) (w : Want) (program : z.program ≡ y.program) where
    module _ (f : Frame) (below : List Frame) (stack : x.stack ≡ f ∷ below) where
      turn_at : (st : machine.Stage) → f.stage ≡ st → turn s h x ≡ goes_on s h st f below x
      turn_at st e = ap (λ fs. turn_on s h fs x) stack ∙ ap (λ st. goes_on s h st f below x) e

      asks_at : (st : machine.Stage) → f.stage ≡ st → asks_on names s h x.stack x.objects ≡ asks_going names s h st f (length (f ∷ below)) x.objects
      asks_at st e = ap (λ fs. asks_on names s h fs x.objects) stack ∙ ap (λ st. asks_going names s h st f (length (f ∷ below)) x.objects) e

      by_stage : (st : machine.Stage) → f.stage ≡ st → top_stage y ≡ Some (stage_of st) → (t : TurnIn (Some (stage_of st)) h y z w) →
          MayTurnIn (Some (stage_of st)) h y z w t → Makes z w
      by_stage Runs e top t may = runs z w top t may program
      by_stage Reserves e top t may = becomes y z w want.Continue t (subst (λ half. IsRegionOf s half y) (sym (turn_at Reserves e)) region) (asks_at Reserves e) refl
      by_stage ReservesBlock e top t may = becomes y z w want.Continue t (subst (λ half. IsRegionOf s half y) (sym (turn_at ReservesBlock e)) region) (asks_at ReservesBlock e) refl
      by_stage (InCall gives) e top t may =
          let v = store.failed cause.BadCode y in
          becomes v z w (want.Fail cause.BadCode) t (subst (λ half. IsRegionOf s half v) (sym (turn_at (InCall gives) e)) (still_fails s x y cause.BadCode region))
          (asks_at (InCall gives) e) refl
      by_stage (Awaits k gives is_creation) e top t may =
          becomes y z w want.Continue t (subst (λ half. IsRegionOf s half y) (sym (turn_at (Awaits k gives is_creation) e)) region) (asks_at (Awaits k gives is_creation) e) refl

    by_frames : (fs : List Frame) (gs : List PlainFrame) → x.stack ≡ fs → y.frames ≡ gs → AreFrames s x.objects fs gs → (t : TurnOf h y z w) → MayTurn h y z w t → Makes z w
    by_frames [] [] ex ey a t may =
        becomes y z w want.Continue (subst (λ o. TurnIn o h y z w) (ap (λ gs. top_stage (record y { frames = gs })) ey) t)
        (subst (λ half. IsRegionOf s half y) (sym (ap (λ fs. turn_on s h fs x) ex)) region) (ap (λ fs. asks_on names s h fs x.objects) ex) refl
    by_frames (f ∷ fs) (g ∷ gs) ex ey a t may =
        let top : top_stage y ≡ Some (stage_of f.stage) = ap (λ gs. top_stage (record y { frames = gs })) ey ∙ ap (λ st. Some st) a.0.stage in
        let turn_so = subst (λ o. (t : TurnIn o h y z w) × MayTurnIn o h y z w t) top (t, may) in
        by_stage f fs ex f.stage refl top turn_so.0 turn_so.1
    by_frames [] (g ∷ gs) ex ey a t may = absurd a
    by_frames (f ∷ fs) [] ex ey a t may = absurd a

pub turns_are_made : ProgramsServe → TurnsAreMade
turns_are_made serve h y z w t may s x is region in_contract =
    by_frames serve h y s x is region in_contract z w (turn_keeps h y z w t) x.stack y.frames refl refl region.frames t may

-- ---- jobs

module _ (serve : ProgramsServe) (h : ℕ) (y z : PlainStore) (w : Want) (s : System) (x : Half) (is : IsProgramFor s y.program) where
  abbrev numbers : Numbering
  numbers = numbering_by (names_of y)

  abbrev TakesJob : half.Task → Type 0
  TakesJob j = IsRegionOf s (taken_turn s h j x) z × (w ≡ first_want numbers s h j x)

  -- the job leaves this store
  job_becomes : (j : half.Task) (v : PlainStore) (u asked : Want) → Becomes v u z w → IsRegionOf s (taken_turn s h j x) v → region_steps.asks_beginning numbers s h j x ≡ asked →
      unless_failed v.failure asked ≡ unless_failed v.failure u → TakesJob j
  job_becomes j v u asked b left_so e same = (
    subst (λ z. IsRegionOf s (taken_turn s h j x) z) (sym b.store) left_so,
    b.want ∙ ap (λ (z : PlainStore). unless_failed z.failure u) b.store
        ∙ sym (ap (λ o. region_steps.unless_failed o (region_steps.asks_beginning numbers s h j x)) (sym left_so.failure)
        ∙ same_unless v.failure (region_steps.asks_beginning numbers s h j x)
        ∙ ap (unless_failed v.failure) e ∙ same),
  )

  module _ (k : ℕ) (region : IsRegionOf s (told_half k x) y)
      (in_contract : RefusesInContract s x.objects (told_half k x).stack) where
    abbrev told_so : Half
    told_so = told_half k x

    abbrev told_one : Frame → Frame
    told_one f = record f { values = half.told k f.values }

    module _ (f : Frame) (below : List Frame) (stack : x.stack ≡ f ∷ below) where
      told_stack : told_so.stack ≡ told_one f ∷ below
      told_stack = ap (told_frames k) stack

      -- the turn is that of the half that has been told
      as_turn : (st : machine.Stage) → f.stage ≡ st → top_stage y ≡ Some (stage_of st) → half.takes_made s h st (told_one f) below x ≡ goes_on s h st (told_one f) below (with_stack (told_one f ∷ below) x) →
          (t : TurnIn (Some (stage_of st)) h y z w) → MayTurnIn (Some (stage_of st)) h y z w t → TakesJob (half.Made k)
      as_turn st e top goes t may =
          let program = turn_keeps h y z w (subst (λ o. TurnIn o h y z w) (sym top) t) in
          let made_so = by_stage serve h y s told_so is region in_contract z w program (told_one f) below told_stack st e top t may in
          let same : turn s h told_so ≡ taken_turn s h (half.Made k) x =
          ap (λ fs. turn_on s h (told_frames k fs) (with_stack (told_frames k fs) x)) stack
          ∙ ap (λ st. goes_on s h st (told_one f) below (with_stack (told_one f ∷ below) x)) e
          ∙ sym goes
          ∙ sym (ap (λ fs. half.begins s h (half.Made k) fs x) stack ∙ ap (λ st. half.takes_made s h st (told_one f) below x) e) in (
            subst (λ half. IsRegionOf s half z) same made_so.0,
            made_so.1 ∙ ap (λ (q : Half). region_steps.unless_failed q.failure (asks_on numbers s h told_so.stack told_so.objects)) same,
          )

      by_made : (st : machine.Stage) → f.stage ≡ st → top_stage y ≡ Some (stage_of st) → (t : TurnMade (Some (stage_of st)) h y z w) →
          MayTurnMade (Some (stage_of st)) h y z w t → TakesJob (half.Made k)
      by_made Runs e top t may = as_turn Runs e top refl t may
      by_made Reserves e top t may = as_turn Reserves e top refl t may
      by_made ReservesBlock e top t may = as_turn ReservesBlock e top refl t may
      by_made (InCall gives) e top t may = as_turn (InCall gives) e top refl t may
      by_made (Awaits j gives false) e top t may = as_turn (Awaits j gives false) e top refl t may
      by_made (Awaits j gives true) e top t may =
          let answers = top ∙ ap (λ g. Some (stage.Awaits j g true)) may in
          job_becomes (half.Made k) (on_top answering.runs y) want.Continue want.Continue t (made_are_answers h j k y s x region answers)
          (ap (λ fs. asks_on numbers s h (told_frames k fs) x.objects) stack ∙ ap (λ st. asks_going numbers s h st (told_one f) (length (told_one f ∷ below)) x.objects) e) refl

    made_by : (fs : List Frame) (gs : List PlainFrame) → x.stack ≡ fs → y.frames ≡ gs → AreFrames s x.objects (told_frames k fs) gs → (t : TurnMade (top_stage y) h y z w) →
        MayTurnMade (top_stage y) h y z w t → TakesJob (half.Made k)
    made_by [] [] ex ey a t may =
        let v = store.failed cause.BadCode y in
        job_becomes (half.Made k) v want.Continue want.Continue (subst (λ o. TurnMade o h y z w) (ap (λ gs. top_stage (record y { frames = gs })) ey) t)
        (subst (λ half. IsRegionOf s half v) (sym (ap (λ fs. half.begins s h (half.Made k) fs x) ex)) (still_fails s told_so y cause.BadCode region))
        (ap (λ fs. asks_on numbers s h (told_frames k fs) x.objects) ex) refl
    made_by (f ∷ fs) (g ∷ gs) ex ey a t may =
        let top : top_stage y ≡ Some (stage_of f.stage) = ap (λ gs. top_stage (record y { frames = gs })) ey ∙ ap (λ st. Some st) a.0.stage in
        let turn_so = subst (λ o. (t : TurnMade o h y z w) × MayTurnMade o h y z w t) top (t, may) in
        by_made f fs ex f.stage refl top turn_so.0 turn_so.1
    made_by [] (g ∷ gs) ex ey a t may = absurd a
    made_by (f ∷ fs) [] ex ey a t may = absurd a

pub jobs_are_taken : ProgramsServe → JobsAreTaken
jobs_are_taken serve h (job.Take r) y z w t may s x is region in_contract = (
  subst (λ z. IsRegionOf s (taken_turn s h (task_of (names_of y) (job.Take r)) x) z) (sym t.store) (requests_are_taken h r y may s x is region),
  t.want ∙ ap (λ (z : PlainStore). unless_failed z.failure (asks_taking h r y (taking.taken h r y))) t.store ∙ sym (taken_requests_ask h r y may s x is region),
)
jobs_are_taken serve h (job.Reply v) y z w t may s x is region in_contract =
    job_becomes serve h y z w s x is (task_of (names_of y) (job.Reply v)) (answering.replied v y) want.Continue want.Continue t (answers_are_taken v y may s h x is region) refl refl
jobs_are_taken serve h job.Failed y z w t may s x is region in_contract =
    job_becomes serve h y z w s x is half.SupplierFailed (store.failed cause.SupplierFailed y) want.Continue want.Continue t ((bad_answers_are_taken y).0 s h x is region) refl refl
jobs_are_taken serve h job.Refused y z w t may s x is region in_contract =
    job_becomes serve h y z w s x is half.WasRefused (store.failed cause.Precondition y) want.Continue want.Continue t ((bad_answers_are_taken y).1 s h x is region) refl refl
jobs_are_taken serve h (job.Granted ks) y z w t may s x is region in_contract =
    job_becomes serve h y z w s x is (half.Granted ks.items) (answering.granted ks.items y) want.Continue want.Continue t (grants_are_taken ks.items y s h x is region) refl refl
jobs_are_taken serve h (job.Made k) y z w t may s x is region in_contract =
    made_by serve h y z w s x is k region in_contract x.stack y.frames refl refl region.frames t may
jobs_are_taken serve h job.Go y z w t may s x is region in_contract = turns_are_made serve h y z w t may s x is region in_contract

pub first_turns_are_made : ProgramsServe → FirstTurnsAreMade
first_turns_are_made serve h (job.Made k) y z w t may s x is region in_contract =
    jobs_are_taken serve h (job.Made k) (told k y) z w t may s x is (creators_are_told k y s x region) in_contract
first_turns_are_made serve h (job.Take r) y z w t may s x is region in_contract = jobs_are_taken serve h (job.Take r) y z w t may s x is region in_contract
first_turns_are_made serve h (job.Reply v) y z w t may s x is region in_contract = jobs_are_taken serve h (job.Reply v) y z w t may s x is region in_contract
first_turns_are_made serve h job.Failed y z w t may s x is region in_contract = jobs_are_taken serve h job.Failed y z w t may s x is region in_contract
first_turns_are_made serve h job.Refused y z w t may s x is region in_contract = jobs_are_taken serve h job.Refused y z w t may s x is region in_contract
first_turns_are_made serve h (job.Granted ks) y z w t may s x is region in_contract = jobs_are_taken serve h (job.Granted ks) y z w t may s x is region in_contract
first_turns_are_made serve h job.Go y z w t may s x is region in_contract = jobs_are_taken serve h job.Go y z w t may s x is region in_contract
