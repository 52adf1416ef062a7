-- A turn of a handler leaves one store, and asks one thing.
use Rattle.std.proofs.Common.{◌≡◌, ℕ, Bool, true, false, List, [], ◌∷◌, Option, Some, None, drop, length, refl, sym, ap, ◌∙◌, subst}
use Rattle.std.specs.Option.{option_map}
use Rattle.sc_tree.specs.Plain.{System}
use Rattle.sc_model.specs.Handlers.{Frame}
use Rattle.sc_model.specs.declared.cause.Cause.{Cause}
use Rattle.sc_model.specs.declared.cause.Cause.TheVariants as cause
use Rattle.sc_code.specs.declared.program.Image.{Image}
use Rattle.sc_code.specs.Lowered.{run_of}
use Rattle.sc_code.specs.Machine as flat
use Rattle.sc_code.specs.Machine.{Code, Goes, Does}
use Rattle.sc_code.specs.RequestRoom.{FitsRequests}
use Rattle.sc_region.specs.declared.frame.Stage.{Stage}
use Rattle.sc_region.specs.declared.frame.Stage.TheVariants as stage
use Rattle.sc_region.specs.declared.job.Job.{Job}
use Rattle.sc_region.specs.declared.job.Job.TheVariants as job
use Rattle.sc_region.specs.declared.job.Want.{Want}
use Rattle.sc_region.specs.Calls.{on_top}
use Rattle.sc_region.specs.Frames.{PlainActivation, PlainFrame, frame_with, top_activation, top_current}
use Rattle.sc_region.specs.Objects.{PlainObject}
use Rattle.sc_region.specs.Stores.{PlainStore, failed}
use Rattle.sc_interp.specs.declared.hops.Hop as outcome
use Rattle.sc_interp.specs.declared.hops.Hop.TheVariants as hop
use Rattle.sc_interp.specs.Hopping.{Runs as RunsIn, state_in}
use Rattle.sc_interp.specs.Standing.{hopped}
use Rattle.sc_interp.specs.Told as told
use Rattle.sc_interp.specs.Told.{IsTold}
use Rattle.sc_interp.specs.Values.{reference_of}
use Rattle.sc_acts.proofs.Options.{none_some, some_same}
use Rattle.sc_refines_world.specs.regions.Laws.{ProgramsServe}
use Rattle.sc_refines_world.specs.regions.RegionHalves.{AreFrames, IsFrame, IsRegionOf}
use Rattle.sc_refines_world.specs.regions.RegionSteps.{IsProgramFor}
use Rattle.sc_refines_world.specs.regions.RegionTurns.{Half}
use Rattle.sc_play.specs.Answering.{runs, top_stage}
use Rattle.sc_play.specs.Turns.{Becomes, FirstTurn, GoesOn, TurnIn, TurnMade, done, told_unless}
use Rattle.sc_refines_world.specs.regions.Making.{CreatorsAreTold, told_half}
use Rattle.sc_refines_world.specs.regions.Placed.{SoundJobsAreTaken, told_when}
use Rattle.sc_refines_world.specs.regions.Wanting.{DistinctNamesHaveNumbers}
use Rattle.sc_refines_world.proofs.regions.SilentOperations.{runs_in}
use Rattle.sc_refines_world.proofs.regions.Unique.{hop_shown, one_visible}
use Rattle.sc_refines_world.specs.Functional.{AreExact, FirstTurnsAreFunctional, FirstTurnsKeepExact, IsGiven}
use Rattle.sc_refines_world.proofs.Acted.{done_tells}
use Rattle.sc_refines_world.proofs.LeftStores.{Left}
use Rattle.sc_refines_world.proofs.Back.{objects_same}
use Rattle.sc_refines_world.proofs.Exact.{Grown, exact_grown, exact_shapes}
use Rattle.sc_refines_world.proofs.Frames.{frames_same, molds_many}
use Rattle.sc_refines_world.proofs.Growth.{grows_failing, grows_granting, grows_replying, grows_taking}
use Rattle.sc_refines_world.proofs.Molds.{Told, molds_of, told_same}

-- ---- stores

store_same : (z a : PlainStore) → z.program ≡ a.program → z.objects ≡ a.objects → z.frames ≡ a.frames → z.output ≡ a.output → z.failure ≡ a.failure → z ≡ a
store_same z a p o f t w =
    ap (λ (q : Image). record z { program = q }) p
    ∙ ap (λ (os : List PlainObject). record a { objects = os; frames = z.frames; output = z.output; failure = z.failure }) o
    ∙ ap (λ (fs : List PlainFrame). record a { frames = fs; output = z.output; failure = z.failure }) f
    ∙ ap (λ (ts : List ℕ). record a { output = ts; failure = z.failure }) t
    ∙ ap (λ (c : Option Cause). record a { failure = c }) w

-- the routine is ready for what was told
ready : (o : outcome.Hop) (z : PlainStore) (t : PlainActivation) → IsTold o z → top_activation z.frames ≡ Some t → told.Tells z.program o t
ready hop.Passed z t is e = tt
ready (hop.Failed why) z t is e = tt
ready (hop.Comes a) z t is e = subst (λ (q : Option PlainActivation). told.IsReadyAt z.program a q) e is

module _ (serve : ProgramsServe) (distinct : DistinctNamesHaveNumbers) (h : ℕ) (s : System) (x : Half) (y : PlainStore) (is : IsProgramFor s y.program) (fits : FitsRequests y.program)
    (exact : AreExact y.program y.objects) where
  -- ---- where the topmost routine goes on

  module _ (f : Frame) (g : PlainFrame) (gs : List PlainFrame) (stood : IsFrame s x.objects f g) (was : y.frames ≡ g ∷ gs) where
    abbrev c : Code
    c = (run_of s f.routine).code

    runs_here : RunsIn y s c g.current g.activation
    runs_here = runs_in s x.objects f g gs y serve is was stood

    -- what flat code does, and what that tells of the store that is left
    record Went (z : PlainStore) (w : Want) (k : GoesOn h y z w) : Type 0 where
      activation : PlainActivation
      top : top_activation k.before.frames ≡ Some activation
      left : Left y.program k.before.objects
          (Told y.program g.activation.routine g.activation.olds.room (molds_of gs) (hopped y.program s c (reference_of g.current) k.operation (state_in s k.before activation))) z

    went_on : (z : PlainStore) (w : Want) (k : GoesOn h y z w) (us : List PlainFrame) → k.before.frames ≡ us → Went z w k
    went_on z w k [] e = none_some g.current (sym (ap top_current e) ∙ k.remains.current ∙ ap top_current was)
    went_on z w k (u ∷ us) e =
        let b : PlainStore = k.before in
        let t = u.activation in
        let me = g.current in
        let current : u.current ≡ g.current = some_same u.current g.current (sym (ap top_current e) ∙ k.remains.current ∙ ap top_current was) in
        let under : us ≡ gs = sym (ap (drop 1) e) ∙ k.remains.below ∙ ap (drop 1) was in
        let frames : b.frames ≡ frame_with me t ∷ gs = e ∙ ap (λ r. frame_with r t ∷ us) current ∙ ap (λ l. frame_with me t ∷ l) under in
        let top : top_activation b.frames ≡ Some t = ap top_activation e in
        let stays = k.remains.stays g.activation t (ap top_activation was) top in
        let visible = (k.comes s c me g.activation t runs_here top).4 in
        let here : PlainStore = record b { frames = frame_with me t ∷ gs } in
        let there : here ≡ b = ap (λ (l : List PlainFrame). record b { frames = l }) (sym frames) in
        let does : done h k.operation here ≡ z = ap (done h k.operation) there ∙ sym k.does in
        let tells = done_tells distinct h s c me b t gs (subst FitsRequests (sym k.remains.program) fits) (stays.depth ∙ runs_here.depth) k.operation visible (ready k.operation b t k.told top) in
        record {
          activation = t;
          top = top;
          left = subst (λ (z : PlainStore). Left y.program b.objects (Told y.program g.activation.routine g.activation.olds.room (molds_of gs) (hopped y.program s c (reference_of me) k.operation (state_in s b t))) z) does
              (subst (λ (n : ℕ). Left y.program b.objects (Told y.program n g.activation.olds.room (molds_of gs) (hopped y.program s c (reference_of me) k.operation (state_in s b t))) (done h k.operation here)) stays.routine
              (subst (λ (n : ℕ). Left y.program b.objects (Told y.program t.routine n (molds_of gs) (hopped y.program s c (reference_of me) k.operation (state_in s b t))) (done h k.operation here)) stays.room
              (subst (λ (p : Image). Left p b.objects (Told p t.routine t.olds.room (molds_of gs) (hopped p s c (reference_of me) k.operation (state_in s b t))) (done h k.operation here)) k.remains.program tells)));
        }

    went : (z : PlainStore) (w : Want) (k : GoesOn h y z w) → Went z w k
    went z w k = went_on z w k k.before.frames refl

    -- flat code does one thing
    one_hop : (z a : PlainStore) (w v : Want) (k : GoesOn h y z w) (l : GoesOn h y a v) (t u : PlainActivation) → top_activation k.before.frames ≡ Some t → top_activation l.before.frames ≡ Some u →
        hopped y.program s c (reference_of g.current) l.operation (state_in s l.before u) ≡ hopped y.program s c (reference_of g.current) k.operation (state_in s k.before t)
    one_hop z a w v k l t u e d =
        let me = reference_of g.current in
        let one = k.comes s c g.current g.activation t runs_here e in
        let other = l.comes s c g.current g.activation u runs_here d in
        elim (hopped y.program s c me k.operation (state_in s k.before t))
        as (λ q. hopped y.program s c me k.operation (state_in s k.before t) ≡ q → hopped y.program s c me l.operation (state_in s l.before u) ≡ q) [
          | Goes st ↦ λ same. absurd (hop_shown y.program s c me k.operation (state_in s k.before t) one.4 st same)
          | Does act st ↦ λ same.
              one_visible s c me one.1 other.1 act st (hopped y.program s c me l.operation (state_in s l.before u)) (one.3 ∙ same) other.3
              (hop_shown y.program s c me l.operation (state_in s l.before u) other.4) one.0 other.0 (state_in s y g.activation) one.2 other.2
        ] refl

    exact_behind : (z : PlainStore) (w : Want) → GoesOn h y z w → AreExact z.program z.objects
    exact_behind z w k = exact_grown y.program k.before.objects z (exact_shapes y.program y.objects k.before.objects k.remains.shapes exact) (went z w k).left.grown

    one_store : (q : Half) (z a : PlainStore) (w v : Want) (k : GoesOn h y z w) (l : GoesOn h y a v) → IsRegionOf s q z → IsRegionOf s q a → z ≡ a
    one_store q z a w v k l first second =
        let m = went z w k in
        let n = went a v l in
        let H = hopped y.program s c (reference_of g.current) k.operation (state_in s k.before m.activation) in
        let same = one_hop z a w v k l m.activation n.activation m.top n.top in
        let ta : Told y.program g.activation.routine g.activation.olds.room (molds_of gs) H (molds_of a.frames) =
        subst (λ (e : flat.Hop). Told y.program g.activation.routine g.activation.olds.room (molds_of gs) e (molds_of a.frames)) same n.left.tells in
        let many : length (molds_of z.frames) ≡ length (molds_of a.frames) =
        molds_many s y.program is q.objects q.stack z.frames first.frames ∙ sym (molds_many s y.program is q.objects q.stack a.frames second.frames) in
        let molds = told_same y.program g.activation.routine g.activation.olds.room (molds_of gs) H (molds_of z.frames) (molds_of a.frames) many m.left.tells ta in
        let in_z : AreExact y.program z.objects = subst (λ (p : Image). AreExact p z.objects) m.left.grown.program (exact_behind z w k) in
        let in_a : AreExact y.program a.objects = subst (λ (p : Image). AreExact p a.objects) n.left.grown.program (exact_behind a v l) in
        store_same z a
        (m.left.grown.program ∙ sym n.left.grown.program)
        (objects_same s y.program is z.objects a.objects in_z in_a (first.objects ∙ sym second.objects))
        (frames_same s y.program is q.objects q.stack z.frames a.frames first.frames second.frames molds)
        (first.output ∙ sym second.output)
        (first.failure ∙ sym second.failure)

  -- The topmost routine goes on: one store is left, whose objects are exact.
  record GoesOnce : Type 0 where
    once : (q : Half) (z a : PlainStore) (w v : Want) → GoesOn h y z w → GoesOn h y a v → IsRegionOf s q z → IsRegionOf s q a → z ≡ a
    keeps : (z : PlainStore) (w : Want) → GoesOn h y z w → AreExact z.program z.objects

  by_frames : (fs : List Frame) (gs : List PlainFrame) → y.frames ≡ gs → AreFrames s x.objects fs gs → option_map (λ (a : PlainActivation). a.stage) (top_activation gs) ≡ Some stage.Runs → GoesOnce
  by_frames [] [] e r on = none_some stage.Runs on
  by_frames [] (g ∷ gs) e r on = absurd r
  by_frames (f ∷ fs) [] e r on = absurd r
  by_frames (f ∷ fs) (g ∷ gs) e r on = record { once = one_store f g gs r.0 e; keeps = exact_behind f g gs r.0 e }

  goes_once : IsRegionOf s x y → top_stage y ≡ Some stage.Runs → GoesOnce
  goes_once region on = by_frames x.stack y.frames refl region.frames on

  becomes_same : (b : PlainStore) (u : Want) (z a : PlainStore) (w v : Want) → Becomes b u z w → Becomes b u a v → z ≡ a
  becomes_same b u z a w v m n = m.store ∙ sym n.store

  exact_same : (b z : PlainStore) → z ≡ b → AreExact b.program b.objects → AreExact z.program z.objects
  exact_same b z e all = subst (λ (b : PlainStore). AreExact b.program b.objects) (sym e) all

  failed_exact : (why : Cause) → AreExact (failed why y).program (failed why y).objects
  failed_exact why = exact

  -- ---- turns

  turn_once : IsRegionOf s x y → (st : Option Stage) → top_stage y ≡ st → (q : Half) (z a : PlainStore) (w v : Want) → TurnIn st h y z w → TurnIn st h y a v → IsRegionOf s q z → IsRegionOf s q a → z ≡ a
  turn_once region None e q z a w v m n i j = becomes_same _ _ z a w v m n
  turn_once region (Some stage.Runs) e q z a w v m n i j = (goes_once region e).once q z a w v m n i j
  turn_once region (Some stage.Reserves) e q z a w v m n i j = becomes_same _ _ z a w v m n
  turn_once region (Some stage.ReservesBlock) e q z a w v m n i j = becomes_same _ _ z a w v m n
  turn_once region (Some (stage.InCall gives)) e q z a w v m n i j = becomes_same _ _ z a w v m n
  turn_once region (Some (stage.Awaits k gives is_creation)) e q z a w v m n i j = becomes_same _ _ z a w v m n

  turn_keeps : IsRegionOf s x y → (st : Option Stage) → top_stage y ≡ st → (z : PlainStore) (w : Want) → TurnIn st h y z w → AreExact z.program z.objects
  turn_keeps region None e z w m = exact_same y z m.store exact
  turn_keeps region (Some stage.Runs) e z w m = (goes_once region e).keeps z w m
  turn_keeps region (Some stage.Reserves) e z w m = exact_same y z m.store exact
  turn_keeps region (Some stage.ReservesBlock) e z w m = exact_same y z m.store exact
  turn_keeps region (Some (stage.InCall gives)) e z w m = exact_same (failed cause.BadCode y) z m.store exact
  turn_keeps region (Some (stage.Awaits k gives is_creation)) e z w m = exact_same y z m.store exact

  made_once : IsRegionOf s x y → (st : Option Stage) → top_stage y ≡ st → (q : Half) (z a : PlainStore) (w v : Want) → TurnMade st h y z w → TurnMade st h y a v → IsRegionOf s q z → IsRegionOf s q a → z ≡ a
  made_once region None e q z a w v m n i j = becomes_same _ _ z a w v m n
  made_once region (Some (stage.Awaits k gives true)) e q z a w v m n i j = becomes_same _ _ z a w v m n
  made_once region (Some (stage.Awaits k gives false)) e q z a w v m n i j = becomes_same _ _ z a w v m n
  made_once region (Some stage.Runs) e q z a w v m n i j = (goes_once region e).once q z a w v m n i j
  made_once region (Some stage.Reserves) e q z a w v m n i j = becomes_same _ _ z a w v m n
  made_once region (Some stage.ReservesBlock) e q z a w v m n i j = becomes_same _ _ z a w v m n
  made_once region (Some (stage.InCall gives)) e q z a w v m n i j = becomes_same _ _ z a w v m n

  made_keeps : IsRegionOf s x y → (st : Option Stage) → top_stage y ≡ st → (z : PlainStore) (w : Want) → TurnMade st h y z w → AreExact z.program z.objects
  made_keeps region None e z w m = exact_same (failed cause.BadCode y) z m.store exact
  made_keeps region (Some (stage.Awaits k gives true)) e z w m = exact_same (on_top runs y) z m.store exact
  made_keeps region (Some (stage.Awaits k gives false)) e z w m = exact_same y z m.store exact
  made_keeps region (Some stage.Runs) e z w m = (goes_once region e).keeps z w m
  made_keeps region (Some stage.Reserves) e z w m = exact_same y z m.store exact
  made_keeps region (Some stage.ReservesBlock) e z w m = exact_same y z m.store exact
  made_keeps region (Some (stage.InCall gives)) e z w m = exact_same (failed cause.BadCode y) z m.store exact

-- ---- first turns

module _ (serve : ProgramsServe) (distinct : DistinctNamesHaveNumbers) (tell : CreatorsAreTold) (taken : SoundJobsAreTaken) where
  -- the store in which a job has begun that tells a handler's creator its number
  told_region : (is_told : Bool) (k : ℕ) (y : PlainStore) (s : System) (x : Half) → IsRegionOf s (told_when is_told k x) y → IsRegionOf s (told_half k x) (told_unless is_told k y)
  told_region true k y s x region = region
  told_region false k y s x region = tell k y s x region

  told_program : (is_told : Bool) (k : ℕ) (y : PlainStore) → (told_unless is_told k y).program ≡ y.program
  told_program true k y = refl
  told_program false k y = refl

  told_exact : (is_told : Bool) (k : ℕ) (y : PlainStore) → AreExact y.program y.objects → AreExact (told_unless is_told k y).program (told_unless is_told k y).objects
  told_exact true k y exact = exact
  told_exact false k y exact = exact

  under_once : (h : ℕ) (is_told : Bool) (j : Job) (y : PlainStore) (s : System) (x : Half) → IsGiven h is_told j y s x → (q : Half) (z a : PlainStore) (w v : Want) →
      FirstTurn h is_told j y z w → FirstTurn h is_told j y a v → IsRegionOf s q z → IsRegionOf s q a → z ≡ a
  under_once h is_told (job.Take r) y s x given q z a w v m n i k = m.store ∙ sym n.store
  under_once h is_told (job.Reply o) y s x given q z a w v m n i k = m.store ∙ sym n.store
  under_once h is_told job.Failed y s x given q z a w v m n i k = m.store ∙ sym n.store
  under_once h is_told job.Refused y s x given q z a w v m n i k = m.store ∙ sym n.store
  under_once h is_told (job.Granted ks) y s x given q z a w v m n i k = m.store ∙ sym n.store
  under_once h is_told (job.Made l) y s x given q z a w v m n i k =
      let b = told_unless is_told l y in
      let same = told_program is_told l y in
      made_once serve distinct h s (told_half l x) b (subst (IsProgramFor s) (sym same) given.program) (subst FitsRequests (sym same) given.fits) (told_exact is_told l y given.exact)
      (told_region is_told l y s x given.region) (top_stage b) refl q z a w v m n i k
  under_once h is_told job.Go y s x given q z a w v m n i k =
      turn_once serve distinct h s x y given.program given.fits given.exact given.region (top_stage y) refl q z a w v m n i k

  pub first_turns_are_functional : FirstTurnsAreFunctional
  first_turns_are_functional h is_told j y s x given z a w v m n =
      let one = taken h is_told j y z w m given.sound given.fits s x given.program given.region given.half in
      let other = taken h is_told j y a v n given.sound given.fits s x given.program given.region given.half in
      (under_once h is_told j y s x given _ z a w v m n one.1 other.1, one.2 ∙ sym other.2)

  grown_exact : (y z b : PlainStore) → AreExact y.program y.objects → z ≡ b → Grown y.program y.objects b → AreExact z.program z.objects
  grown_exact y z b exact e g = subst (λ (c : PlainStore). AreExact c.program c.objects) (sym e) (exact_grown y.program y.objects b exact g)

  pub first_turns_keep_exact : FirstTurnsKeepExact
  first_turns_keep_exact h is_told (job.Take r) y s x given z w m = grown_exact y z _ given.exact m.store (grows_taking y h r)
  first_turns_keep_exact h is_told (job.Reply o) y s x given z w m = grown_exact y z _ given.exact m.store (grows_replying y o)
  first_turns_keep_exact h is_told job.Failed y s x given z w m = grown_exact y z _ given.exact m.store (grows_failing y cause.SupplierFailed)
  first_turns_keep_exact h is_told job.Refused y s x given z w m = grown_exact y z _ given.exact m.store (grows_failing y cause.Precondition)
  first_turns_keep_exact h is_told (job.Granted ks) y s x given z w m = grown_exact y z _ given.exact m.store (grows_granting y ks.items)
  first_turns_keep_exact h is_told (job.Made l) y s x given z w m =
      let b = told_unless is_told l y in
      let same = told_program is_told l y in
      made_keeps serve distinct h s (told_half l x) b (subst (IsProgramFor s) (sym same) given.program) (subst FitsRequests (sym same) given.fits) (told_exact is_told l y given.exact)
      (told_region is_told l y s x given.region) (top_stage b) refl z w m
  first_turns_keep_exact h is_told job.Go y s x given z w m =
      turn_keeps serve distinct h s x y given.program given.fits given.exact given.region (top_stage y) refl z w m
