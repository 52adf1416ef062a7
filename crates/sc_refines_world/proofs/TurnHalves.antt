-- The half of a handler's region fits, and the routine on top of it goes well, as a turn begins.
use Rattle.std.proofs.Common.{◌≡◌, ◌<◌, ◌≤◌, ◌-◌, ◌==◌, inl, inr, ℕ, Bool, true, false, List, [], ◌∷◌, Option, Some, None, is_some, length, slice_get, refl, sym, ap, subst, ◌∙◌, arith}
use Rattle.std.proofs.lemmas.List.{length-map}
use Rattle.std.proofs.lemmas.Option.{slice_get_within}
use Rattle.std.specs.Option.{option_map}
use Rattle.std.specs.Prelude.{if◌then◌else◌}
use Rattle.sc_tree.specs.Plain as tree
use Rattle.sc_tree.specs.Plain.{FeatureKind, System}
use Rattle.sc_class.specs.ClassNames.{Root}
use Rattle.sc_class.specs.Faults.ClassRules.{IsFaultless}
use Rattle.sc_class.specs.Tables.Features.{DeclaredFeature}
use Rattle.sc_rules.specs.declared.entity_types.entity_type.EntityType.{EntityType}
use Rattle.sc_rules.specs.Names.{RoutineName}
use Rattle.sc_rules.specs.Purity.{IsPurity}
use Rattle.sc_rules.specs.SystemRules.{WellFormed}
use Rattle.sc_model.specs.declared.cause.Cause.TheVariants as cause
use Rattle.sc_model.specs.Environments.{Binding, known_of}
use Rattle.sc_model.specs.Handlers.{Awaits, Called, Frame, InCall, Origin, Requested, Reserves, ReservesBlock, Runs, Stage, World, point_of}
use Rattle.sc_model.specs.Moves.{moves}
use Rattle.sc_model.specs.Objects.{Object, fresh_object, object_numbered}
use Rattle.sc_model.specs.Routines.{Routine, version_of}
use Rattle.sc_model.specs.Steps.{Calling, Does, Enters, Fails, Point}
use Rattle.sc_model.specs.Values.{Operand, Reference}
use Rattle.sc_region.specs.declared.job.Job.{Job}
use Rattle.sc_region.specs.declared.job.Job.TheVariants as job
use Rattle.sc_handler.specs.Handlers as core
use Rattle.sc_handler.specs.Handlers.{State}
use Rattle.sc_handler.specs.Picking.{job_of}
use Rattle.sc_request.specs.Halves.{IsHalfOf, IsTop}
use Rattle.sc_refines_world.specs.regions.RegionHalves.{AreHalvesOf, IsHalfOfFrame, IsRegionHalf, IsStageFor, unpassed}
use Rattle.sc_refines_world.specs.regions.RegionSteps.{numbering_by}
use Rattle.sc_refines_world.specs.regions.RegionTurns.{Half}
use Rattle.sc_interp.specs.Serving as serving
use Rattle.sc_refines_world.specs.regions.Turns.{begun_half}
use Rattle.sc_refines_world.specs.regions.Halves.{AreComplete, AreWithin, GivesResult, GoesWell, HalfFits, HasRoutine, IsComplete, TopGoesWell}
use Rattle.sc_refines_world.specs.regions.Waiting.{RefusesInContract}
use Rattle.sc_machine_laws.specs.states.Fitting as values
use Rattle.sc_machine_laws.specs.states.Fitting.{FrameFits, Gives, Linked, ObjectFits, WorldFits, alone, called}
use Rattle.sc_machine_laws.specs.states.Places as places
use Rattle.sc_machine_laws.specs.states.Points.{AttributesFit, Each, ResultFits, a_result, no_result}
use Rattle.sc_machine_laws.specs.states.ValueSteps.{StepFits}
use Rattle.sc_refines_world.proofs.Contracts.{StandsInContract, begun_none, begun_stack, frame, job_here, moves_so, operands_under, same_frame, tells_at, top_in_contract, waits_for_none}

-- ---- routines that are entered

routine_same : (kind : FeatureKind) → serving.is_routine kind ≡ places.is_routine kind
routine_same (tree.Attribute d) = refl
routine_same (tree.Routine r) = refl

-- a version that is a routine is one that the class has
has_routine : (s : System) (class : ℕ) (name : List ℕ) (f : DeclaredFeature) → version_of s class name ≡ Some f → places.is_routine f.feature.kind ≡ true → HasRoutine s class name
has_routine s class name f found is =
    ap (option_map (λ (f : DeclaredFeature). serving.is_routine f.feature.kind)) found ∙ ap (λ b. Some b) (routine_same f.feature.kind ∙ is)

-- The routine of this object that has come to the point enters only routines that there are.
abbrev EntersRoutines : System → Reference → Routine → Point → Type 0
EntersRoutines s me r p = (d : Calling) (o : Reference) (name : List ℕ) (vs : List Operand) (t : Option EntityType) (q : Point) →
    moves s me p ≡ Does (Enters d o name vs t) q → HasRoutine s o.class name

-- ---- objects

object_complete : (s : System) (h : ℕ) (o : Object) → AttributesFit s h o → IsComplete s o
object_complete s h o fits =
    sym (length-map o.attributes known_of) ∙ ap length fits.has_attributes ∙ length-map (fresh_object s o.class).attributes known_of

are_complete : (s : System) (w : World) (h : ℕ) (os : List Object) → Each (ObjectFits s w h) os → AreComplete s os
are_complete s w h [] fits = tt
are_complete s w h (o ∷ os) fits = (object_complete s h o fits.0.attributes_fit, are_complete s w h os fits.1)

number_within : (k : ℕ) (os : List Object) (o : Object) → object_numbered k os ≡ Some o → k ≤ length os
number_within k os o = by (k == 0)
  where
    by : (b : Bool) → (if b then None else slice_get os (k - 1)) ≡ Some o → k ≤ length os
    by true e = cc
    by false e = let there = slice_get_within os (k - 1) o e in omega (arith, there)

-- ---- frames

are_within : (s : System) (pure : RoutineName → Bool) (w : World) (h : ℕ) (stage : core.HandlerStage) (fs gs : List Frame) → Each (FrameFits s pure w h) fs → AreHalvesOf h stage fs gs →
    AreWithin (length (w.handlers h).objects) gs
are_within s pure w h stage [] [] fit are = tt
are_within s pure w h stage [] (g ∷ gs) fit are = absurd are
are_within s pure w h stage (f ∷ fs) [] fit are = absurd are
are_within s pure w h stage (f ∷ fs) (g ∷ gs) fit are =
    let there : f.current.number ≤ length (w.handlers h).objects = number_within f.current.number (w.handlers h).objects fit.0.is_there.object fit.0.is_there.is_there in (
      subst (λ (r : Reference). r.number ≤ length (w.handlers h).objects) (ap (λ (f : Frame). f.current) are.0.same) there,
      are_within s pure w h core.Runs fs gs fit.1 are.1,
    )

-- ---- who is called gives a Result

was_called : (o : Origin) (c : Calling) → unpassed o ≡ Called c → o ≡ Called c
was_called (Called d) c e = e
was_called (Requested r) c e = cc

was_in_call : (h : ℕ) (f g : Stage) (t : EntityType) → IsStageFor h f g → g ≡ InCall (Some t) → f ≡ InCall (Some t)
was_in_call h Runs g t at e = let no : Runs ≡ InCall (Some t) = sym at ∙ e in cc
was_in_call h Reserves g t at e = let no : Reserves ≡ InCall (Some t) = sym at ∙ e in cc
was_in_call h ReservesBlock g t at e = let no : ReservesBlock ≡ InCall (Some t) = sym at ∙ e in cc
was_in_call h (InCall gives) g t at e = sym at ∙ e
was_in_call h (Awaits k gives true) g t at e = let no : Awaits h gives true ≡ InCall (Some t) = sym at ∙ e in cc
was_in_call h (Awaits k gives false) g t (inl at) e = let no : Awaits k gives false ≡ InCall (Some t) = sym at ∙ e in cc
was_in_call h (Awaits k gives false) g t (inr (none, at)) e = let no : Runs ≡ InCall (Some t) = sym at ∙ e in cc

result_there : (s : System) (h k : ℕ) (cs : List Binding) (t : EntityType) (r : Option (Option EntityType)) (o : Option Operand) → Gives s h r k cs (Some t) → ResultFits s h r o →
    is_some o ≡ true
result_there s h k cs t _ _ gives (a_result {u} fits) = refl
result_there s h k cs t _ _ gives no_result = absurd gives

same_call : (s : System) (h : ℕ) (f g : Frame) (below : List Frame) (c : Calling) (t : EntityType) → Linked s h (f ∷ g ∷ below) → f.origin ≡ Called c → g.stage ≡ InCall (Some t) →
    Gives s h f.routine.text.result h g.environment (Some t)
same_call s h _ g below c t (alone {f} {r} {below = bs} is result more) o i = let no : Called c ≡ Requested r = sym o ∙ is in cc
same_call s h _ _ below c t (called {f} {g} {below = bs} {c = d} {t = u} is calls gives more) o i =
    let same : u ≡ Some t = stage_gives u (Some t) (sym calls ∙ i) in subst (Gives s h f.routine.text.result h g.environment) same gives
  where
    stage_gives : (a b : Option EntityType) → InCall a ≡ InCall b → a ≡ b
    stage_gives a b e = cc

gives_result : (s : System) (pure : RoutineName → Bool) (w : World) (h : ℕ) (stage : core.HandlerStage) (f g : Frame) (fs gs : List Frame) (us : List Operand) → Linked s h (f ∷ fs) →
    FrameFits s pure w h f → IsHalfOfFrame h stage f g → AreHalvesOf h core.Runs fs gs → GivesResult (record g { values = us }) gs
gives_result s pure w h stage f g [] [] us linked fits half are = tt
gives_result s pure w h stage f g (e ∷ fs) [] us linked fits half are = absurd are
gives_result s pure w h stage f g [] (d ∷ gs) us linked fits half are = absurd are
gives_result s pure w h stage f g (e ∷ fs) (d ∷ gs) us linked fits half are = λ c t o i. (
    let from : f.origin ≡ Called c = was_called f.origin c (sym half.origin ∙ o) in
    let calls : e.stage ≡ InCall (Some t) = was_in_call h e.stage d.stage t are.0.stands i in
    let given : is_some f.result ≡ true = result_there s h h e.environment t f.routine.text.result f.result (same_call s h f e fs c t linked from calls) fits.point_fits.result_fits in
    subst (λ (r : Option Operand). is_some r ≡ true) (ap (λ (f : Frame). f.result) half.same) given
    )

-- the routine doesn't come to what no case fits
abbrev GoesOn : System → Reference → Routine → Point → Type 0
GoesOn s me r p = (q : Point) → moves s me p ≡ Does (Fails cause.BadCode) q → ⊥

-- ---- the half

module _ (s : System) (root : Root) (pure : RoutineName → Bool) (faultless : IsFaultless s root) (well : WellFormed s) (tells : IsPurity s pure) (w : World) (fits : WorldFits s pure w)
    (names : List (List ℕ)) (c : State) (half : IsHalfOf (numbering_by names) w c) (h : ℕ) (here : h < w.count) (j : Job) (is_job : job_of h c ≡ Some j) (x : Half)
    (region : IsRegionHalf h (w.handlers h) (c.handlers h).stage x) where
  lives : (w.handlers h).failure ≡ None
  lives = sym (half.handlers h).failure ∙ (job_here h c j is_job).0

  stands : (x.failure ≡ None) × AreHalvesOf h (c.handlers h).stage (w.handlers h).stack x.stack
  stands = region.stands lives

  pub complete : AreComplete s x.objects
  complete = subst (AreComplete s) (sym region.objects) (are_complete s w h (w.handlers h).objects (fits h here).objects_fit)

  pub within : AreWithin (length x.objects) x.stack
  within =
      subst (λ (os : List Object). AreWithin (length os) x.stack) (sym region.objects)
      (are_within s pure w h (c.handlers h).stage (w.handlers h).stack x.stack (fits h here).frames_fit stands.1)

  -- what the topmost frame has is what it is told
  same_values : (f g : Frame) (fs : List Frame) → (w.handlers h).stack ≡ f ∷ fs → g.stage ≡ Runs → IsHalfOfFrame h (c.handlers h).stage f g → f.values ≡ operands_under j g.values
  same_values f g fs e runs of =
      tells_at h (c.handlers h) c j f g f.stage g.stage (c.handlers h).stage
      (subst (λ (st : List Frame). IsTop st (c.handlers h).stage) e (half.handlers h).stage) of.stands runs of.values (job_here h c j is_job).1

  within_begun : AreWithin (length x.objects) (begun_half j x).stack
  within_begun = by x.stack refl within
    where
      by : (gs : List Frame) → x.stack ≡ gs → AreWithin (length x.objects) gs → AreWithin (length x.objects) (begun_half j x).stack
      by [] e is = subst (AreWithin (length x.objects)) (sym (begun_none j x e)) tt
      by (g ∷ gs) e is = subst (AreWithin (length x.objects)) (sym (begun_stack j x g gs e)) is

  module _ (f g : Frame) (fs gs : List Frame) (stack : (w.handlers h).stack ≡ f ∷ fs) (own : x.stack ≡ g ∷ gs) (are : AreHalvesOf h (c.handlers h).stage (f ∷ fs) (g ∷ gs)) (runs : g.stage ≡ Runs) where
    abbrev us : List Operand
    us = operands_under j g.values

    none : values.coming_to f.stage ≡ []
    none = waits_for_none h f.stage g.stage are.0.stands runs

    fit : FrameFits s pure w h f
    fit = frame s root pure faultless well tells w fits h here f fs stack none

    goes_well : GoesWell s h x.objects (record g { values = us }) gs
    goes_well = record {
      own = sym (ap (λ (f : Frame). f.current.handler) are.0.same) ∙ fit.is_own;
      gives_result = gives_result s pure w h (c.handlers h).stage f g fs gs us (subst (Linked s h) stack (fits h here).frames_are_linked) fit are.0 are.1;
      fits = subst (λ (os : List Object). GoesOn s g.current g.routine (point_of (record g { values = us }) os)) (sym region.objects)
          (same_frame (GoesOn s) h (c.handlers h).stage (w.handlers h).objects f g us are.0 (same_values f g fs stack runs are.0) goes);
      enters = subst (λ (os : List Object). EntersRoutines s g.current g.routine (point_of (record g { values = us }) os)) (sym region.objects)
          (same_frame (EntersRoutines s) h (c.handlers h).stage (w.handlers h).objects f g us are.0 (same_values f g fs stack runs are.0) enters);
    }
      where
        enters : EntersRoutines s f.current f.routine (point_of f (w.handlers h).objects)
        enters d o name vs t q e =
            let step = subst (StepFits s pure f.routine f.current) e (moves_so s root pure faultless well tells w fits h here f fs stack none) in
            has_routine s o.class name step.2.0.version step.2.0.is_version step.2.1

        goes : GoesOn s f.current f.routine (point_of f (w.handlers h).objects)
        goes q e =
            let no : true ≡ false = (subst (StepFits s pure f.routine f.current) e (moves_so s root pure faultless well tells w fits h here f fs stack none)).0 in
            cc

    in_contract : StandsInContract s g.current g.routine (point_of (record g { values = us }) x.objects)
    in_contract =
        subst (λ (os : List Object). StandsInContract s g.current g.routine (point_of (record g { values = us }) os)) (sym region.objects)
        (same_frame (StandsInContract s) h (c.handlers h).stage (w.handlers h).objects f g us are.0 (same_values f g fs stack runs are.0)
        (top_in_contract s root pure faultless well tells w fits h here f fs stack none))

  top_begun : TopGoesWell s h x.objects (begun_half j x).stack × RefusesInContract s x.objects (begun_half j x).stack
  top_begun = by (w.handlers h).stack x.stack refl refl stands.1
    where
      by : (fs gs : List Frame) → (w.handlers h).stack ≡ fs → x.stack ≡ gs → AreHalvesOf h (c.handlers h).stage fs gs →
          TopGoesWell s h x.objects (begun_half j x).stack × RefusesInContract s x.objects (begun_half j x).stack
      by [] [] e d are = (subst (TopGoesWell s h x.objects) (sym (begun_none j x d)) tt, subst (RefusesInContract s x.objects) (sym (begun_none j x d)) tt)
      by [] (g ∷ gs) e d are = absurd are
      by (f ∷ fs) [] e d are = absurd are
      by (f ∷ fs) (g ∷ gs) e d are = (
        subst (TopGoesWell s h x.objects) (sym (begun_stack j x g gs d)) (λ runs. goes_well f g fs gs e d are runs),
        subst (RefusesInContract s x.objects) (sym (begun_stack j x g gs d)) (λ runs. in_contract f g fs gs e d are runs),
      )

  begun_objects : (begun_half j x).objects ≡ x.objects
  begun_objects = by j
    where
      by : (j : Job) → (begun_half j x).objects ≡ x.objects
      by (job.Made k) = refl
      by (job.Take r) = refl
      by (job.Reply v) = refl
      by job.Failed = refl
      by job.Refused = refl
      by (job.Granted ks) = refl
      by job.Go = refl

  begun_failure : (begun_half j x).failure ≡ x.failure
  begun_failure = by j
    where
      by : (j : Job) → (begun_half j x).failure ≡ x.failure
      by (job.Made k) = refl
      by (job.Take r) = refl
      by (job.Reply v) = refl
      by job.Failed = refl
      by job.Refused = refl
      by (job.Granted ks) = refl
      by job.Go = refl

  -- the half in which the job has begun fits
  pub half_fits : HalfFits s h (begun_half j x)
  half_fits = record {
    lives = begun_failure ∙ stands.0;
    complete = subst (AreComplete s) (sym begun_objects) complete;
    within = subst (λ (os : List Object). AreWithin (length os) (begun_half j x).stack) (sym begun_objects) within_begun;
    goes_well = subst (λ (os : List Object). TopGoesWell s h os (begun_half j x).stack) (sym begun_objects) top_begun.0;
    in_contract = subst (λ (os : List Object). RefusesInContract s os (begun_half j x).stack) (sym begun_objects) top_begun.1;
  }
