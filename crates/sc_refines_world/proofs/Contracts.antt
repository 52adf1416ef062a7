-- Where the topmost routine of a region's half goes on and finds a clause of its precondition false, it stands in its contract.
use Rattle.std.proofs.Common.{◌≡◌, ◌<◌, inl, inr, ℕ, Bool, true, false, List, [], ◌∷◌, Option, Some, None, refl, sym, ap, subst, ◌∙◌}
use Rattle.std.specs.Prelude.{nat_lt, if◌then◌else◌}
use Rattle.sc_tree.specs.Plain.{Clause, System}
use Rattle.sc_class.specs.ClassNames.{Root}
use Rattle.sc_class.specs.Faults.ClassRules.{IsFaultless}
use Rattle.sc_rules.specs.declared.entity_types.entity_type.EntityType.{EntityType}
use Rattle.sc_rules.specs.Names.{RoutineName}
use Rattle.sc_rules.specs.Purity.{IsPurity}
use Rattle.sc_rules.specs.SystemRules.{WellFormed}
use Rattle.sc_model.specs.declared.cause.Cause.{Cause}
use Rattle.sc_model.specs.Handlers.{Awaits, Frame, InCall, Reserves, ReservesBlock, Runs, Stage, World, point_of}
use Rattle.sc_model.specs.Moves.{moves}
use Rattle.sc_model.specs.Objects.{Object}
use Rattle.sc_model.specs.Routines.{Routine}
use Rattle.sc_model.specs.Steps.{Does, Point, Refuses}
use Rattle.sc_model.specs.Values.{Operand, Reference}
use Rattle.sc_region.specs.declared.job.Job.{Job}
use Rattle.sc_region.specs.declared.job.Job.TheVariants as job
use Rattle.sc_handler.specs.Handlers as core
use Rattle.sc_handler.specs.Handlers.{State}
use Rattle.sc_handler.specs.Picking.{job_answered, job_at, job_awaiting, job_of, job_with}
use Rattle.sc_request.specs.Halves.{IsStage}
use Rattle.sc_refines_world.specs.regions.RegionHalves.{IsHalfOfFrame, IsStageFor, IsToldOf}
use Rattle.sc_refines_world.specs.regions.RegionTurns.{Half, told, told_frames}
use Rattle.sc_refines_world.specs.regions.Turns.{begun_half}
use Rattle.sc_refines_world.specs.regions.Waiting.{IsInContract, IsVersion}
use Rattle.sc_machine_laws.specs.states.Fitting.{FrameFits, WorldFits, coming_to}
use Rattle.sc_machine_laws.specs.states.Points.{Each, PointFits, types_of}
use Rattle.sc_machine_laws.specs.states.ValueSteps.{IsThereIfOwn, StepFits, ValuesDo}
use Rattle.sc_machine_laws.proofs.states.Frames.{store_fits, values_there}
use Rattle.sc_machine_laws.proofs.states.Moves.{moves_fit}

-- the routine is a version, and where its next visible step finds a clause false, it stands in its contract there
abbrev pub StandsInContract : System → Reference → Routine → Point → Type 0
StandsInContract s me r p = IsVersion s r × ((k : Clause) (q : Point) → moves s me p ≡ Does (Refuses k) q → IsInContract s r q)

-- what a routine is told as the job begins
abbrev pub operands_under : Job → List Operand → List Operand
operands_under (job.Made k) us = told k us
operands_under j us = us

no_types : (us : List Operand) → types_of us ≡ [] → us ≡ []
no_types [] e = refl
no_types (u ∷ us) e = cc

-- What holds of the machine's frame, where that has these operands, holds of the region's with them.
pub same_frame : (P : Reference → Routine → Point → Type 0) (h : ℕ) (stage : core.HandlerStage) (objects : List Object) (f g : Frame) (us : List Operand) → IsHalfOfFrame h stage f g →
    f.values ≡ us → P f.current f.routine (point_of f objects) → P g.current g.routine (point_of (record g { values = us }) objects)
same_frame P h stage objects f g us half e stands =
    let me : f.current ≡ g.current = ap (λ (f : Frame). f.current) half.same in
    let routine : f.routine ≡ g.routine = ap (λ (f : Frame). f.routine) half.same in
    let point : point_of f objects ≡ point_of (record g { values = us }) objects =
    ap (λ (f : Frame). point_of f objects) half.same ∙ ap (λ (vs : List Operand). point_of (record g { values = vs }) objects) e in
    subst (λ (p : Point). P g.current g.routine p) point
    (subst (λ (r : Routine). P g.current r (point_of f objects)) routine
    (subst (λ (o : Reference). P o f.routine (point_of f objects)) me stands))

-- the region goes on where the machine does, or waits for no value
pub waits_for_none : (h : ℕ) (f g : Stage) → IsStageFor h f g → g ≡ Runs → coming_to f ≡ []
waits_for_none h Runs g at e = refl
waits_for_none h Reserves g at e = refl
waits_for_none h ReservesBlock g at e = refl
waits_for_none h (InCall gives) g at e = let no : Runs ≡ InCall gives = sym e ∙ at in cc
waits_for_none h (Awaits k gives true) g at e = let no : Runs ≡ Awaits h gives true = sym e ∙ at in cc
waits_for_none h (Awaits k gives false) g (inl at) e = let no : Runs ≡ Awaits k gives false = sym e ∙ at in cc
waits_for_none h (Awaits k gives false) g (inr (none, at)) e = ap (λ (o : Option EntityType). coming_to (Awaits k o false)) none

pub begun_stack : (j : Job) (x : Half) (g : Frame) (gs : List Frame) → x.stack ≡ g ∷ gs → (begun_half j x).stack ≡ record g { values = operands_under j g.values } ∷ gs
begun_stack (job.Made k) x g gs e = ap (told_frames k) e
begun_stack (job.Take r) x g gs e = e
begun_stack (job.Reply v) x g gs e = e
begun_stack job.Failed x g gs e = e
begun_stack job.Refused x g gs e = e
begun_stack (job.Granted ks) x g gs e = e
begun_stack job.Go x g gs e = e

pub begun_none : (j : Job) (x : Half) → x.stack ≡ [] → (begun_half j x).stack ≡ []
begun_none (job.Made k) x e = ap (told_frames k) e
begun_none (job.Take r) x e = e
begun_none (job.Reply v) x e = e
begun_none job.Failed x e = e
begun_none job.Refused x e = e
begun_none (job.Granted ks) x e = e
begun_none job.Go x e = e

module _ (s : System) (root : Root) (pure : RoutineName → Bool) (faultless : IsFaultless s root) (well : WellFormed s) (tells : IsPurity s pure) (w : World) (fits : WorldFits s pure w)
    (h : ℕ) (here : h < w.count) where
  abbrev objects : List Object
  objects = (w.handlers h).objects

  module _ (f : Frame) (below : List Frame) (stack : (w.handlers h).stack ≡ f ∷ below) (for_none : coming_to f.stage ≡ []) where
    pub frame : FrameFits s pure w h f
    frame = (subst (Each (FrameFits s pure w h)) stack (fits h here).frames_fit).0

    pub moves_so : StepFits s pure f.routine f.current (moves s f.current (point_of f objects))
    moves_so =
        moves_fit s root pure faultless well tells f.routine f.current frame.is_version (point_of f objects) (
          subst (λ (k : ℕ). PointFits s pure f.routine k [] (point_of f objects)) (sym frame.is_own)
              (subst (λ (ts : List EntityType). PointFits s pure f.routine h ts (point_of f objects)) for_none frame.point_fits),
          store_fits s pure w h f frame (fits h here).objects_fit,
        )
        (subst (λ (k : ℕ). ValuesDo (IsThereIfOwn k objects) (point_of f objects)) (sym frame.is_own) (values_there s pure w h f frame (fits h here).objects_fit))

    -- the machine's topmost frame, which waits for no value
    pub top_in_contract : StandsInContract s f.current f.routine (point_of f objects)
    top_in_contract = (
      record { class = f.current.class; name = f.routine.name; found = frame.is_version },
      λ k q e. (
          let is : StepFits s pure f.routine f.current (Does (Refuses k) q) = subst (StepFits s pure f.routine f.current) e moves_so in
          record { text = is.0.0; names = is.0.1; olds = no_types q.olds is.0.2 }
          ),
    )

-- ---- what is told as a job begins

pub job_here : (h : ℕ) (c : State) (j : Job) → job_of h c ≡ Some j → ((c.handlers h).failure ≡ None) × (job_at h (c.handlers h).stage (c.handlers h) c ≡ Some j)
job_here h c j = by (nat_lt h c.count) (c.handlers h).failure refl
  where
    by : (b : Bool) (o : Option Cause) → (c.handlers h).failure ≡ o → (if b then job_with h o (c.handlers h) c else None) ≡ Some j →
        ((c.handlers h).failure ≡ None) × (job_at h (c.handlers h).stage (c.handlers h) c ≡ Some j)
    by true None e is = (e, is)
    by true (Some why) e is = cc
    by false o e is = cc

same_job : (i j : Job) → Some i ≡ Some j → i ≡ j
same_job i j e = cc

module _ (h : ℕ) (y : core.Handler) (c : State) (j : Job) (f g : Frame) where
  answered_tells : (k : ℕ) (a : core.Answer) → Some (job_answered k false a) ≡ Some j → f.values ≡ g.values → f.values ≡ operands_under j g.values
  answered_tells k (core.Replied v) e is = subst (λ (i : Job). f.values ≡ operands_under i g.values) (same_job (job.Reply v) j e) is
  answered_tells k core.SupplierFailed e is = subst (λ (i : Job). f.values ≡ operands_under i g.values) (same_job job.Failed j e) is
  answered_tells k core.Refused e is = subst (λ (i : Job). f.values ≡ operands_under i g.values) (same_job job.Refused j e) is

  awaiting_tells : (k : ℕ) (callback : Option core.Posted) (answer : Option core.Answer) → job_awaiting k false callback answer ≡ Some j → f.values ≡ g.values →
      f.values ≡ operands_under j g.values
  awaiting_tells k (Some p) answer e is = subst (λ (i : Job). f.values ≡ operands_under i g.values) (same_job (job.Take p.request) j e) is
  awaiting_tells k None (Some a) e is = answered_tells k a e is
  awaiting_tells k None None e is = cc

  pub tells_at : (st gt : Stage) (stage : core.HandlerStage) → IsStage st f stage → IsStageFor h st gt → gt ≡ Runs → IsToldOf st stage f.values g.values → job_at h stage y c ≡ Some j →
      f.values ≡ operands_under j g.values
  tells_at Runs gt stage (inl e) at runs values is =
      let go : Some job.Go ≡ Some j = subst (λ (t : core.HandlerStage). job_at h t y c ≡ Some j) e is in
      subst (λ (i : Job). f.values ≡ operands_under i g.values) (same_job job.Go j go) (subst (λ (t : core.HandlerStage). IsToldOf Runs t f.values g.values) e values)
  tells_at Runs gt stage (inr (k, e)) at runs values is =
      let made : Some (job.Made k) ≡ Some j = subst (λ (t : core.HandlerStage). job_at h t y c ≡ Some j) e is in
      subst (λ (i : Job). f.values ≡ operands_under i g.values) (same_job (job.Made k) j made) (subst (λ (t : core.HandlerStage). IsToldOf Runs t f.values g.values) e values)
  tells_at Reserves gt stage top at runs values is = let no : Runs ≡ Reserves = sym runs ∙ at in cc
  tells_at ReservesBlock gt stage top at runs values is = let no : Runs ≡ ReservesBlock = sym runs ∙ at in cc
  tells_at (InCall gives) gt stage top at runs values is = let no : Runs ≡ InCall gives = sym runs ∙ at in cc
  tells_at (Awaits k gives true) gt stage top at runs values is = let no : Runs ≡ Awaits h gives true = sym runs ∙ at in cc
  tells_at (Awaits k gives false) gt stage top (inl at) runs values is = let no : Runs ≡ Awaits k gives false = sym runs ∙ at in cc
  tells_at (Awaits k gives false) gt stage top (inr at) runs values is =
      awaiting_tells k y.callback y.answer (subst (λ (t : core.HandlerStage). job_at h t y c ≡ Some j) top is) values
