-- Whose is what stands in each state that an accepted system reaches, by what fits there.
use Rattle.std.proofs.Common.{◌≡◌, ◌++◌, ℕ, Bool, List, ◌∷◌, Option, Some, None, refl, sym, ap, subst, ◌∙◌}
use Rattle.std.specs.Prelude.{Contains, ◌<◌}
use Rattle.sc_tree.specs.Plain.{System}
use Rattle.sc_class.specs.ClassNames.{Root}
use Rattle.sc_class.specs.Faults.ClassRules.{IsFaultless}
use Rattle.sc_rules.specs.declared.entity_types.entity_type.EntityType.{EntityType}
use Rattle.sc_rules.specs.declared.entity_types.tag.Reserved.{Reserved}
use Rattle.sc_rules.specs.Names.{RoutineName}
use Rattle.sc_rules.specs.SystemRules.{WellFormed}
use Rattle.sc_rules.proofs.PurityStands.{purity_stands}
use Rattle.sc_model.specs.Environments.{Binding}
use Rattle.sc_model.specs.Failures.{requests_at}
use Rattle.sc_model.specs.Handlers.{Awaits, Frame, Request, World}
use Rattle.sc_model.specs.Runs.{IsReached}
use Rattle.sc_model.specs.Turns.{turn}
use Rattle.sc_model.specs.Values.{Attached, Operand, Value}
use Rattle.sc_machine_laws.specs.states.Fitting.{FrameFits, ObjectFits, ReplyFits, RequestFits, ValueIsThere, WorldFits}
use Rattle.sc_machine_laws.specs.states.Places.{StandsAs, attribute, entity, of_result, operand, of_old, actual, reply}
use Rattle.sc_machine_laws.specs.states.Points.{Each, ResultFits, listed}
use Rattle.sc_machine_laws.specs.states.Points as point
use Rattle.sc_machine_laws.proofs.states.ExcludedFailures.{none_is_excluded}
use Rattle.sc_machine_laws.proofs.states.Lists.{each_at, each_before, each_behind, each_in, same_some}
use Rattle.sc_refines_world.specs.Belonging.{FramesRunOnOwn, NoTurnIsExcluded, ObjectsAreOfClasses, ReferencesLead, RequestsStandAtTargets}
use Rattle.sc_refines_world.proofs.ReachedStates.{one_further, reached_fits}

result_typed : {s : System} {h : ℕ} {g : Option (Option EntityType)} {o : Option Operand} (u : Operand) → ResultFits s h g o → o ≡ Some u → g ≡ Some (Some u.type)
result_typed u point.no_result e = cc
result_typed u (point.a_result {u = v} f) e = ap (λ (u : Operand). Some (Some u.type)) (same_some e)

module _ (s : System) (pure : RoutineName → Bool) (w : World) (fits : WorldFits s pure w) where
  objects_of_classes : ObjectsAreOfClasses s w
  objects_of_classes h o l i =
      let f = (each_in (ObjectFits s w h) (w.handlers h).objects o (fits h l).objects_fit i).attributes_fit in
      record { is_class = f.is_of_class; has_attributes = f.has_attributes }

  frame_fits : (h : ℕ) (f : Frame) → h < w.count → Contains (w.handlers h).stack f → FrameFits s pure w h f
  frame_fits h f l i = each_in (FrameFits s pure w h) (w.handlers h).stack f (fits h l).frames_fit i

  frames_on_own : FramesRunOnOwn s w
  frames_on_own h f l i =
      let z = frame_fits h f l i in
      record {
        current_is_own = z.is_own;
        current_is_there = z.is_there;
        is_version = z.is_version;
        text_is_own = z.point_fits.text_is;
        result_is_typed = λ u e. result_typed u z.point_fits.result_fits e;
      }

  request_fits : (h : ℕ) (r : Request) → h < w.count → Contains (requests_at (w.handlers h)) r → RequestFits s w h r
  request_fits h r l i = each_in (RequestFits s w h) (requests_at (w.handlers h)) r (fits h l).requests_fit i

  requests_at_targets : RequestsStandAtTargets s w
  requests_at_targets h r l i =
      let z = request_fits h r l i in record { target_is_here = z.is_here; target_is_there = z.target_is_there; is_known = z.is_known }

  -- ---- where references lead

  abbrev OperandThere : Operand → Type 0
  OperandThere u = ValueIsThere w u.value

  frame_operands : (h : ℕ) (f : Frame) → h < w.count → Contains (w.handlers h).stack f →
      Each OperandThere f.values × Each OperandThere f.olds × Each OperandThere (listed f.result)
  frame_operands h f l i =
      let all = (frame_fits h f l i).values_are_there in
      let first = each_before OperandThere (f.values ++ f.olds) (listed f.result) all in (
        each_before OperandThere f.values f.olds first,
        each_behind OperandThere f.values f.olds first,
        each_behind OperandThere (f.values ++ f.olds) (listed f.result) all,
      )

  result_there : (o : Option Operand) (u : Operand) → o ≡ Some u → Each OperandThere (listed o) → OperandThere u
  result_there None u e z = cc
  result_there (Some v) u e z = subst OperandThere (same_some e) z.0

  value_there : (h : ℕ) (of : Reserved → Option ℕ) (v : Value) (t : EntityType) (b : Bool) → StandsAs s w h of v t b → ValueIsThere w v
  value_there h of v t b (attribute {o} {b = y} l i j) =
      each_in (λ (b : Binding). ValueIsThere w b.value) o.attributes y (each_in (ObjectFits s w h) (w.handlers h).objects o (fits h l).objects_fit i).are_there j
  value_there h of v t b (entity {f} {b = y} l i j) =
      each_in (λ (b : Binding). ValueIsThere w b.value) f.environment y (frame_fits h f l i).names_are_there j
  value_there h of v t b (of_result {f} {u} l i e) = result_there f.result u e (frame_operands h f l i).2
  value_there h of v t b (operand {f} {u} l i j) = each_in OperandThere f.values u (frame_operands h f l i).0 j
  value_there h of v t b (of_old {f} {u} l i j) = each_in OperandThere f.olds u (frame_operands h f l i).1 j
  value_there h of v t b (actual i {r} l c j k m) = each_at (ValueIsThere w) r.actuals i v (request_fits h r l c).actuals_are_there m
  value_there h of v t b (reply {k} {f} {below} {is_creation} l a e g) = of_reply ((fits h l).answer_fits (Some v) a)
    where
      top : {f g : Frame} {fs gs : List Frame} → f ∷ fs ≡ g ∷ gs → f ≡ g
      top e = cc

      awaited : {j k : ℕ} {t u : Option EntityType} {b c : Bool} → Awaits j t b ≡ Awaits k u c → t ≡ u
      awaited e = cc

      of_reply : ReplyFits s w h (Some v) → ValueIsThere w v
      of_reply z =
          let i : z.frame ≡ f = top (sym z.stack_is ∙ e) in
          let given = z.fits t (awaited (sym z.stage_is ∙ ap (λ (y : Frame). y.stage) i ∙ g)) in
          subst (ValueIsThere w) (sym (same_some given.1)) given.3

  references_lead : ReferencesLead s w
  references_lead h of r t b stands = value_there h of (Attached r) t b stands r refl

-- ---- of each state that is reached

module _ (s : System) (root : Root) (faultless : IsFaultless s root) (well : WellFormed s) (most : ℕ) (w : World) (reached : IsReached most s root w) where
  -- what holds where values fit
  where_fits : (P : Type 0) → ((pure : RoutineName → Bool) → WorldFits s pure w → P) → P
  where_fits P law = let p = purity_stands s in law p.0 (reached_fits s root p.0 faultless well p.1 most w reached)

  pub reached_objects_are_of_classes : ObjectsAreOfClasses s w
  reached_objects_are_of_classes = where_fits (ObjectsAreOfClasses s w) (λ pure fits. objects_of_classes s pure w fits)

  pub reached_frames_run_on_own : FramesRunOnOwn s w
  reached_frames_run_on_own = where_fits (FramesRunOnOwn s w) (λ pure fits. frames_on_own s pure w fits)

  pub reached_requests_stand_at_targets : RequestsStandAtTargets s w
  reached_requests_stand_at_targets = where_fits (RequestsStandAtTargets s w) (λ pure fits. requests_at_targets s pure w fits)

  pub reached_references_lead : ReferencesLead s w
  reached_references_lead = where_fits (ReferencesLead s w) (λ pure fits. references_lead s pure w fits)

  pub reached_no_turn_is_excluded : NoTurnIsExcluded most s w
  reached_no_turn_is_excluded h k why e = none_is_excluded s root faultless well most (turn most s h w) (one_further most s root h w reached) k why e
