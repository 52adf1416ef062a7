-- A value comes to the frame that waits for it: of a call that ends, or of an answer.
use Rattle.std.specs.Option.{option_map}
use Rattle.std.proofs.Common.{Bool, List, None, Option, Some, [], ap, false, inl, inr, refl, subst, sym, true, ℕ, ◌∙◌, ◌∷◌, ◌≡◌}
use Rattle.sc_tree.specs.Plain.{System}
use Rattle.sc_rules.specs.declared.entity_types.entity_type.EntityType.{EntityType}
use Rattle.sc_rules.specs.Names.{RoutineName}
use Rattle.sc_model.specs.Environments.{Binding, handler_named}
use Rattle.sc_model.specs.Exits.{handed_as, is_unset, is_unset_value}
use Rattle.sc_model.specs.Failures.{request_of}
use Rattle.sc_model.specs.Fits.{Fits, FitsOrUnset}
use Rattle.sc_model.specs.Handlers.{Answer, Awaits, Failed, Frame, Refused, Reply, World, point_of, put}
use Rattle.sc_model.specs.Routines.{Routine}
use Rattle.sc_model.specs.Steps.{Point}
use Rattle.sc_model.specs.Takes.{released_if, takes_answer}
use Rattle.sc_lockpass.specs.declared.wait_conditions.session.Release.TheVariants as release_at
use Rattle.sc_model.specs.Values.{Attached, Boolean, Integer, Operand, Value, Void, operand}
use Rattle.sc_model.specs.declared.cause.Cause.TheVariants as cause
use Rattle.sc_machine_laws.specs.states.Fitting.{FrameFits, Gives, HandlerFits, Linked, ReplyFits, RequestFits, ValueIsThere, WorldFits, coming_to}
use Rattle.sc_machine_laws.specs.states.Places.{no_names}
use Rattle.sc_machine_laws.specs.states.Points as point
use Rattle.sc_machine_laws.specs.states.Points.{Agrees, Each, IsAmong, PointFits, ResultFits, listed}
use Rattle.sc_machine_laws.specs.states.Typed.{Known}
use Rattle.sc_machine_laws.specs.states.Values.{AnswersKeepIt}
use Rattle.sc_machine_laws.proofs.states.Remains.{failures_keep_it, releases_keep_it}
use Rattle.sc_machine_laws.proofs.states.Settled.{relinked, replaced, requests_as}

-- ---- a value comes

-- The value that was still to come lies on the others.
pub arrived : (s : System) (pure : RoutineName → Bool) (r : Routine) (h : ℕ) (t : EntityType) (p : Point) (v : Value) → PointFits s pure r h (t ∷ []) p →
    Fits s h (handler_named p.environment) v t → PointFits s pure r h [] (record p { values = operand v t ∷ p.values })
arrived s pure r h t p v f g = record {
  text_is = f.text_is;
  known = f.known;
  agrees = by f.known f.agrees;
  is_typed = f.is_typed;
  scope_stands = f.scope_stands;
  names_fit = f.names_fit;
  result_fits = f.result_fits;
  olds_fit = f.olds_fit;
  values_fit = (g, f.values_fit);
}
  where
    by : (x : Known) → Agrees p (t ∷ []) x → Agrees (record p { values = operand v t ∷ p.values }) [] x
    by _ point.here = point.here
    by _ (point.held e i j) = cc
    by _ (point.denied e i j) = cc

-- what comes to the frame, if it waits for a value
abbrev pub Comes : System → World → ℕ → Frame → Option EntityType → Option Value → Type 0
Comes s w h f t v = (u : EntityType) → t ≡ Some u → (x : Value) × (v ≡ Some x) × Fits s h (handler_named f.environment) x u × ValueIsThere w x

-- The frame goes on with it.
pub handed_fits : (s : System) (pure : RoutineName → Bool) (w : World) (h : ℕ) (f : Frame) (t : Option EntityType) (v : Option Value) → FrameFits s pure w h f → coming_to f.stage ≡ listed t →
    Comes s w h f t v → FrameFits s pure w h (handed_as t v f)
handed_fits s pure w h f None v e i g = record {
  is_own = e.is_own;
  is_there = e.is_there;
  is_version = e.is_version;
  point_fits = subst (λ ts. PointFits s pure f.routine h ts (point_of f (w.handlers h).objects)) i e.point_fits;
  names_are_there = e.names_are_there;
  values_are_there = e.values_are_there;
}
handed_fits s pure w h f (Some u) v e i g = of_value (g u refl)
  where
    of_value : (x : Value) × (v ≡ Some x) × Fits s h (handler_named f.environment) x u × ValueIsThere w x → FrameFits s pure w h (handed_as (Some u) v f)
    of_value (x, j, fit, there) = subst (λ o. FrameFits s pure w h (handed_as (Some u) o f)) (sym j) (record {
      is_own = e.is_own;
      is_there = e.is_there;
      is_version = e.is_version;
      point_fits = arrived s pure f.routine h u (point_of f (w.handlers h).objects) x (subst (λ ts. PointFits s pure f.routine h ts (point_of f (w.handlers h).objects)) i e.point_fits) fit;
      names_are_there = e.names_are_there;
      values_are_there = (there, e.values_are_there);
    })

pub handed_origin : (f : Frame) (t : Option EntityType) (v : Option Value) → (handed_as t v f).origin ≡ f.origin
handed_origin f None v = refl
handed_origin f (Some u) None = refl
handed_origin f (Some u) (Some x) = refl

pub handed_routine : (f : Frame) (t : Option EntityType) (v : Option Value) → (handed_as t v f).routine ≡ f.routine
handed_routine f None v = refl
handed_routine f (Some u) None = refl
handed_routine f (Some u) (Some x) = refl

-- ---- what a routine gives

-- A result that isn't unset fits what the caller waits for.
pub given_value : (s : System) (h k : ℕ) (cs : List Binding) (P : Value → Type 0) (o : Option (Option EntityType)) (x : Option Operand) (t : Option EntityType) → ResultFits s h o x → is_unset x ≡ false →
    Gives s h o k cs t → Each (λ (u : Operand). P u.value) (listed x) → (u : EntityType) → t ≡ Some u →
    (v : Value) × (option_map (λ (u : Operand). u.value) x ≡ Some v) × Fits s k (handler_named cs) v u × P v
given_value s h k cs P _ _ None f e g z u i = cc
given_value s h k cs P _ _ (Some t) point.no_result e g z u i = absurd g
given_value s h k cs P _ _ (Some t) (point.a_result {u = r} f) e g z u i =
    (r.value, refl, subst (Fits s k (handler_named cs) r.value) (same i) (g r.value (set r.value f e)), z.0)
  where
    same : Some t ≡ Some u → t ≡ u
    same i = cc

    set : (v : Value) → FitsOrUnset s h no_names v r.type → is_unset_value v r.type ≡ false → Fits s h no_names v r.type
    set v (inl f) e = f
    set Void (inr n) e = (e, n.1)
    set (Integer z) (inr n) e = let q : Integer z ≡ Void = n.0 in cc
    set (Boolean b) (inr n) e = let q : Boolean b ≡ Void = n.0 in cc
    set (Attached o) (inr n) e = let q : Attached o ≡ Void = n.0 in cc

-- ---- an answer is taken

pub answers_keep_it : AnswersKeepIt
answers_keep_it s pure w fits h l f below is k t is_creation stage a answer = by a answer
  where
    own : HandlerFits s pure w h
    own = fits h l

    frames : Each (FrameFits s pure w h) (f ∷ below)
    frames = subst (Each (FrameFits s pure w h)) is own.frames_fit

    top : {f g : Frame} {fs gs : List Frame} → f ∷ fs ≡ g ∷ gs → f ≡ g
    top e = cc

    awaited : {j k : ℕ} {t u : Option EntityType} {b c : Bool} → Awaits j t b ≡ Awaits k u c → t ≡ u
    awaited e = cc

    takes : (v : Option Value) → ReplyFits s w h v → Comes s w h f t v
    takes v z u e =
        let i : z.frame ≡ f = top (sym z.stack_is ∙ is) in
        subst (λ (y : Frame). (x : Value) × (v ≡ Some x) × Fits s h (handler_named y.environment) x u × ValueIsThere w x) i
        (z.fits u (awaited (sym z.stage_is ∙ ap (λ (y : Frame). y.stage) i ∙ stage) ∙ e))

    released : (b : Bool) (v : World) → WorldFits s pure v → WorldFits s pure (released_if b k v)
    released true v f = releases_keep_it s pure v release_at.Creation (k ∷ []) f
    released false v f = f

    by : (a : Answer) → (w.handlers h).answer ≡ Some a → WorldFits s pure (takes_answer h a k t is_creation f below w)
    by Failed e = failures_keep_it s pure w h cause.SupplierFailed [] f.current frames.0.is_there fits
    by Refused e = failures_keep_it s pure w h cause.Precondition [] f.current frames.0.is_there fits
    by (Reply v) e = released is_creation (put h (record (w.handlers h) { stack = handed_as t v f ∷ below; answer = None }) w)
        (replaced s pure w h (record (w.handlers h) { stack = handed_as t v f ∷ below; answer = None }) (record { objects = refl; queue = λ i. refl }) (λ j m i. fits j m) own.objects_fit
        (handed_fits s pure w h f t v frames.0 (ap coming_to stage) (takes v (own.answer_fits v e)), frames.1)
        (relinked s h f (handed_as t v f) below (handed_origin f t v) (handed_routine f t v) (subst (Linked s h) is own.frames_are_linked))
        (subst (Each (RequestFits s w h)) (sym (requests_as (w.handlers h) f (handed_as t v f) below (ap request_of (handed_origin f t v)) is)) own.requests_fit)
        (λ v i. cc))
