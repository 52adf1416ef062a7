-- What holds of the values in each state that is reached: the invariant of a turn.
use Rattle.std.specs.Prelude.{◌++◌, ◌<◌, Bool, List, None, Option, Some, [], is_some, length, true, ℕ, ◌∷◌, ◌≡◌}
use Rattle.sc_tree.specs.Plain.{Declaration, System}
use Rattle.sc_class.specs.Tables.Features.{DeclaredFeature}
use Rattle.sc_rules.specs.declared.entity_types.entity_type.EntityType.{EntityType}
use Rattle.sc_rules.specs.declared.entity_types.tag.Reserved.{Reserved}
use Rattle.sc_rules.specs.Names.{RoutineName}
use Rattle.sc_rules.specs.Types.{declared_type}
use Rattle.sc_model.specs.Environments.{Binding, handler_named}
use Rattle.sc_model.specs.Failures.{requests_at}
use Rattle.sc_model.specs.Fits.{Fits}
use Rattle.sc_model.specs.Handlers.{Awaits, Called, Frame, Handler, InCall, Makes, Reply, Request, Requested, Reserves, ReservesBlock, Runs, Stage, World, point_of}
use Rattle.sc_model.specs.Objects.{Object, object_numbered}
use Rattle.sc_model.specs.Routines.{routine_named, version_of}
use Rattle.sc_model.specs.Steps.{Calling, gives}
use Rattle.sc_model.specs.Values.{Attached, Operand, Reference, Value}
use Rattle.sc_machine_laws.specs.states.Places.{called_name, formals_of_request, is_routine, no_names, of_actuals, result_of_request}
use Rattle.sc_machine_laws.specs.states.Points.{AttributesFit, Each, IsAmong, PointFits, listed}

-- ---- objects

-- The reference is to an existing object and has the object's class, or it is to the first object of a handler that
-- takes the request for its creation next.
pub data IsThere (w : World) (r : Reference) : Type 0 where
  is_made : {o : Object} → r.handler < w.count → object_numbered r.number (w.handlers r.handler).objects ≡ Some o →
      o.class ≡ r.class → IsThere w r
  is_due : {q : Request} {qs : List Request} {x : Option (List ℕ)} → r.handler < w.count →
      (w.handlers r.handler).objects ≡ [] → (w.handlers r.handler).queue ≡ q ∷ qs →
      q.target ≡ r → q.errand ≡ Makes x → r.number ≡ 1 → IsThere w r

abbrev pub ValueIsThere : World → Value → Type 0
ValueIsThere w v = (r : Reference) → v ≡ Attached r → IsThere w r

-- The attributes of the object fit, and refer to existing objects.
pub record ObjectFits (s : System) (w : World) (h : ℕ) (o : Object) : Type 0 where
  pub attributes_fit : AttributesFit s h o
  pub are_there : Each (λ (b : Binding). ValueIsThere w b.value) o.attributes

-- ---- requests

-- Pair by pair, the actuals fit the types of the formals, seen from the target's handler.
pub data ActualsFit (s : System) (h : ℕ) (all : List Declaration) (of : Reserved → Option ℕ) : List Declaration →
    List Value → Type 0 where
  no_more : ActualsFit s h all of [] []
  one_more : {d : Declaration} {ds : List Declaration} {v : Value} {vs : List Value} {t : EntityType} →
      declared_type s all d.declared_type ≡ Some t →
      Fits s h of v t → ActualsFit s h all of ds vs → ActualsFit s h all of (d ∷ ds) (v ∷ vs)

-- The class of the target has a version of what is called, and a creation procedure is a routine. The actuals fit,
-- and refer to existing objects.
pub record RequestFits (s : System) (w : World) (h : ℕ) (r : Request) : Type 0 where
  pub is_here : r.target.handler ≡ h
  pub is_of_class : r.target.class < length s.classes
  pub is_known : (x : List ℕ) → called_name r.errand ≡ Some x → is_some (version_of s r.target.class x) ≡ true
  -- a creation's procedure is a routine
  pub made_by_routine : (x : List ℕ) (f : DeclaredFeature) → r.errand ≡ Makes (Some x) →
      version_of s r.target.class x ≡ Some f → is_routine f.feature.kind ≡ true
  pub target_is_there : IsThere w r.target
  pub actuals_fit : ActualsFit s r.target.handler (formals_of_request s r) (of_actuals r.actuals)
      (formals_of_request s r) r.actuals
  pub actuals_are_there : Each (ValueIsThere w) r.actuals

-- ---- frames

-- the types of the values that a frame in this stage waits for
abbrev pub coming_to : Stage → List EntityType
coming_to Runs = []
coming_to Reserves = []
coming_to ReservesBlock = []
coming_to (InCall gives) = listed gives
coming_to (Awaits k gives is_creation) = listed gives

-- The routine of the frame is a version of its object's class, and its tasks are typed. Its values fit, and refer
-- to existing objects.
pub record FrameFits (s : System) (pure : RoutineName → Bool) (w : World) (h : ℕ) (f : Frame) : Type 0 where
  pub is_own : f.current.handler ≡ h
  pub is_there : IsAmong (w.handlers h).objects f.current
  pub is_version : routine_named s f.current.class f.routine.name ≡ Some f.routine
  pub point_fits : PointFits s pure f.routine h (coming_to f.stage) (point_of f (w.handlers h).objects)
  pub names_are_there : Each (λ (b : Binding). ValueIsThere w b.value) f.environment
  pub values_are_there : Each (λ (u : Operand). ValueIsThere w u.value) (f.values ++ f.olds ++ listed f.result)

-- ---- the results of frames, and the frames that take them

-- A result that fits its type at the supplier fits the type that the caller waits for.
abbrev pub Gives : System → ℕ → Option (Option EntityType) → ℕ → List Binding → Option EntityType → Type 0
Gives s h (Some (Some t)) k cs (Some u) = (v : Value) → Fits s h no_names v t → Fits s k (handler_named cs) v u
Gives s h None k cs None = Unit {0}
Gives s h g k cs u = ⊥

-- Each frame of the stack was called by the frame below it, on its own handler, or a request began it that asks for
-- what its routine gives.
pub data Linked (s : System) (h : ℕ) : List Frame → Type 0 where
  alone : {f : Frame} {r : Request} {below : List Frame} → f.origin ≡ Requested r →
      f.routine.text.result ≡ result_of_request s r → Linked s h below → Linked s h (f ∷ below)
  called : {f g : Frame} {below : List Frame} {c : Calling} {t : Option EntityType} → f.origin ≡ Called c →
      g.stage ≡ InCall t →
      Gives s h f.routine.text.result h g.environment t → Linked s h (g ∷ below) → Linked s h (f ∷ g ∷ below)
  empty : Linked s h []

-- The topmost frame waits for the reply, and the reply fits what it takes.
pub record ReplyFits (s : System) (w : World) (h : ℕ) (v : Option Value) : Type 0 where
  pub frame : Frame
  pub below : List Frame
  pub supplier : ℕ
  pub takes : Option EntityType
  pub is_creation : Bool
  pub stack_is : (w.handlers h).stack ≡ frame ∷ below
  pub stage_is : frame.stage ≡ Awaits supplier takes is_creation
  pub fits : (t : EntityType) → takes ≡ Some t →
      (x : Value) × (v ≡ Some x) × Fits s h (handler_named frame.environment) x t × ValueIsThere w x

-- A reply comes only if the topmost frame waits for it. A request leads to that frame by its poster alone: by the
-- law on rights, each open wait has its request at its target.
abbrev pub AnswerFits : System → World → ℕ → Type 0
AnswerFits s w h = (v : Option Value) → (w.handlers h).answer ≡ Some (Reply v) → ReplyFits s w h v

-- The topmost frame of `p` waits for an answer, and takes what fits the result on the handler `h` that was asked.
pub record TakesResult (s : System) (w : World) (p : ℕ) (h : ℕ) (result : Option (Option EntityType)) : Type 0 where
  pub frame : Frame
  pub below : List Frame
  pub supplier : ℕ
  pub takes : Option EntityType
  pub is_creation : Bool
  pub stack_is : (w.handlers p).stack ≡ frame ∷ below
  pub stage_is : frame.stage ≡ Awaits supplier takes is_creation
  pub gives : Gives s h result p frame.environment takes

-- A handler that waits for the request, and has neither failed nor an answer yet, takes the result.
abbrev pub IsAwaited : System → World → ℕ → Request → Option (Option EntityType) → Type 0
IsAwaited s w h r result = (p : ℕ) → p < w.count → r.is_waited ≡ true → r.poster ≡ Some p →
    (w.handlers p).failure ≡ None → (w.handlers p).answer ≡ None → TakesResult s w p h result

-- The request may end in the next turn of its handler: its routine is the topmost frame and runs, or the request is
-- the next that the handler takes.
pub data MayEnd (x : Handler) (r : Request) : Type 0 where
  runs : {f : Frame} {below : List Frame} → x.stack ≡ f ∷ below → f.stage ≡ Runs → f.origin ≡ Requested r → MayEnd x r
  next : {rs : List Request} → x.stack ≡ [] → x.queue ≡ r ∷ rs → MayEnd x r
  called_back : {f : Frame} {below : List Frame} → x.stack ≡ f ∷ below → x.callback ≡ Some r → MayEnd x r

-- A handler that waits for a request that may end takes what the request asks for.
abbrev pub EndsAreAwaited : System → World → Type 0
EndsAreAwaited s w = (h : ℕ) (r : Request) → h < w.count → MayEnd (w.handlers h) r →
    IsAwaited s w h r (result_of_request s r)

-- No handler has both a callback and a reply.
abbrev pub CallbacksStandAlone : World → Type 0
CallbacksStandAlone w = (h : ℕ) (r : Request) (v : Option Value) → h < w.count → (w.handlers h).callback ≡ Some r →
    (w.handlers h).answer ≡ Some (Reply v) → ⊥

-- ---- the world

pub record HandlerFits (s : System) (pure : RoutineName → Bool) (w : World) (h : ℕ) : Type 0 where
  pub objects_fit : Each (ObjectFits s w h) (w.handlers h).objects
  pub frames_fit : Each (FrameFits s pure w h) (w.handlers h).stack
  pub frames_are_linked : Linked s h (w.handlers h).stack
  pub requests_fit : Each (RequestFits s w h) (requests_at (w.handlers h))
  pub answer_fits : AnswerFits s w h

abbrev pub WorldFits : System → (RoutineName → Bool) → World → Type 0
WorldFits s pure w = (h : ℕ) → h < w.count → HandlerFits s pure w h
