-- How frames and requests come and go in a turn, and that a handler that waits has its request.
use Rattle.std.specs.Option.{option_map}
use Rattle.std.specs.Prelude.{◌≡◌, ◌≢◌, ◌⊎◌, ◌<◌, ◌≤◌, ℕ, Bool, true, false, List, [], ◌∷◌, Option, None, Some, Contains, is_some}
use Rattle.sc_tree.specs.Plain.{Attribute, Clause, DeclaredType, System}
use Rattle.sc_class.specs.Tables.Features.{DeclaredFeature}
use Rattle.sc_rules.specs.declared.entity_types.entity_type.EntityType.{EntityType}
use Rattle.sc_lockpass.specs.declared.wait_conditions.condition.EntryVerdict.TheVariants as verdict
use Rattle.sc_model.specs.Environments.{formals_bound}
use Rattle.sc_model.specs.Exits.{handed}
use Rattle.sc_model.specs.Failures.{requests_at}
use Rattle.sc_model.specs.Handlers.{Called, Calls, Failed, Frame, Handler, Makes, Origin, Request, Requested, World, frame_at, point_of}
use Rattle.sc_model.specs.Moves.{moves}
use Rattle.sc_model.specs.Preconditions.{verdict_on}
use Rattle.sc_model.specs.Routines.{routine_named, version_of}
use Rattle.sc_model.specs.Steps.{Act, Calling, CreatesHandler, Does, Enters, Exits, Fails, Point, Refuses}
use Rattle.sc_model.specs.Tasks.{tasks_of}
use Rattle.sc_model.specs.Turns.{turn}
use Rattle.sc_model.specs.Values.{Operand, Reference, Value, values_of}
use Rattle.sc_machine_laws.specs.states.Headline.{AwaitsAnswer}
use Rattle.sc_machine_laws.specs.states.Places.{called_name}
use Rattle.sc_machine_laws.specs.settlements.Entries.{HasStarted}
use Rattle.sc_machine_laws.specs.RequestLaws.{OwnQueueMoves, Stays}
use Rattle.sc_machine_laws.specs.Starting.{IsVerdict}

-- ---- frames

-- In its handler's turn the frame does the act `a`, and is at the point `p` then.
abbrev pub Acts : System → World → ℕ → Frame → Act → Point → Type 0
Acts s w h f a p = moves s f.current (point_of f (w.handlers h).objects) ≡ Does a p

-- the act ends neither the routine nor its precondition
abbrev pub is_plain : Act → Bool
is_plain (Refuses k) = false
is_plain (Fails why) = false
is_plain Exits = false
is_plain other = true

-- The frame begins, by the call or the request `o`: all of its routine is left to do, the precondition first.
pub record Begins (o : Origin) (f : Frame) : Type 0 where
  pub origin_is : f.origin ≡ o
  pub tasks_are : f.tasks ≡ tasks_of f.routine

-- The frame runs the routine of the name `x` on the object `r`, with the actuals `vs`.
pub record IsEntered (s : System) (r : Reference) (x : List ℕ) (vs : List Value) (f : Frame) : Type 0 where
  pub current_is : f.current ≡ r
  pub is_version : routine_named s r.class x ≡ Some f.routine
  pub has_actuals : formals_bound s f.routine.text.formals 0 f.routine.text.formals vs ≡ Some f.environment

-- The frame `f` makes a call of the kind `c`, and the frame `called` begins.
pub record IsCall (s : System) (w : World) (h : ℕ) (f : Frame) (c : Calling) (called : Frame) : Type 0 where
  pub object : Reference
  pub name : List ℕ
  pub actuals : List Operand
  pub gives : Option EntityType
  pub point : Point
  pub does : Acts s w h f (Enters c object name actuals gives) point
  pub begins : Begins (Called c) called
  pub is_entered : IsEntered s object name (values_of actuals) called

-- `f` goes on as `g`. Text, names and what is left to do are as before, if it reserved or was answered; or those
-- after its act; or, if a wait condition was false, all of its routine is left to do again.
pub data GoesOn (s : System) (w : World) (h : ℕ) (f g : Frame) : Type 0 where
  stood : g.text ≡ f.text → g.environment ≡ f.environment → g.tasks ≡ f.tasks → GoesOn s w h f g
  moved : {a : Act} {p : Point} → Acts s w h f a p → is_plain a ≡ true →
      g.text ≡ p.text → g.environment ≡ p.environment → g.tasks ≡ p.tasks → GoesOn s w h f g
  again : {k : Clause} {p : Point} → Acts s w h f (Refuses k) p → verdict_on (frame_at f p) k ≡ verdict.Wait →
      g.text ≡ p.text → g.environment ≡ p.environment → g.tasks ≡ tasks_of f.routine → GoesOn s w h f g

-- In a turn of the handler its topmost frame `f`, on top of `below`, becomes `g`: the same call of the same routine
-- on the same object. If the routine has a precondition, its body starts only by the verdict on that precondition.
pub record ComesTo (s : System) (w : World) (h : ℕ) (f : Frame) (below : List Frame) (g : Frame) : Type 0 where
  pub current_stays : g.current ≡ f.current
  pub routine_stays : g.routine ≡ f.routine
  pub origin_stays : g.origin ≡ f.origin
  pub goes_on : GoesOn s w h f g
  pub starts_by_verdict : (f.routine.require ≡ [] → ⊥) → HasStarted g.tasks →
      HasStarted f.tasks ⊎ ((p : Point) × IsVerdict s w h f below p)

-- ---- requests that are taken

-- The request asks for no routine: it makes an object without a procedure, or calls an attribute.
pub data AsksForNone (s : System) (r : Request) : Type 0 where
  object : r.errand ≡ Makes None → AsksForNone s r
  attribute : {x : List ℕ} {f : DeclaredFeature} {d : DeclaredType} → r.errand ≡ Calls x →
      version_of s r.target.class x ≡ Some f → f.feature.kind ≡ Attribute d → AsksForNone s r

-- The request is taken. It is done at once, if it asks for no routine; or it begins a frame on top of `below`, which
-- runs the routine that the request calls on its target, with its actuals.
pub data IsTaken (s : System) (r : Request) (below stack : List Frame) : Type 0 where
  done : AsksForNone s r → stack ≡ below → IsTaken s r below stack
  begun : {f : Frame} {x : List ℕ} → stack ≡ f ∷ below → Begins (Requested r) f → called_name r.errand ≡ Some x →
      IsEntered s r.target x r.actuals f → IsTaken s r below stack

-- ---- a turn

-- The queue, the callback and the failure stay as they are.
pub record RequestsStay (x y : Handler) : Type 0 where
  pub queue_stays : y.queue ≡ x.queue
  pub callback_stays : y.callback ≡ x.callback
  pub failure_stays : y.failure ≡ x.failure

-- The handler fails: its stack and its queue are empty then, and it has no callback.
pub record Falls (x y : Handler) : Type 0 where
  pub stood : x.failure ≡ None
  pub has_failed : is_some y.failure ≡ true
  pub stack_is : y.stack ≡ []
  pub queue_is : y.queue ≡ []
  pub callback_is : y.callback ≡ None

-- the value of the Result at the point, if there is one
abbrev pub given_at : Point → Option Value
given_at p = option_map (λ (u : Operand). u.value) p.result

-- How the frames and the requests of a handler change in its turn. The frames stay; or the topmost frame goes on,
-- or calls; or it ends, and the frame below gets the result of a call; or the precondition of a request is refused.
-- Or the handler takes the first request of its queue, if it has no frames, or its callback. Or it fails. Nothing
-- else removes a request.
pub data FramesMove (s : System) (w : World) (h : ℕ) (x y : Handler) : Type 0 where
  stay : y.stack ≡ x.stack → RequestsStay x y → FramesMove s w h x y
  go_on : {f g : Frame} {below : List Frame} → x.stack ≡ f ∷ below → y.stack ≡ g ∷ below → ComesTo s w h f below g →
      RequestsStay x y → FramesMove s w h x y
  call : {f g called : Frame} {below : List Frame} {c : Calling} → x.stack ≡ f ∷ below → y.stack ≡ called ∷ g ∷ below →
      ComesTo s w h f below g → IsCall s w h f c called → RequestsStay x y → FramesMove s w h x y
  return : {f : Frame} {below : List Frame} {c : Calling} {p : Point} → x.stack ≡ f ∷ below → f.origin ≡ Called c →
      Acts s w h f Exits p → y.stack ≡ handed (given_at p) below → RequestsStay x y → FramesMove s w h x y
  end : {f : Frame} {below : List Frame} {r : Request} {p : Point} → x.stack ≡ f ∷ below → f.origin ≡ Requested r →
      Acts s w h f Exits p → y.stack ≡ below → RequestsStay x y → FramesMove s w h x y
  refuse : {f : Frame} {below : List Frame} {r : Request} {k : Clause} {p : Point} → x.stack ≡ f ∷ below →
      f.origin ≡ Requested r → Acts s w h f (Refuses k) p → verdict_on (frame_at f p) k ≡ verdict.Refuse →
      y.stack ≡ below → RequestsStay x y → FramesMove s w h x y
  take_next : {r : Request} → x.stack ≡ [] → x.queue ≡ r ∷ y.queue → y.callback ≡ x.callback → y.failure ≡ x.failure →
      IsTaken s r [] y.stack → FramesMove s w h x y
  take_callback : {r : Request} → x.callback ≡ Some r → y.callback ≡ None → y.queue ≡ x.queue → y.failure ≡ x.failure →
      IsTaken s r x.stack y.stack → FramesMove s w h x y
  fall : Falls x y → FramesMove s w h x y

-- In each turn the frames and the queue of the turn's handler change in these ways. Each other handler keeps what it
-- has; only the handler of the turn may have posted to it.
abbrev pub TurnsMoveRequests : ℕ → System → World → Type 0
TurnsMoveRequests most s w = (h : ℕ) → h < w.count →
    FramesMove s w h (w.handlers h) ((turn most s h w).handlers h)
    × OwnQueueMoves (w.handlers h) ((turn most s h w).handlers h)
    × ((k : ℕ) → k < w.count → k ≢ h → Stays w h k ((turn most s h w).handlers k))

-- ---- handlers that are created

-- In its turn `h` creates the handler `k`. Then `k` has only the request for its first object, with the class,
-- procedure and actuals of the creator's act.
pub record BeginsWithOne (s : System) (w : World) (h k : ℕ) (y : Handler) : Type 0 where
  pub creator : Frame
  pub below : List Frame
  pub stack_was : (w.handlers h).stack ≡ creator ∷ below
  pub class : ℕ
  pub procedure : Option (List ℕ)
  pub actuals : List Operand
  pub type : EntityType
  pub passes : Bool
  pub point : Point
  pub does : Acts s w h creator (CreatesHandler class procedure actuals type passes) point
  pub request : Request
  pub poster_is : request.poster ≡ Some h
  pub target_is : request.target ≡ record { handler = k; number = 1; class = class }
  pub errand_is : request.errand ≡ Makes procedure
  pub actuals_are : request.actuals ≡ values_of actuals
  pub is_waited_if_lent : request.is_waited ≡ passes
  pub queue_is : y.queue ≡ request ∷ []
  pub callback_is : y.callback ≡ None
  pub stack_is : y.stack ≡ []
  pub objects_are : y.objects ≡ []
  pub failure_is : y.failure ≡ None

-- A turn creates at most one handler. The new handler has the next number, and only the request of its creator.
abbrev pub CreatedBeginWithOne : ℕ → System → World → Type 0
CreatedBeginWithOne most s w = (h k : ℕ) → w.count ≤ k → k < (turn most s h w).count →
    (k ≡ w.count) × BeginsWithOne s w h k ((turn most s h w).handlers k)

-- ---- handlers that wait

-- A request of `p` is at `k`, and `p` waits for it.
pub record HasRequestAt (w : World) (p k : ℕ) : Type 0 where
  pub request : Request
  pub stands : Contains (requests_at (w.handlers k)) request
  pub poster_is : request.poster ≡ Some p
  pub is_waited : request.is_waited ≡ true

-- A handler that awaits an answer of a handler that hasn't failed has its request there, or has learned of a failure.
abbrev pub WaitersHaveRequests : World → Type 0
WaitersHaveRequests w = (p k : ℕ) → AwaitsAnswer (w.handlers p) k → (w.handlers k).failure ≡ None →
    ((w.handlers p).answer ≡ Some Failed) ⊎ HasRequestAt w p k
