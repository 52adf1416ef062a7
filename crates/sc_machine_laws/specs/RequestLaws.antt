-- Why a handler stays quiet after another one has asked it: what the turn of a third handler may change of it.
use Rattle.std.specs.Prelude.{ℕ, ◌≡◌, ◌≢◌, ◌<◌, ◌≤◌, ◌⊎◌, Bool, true, false, List, [], ◌∷◌, ◌++◌, Option, Some, None, is_some, Contains}
use Rattle.std.specs.Option.{option_map}
use Rattle.sc_tree.specs.Plain as tree
use Rattle.sc_tree.specs.Plain.{System, Clause, DeclaredType}
use Rattle.sc_class.specs.ClassNames.{Root}
use Rattle.sc_class.specs.Tables.Features.{DeclaredFeature}
use Rattle.sc_rules.specs.declared.entity_types.entity_type.EntityType.{EntityType}
use Rattle.sc_rules.specs.Types.{declared_type}
use Rattle.sc_model.specs.Values.{Operand, Value}
use Rattle.sc_model.specs.Environments.{Binding, binding_named}
use Rattle.sc_model.specs.Objects.{Object, object_numbered}
use Rattle.sc_model.specs.Routines.{version_of}
use Rattle.sc_model.specs.Steps.{Act, Point, Exits, Refuses, Does}
use Rattle.sc_model.specs.Moves.{moves}
use Rattle.sc_model.specs.Handlers.{Request, Calls, Makes, Reply, Failed, Refused, Requested, Runs, Awaits, Frame, Handler, World, point_of}
use Rattle.sc_model.specs.Answers.{heard}
use Rattle.sc_model.specs.Exits.{is_unset_value}
use Rattle.sc_model.specs.Failures.{requests_at}
use Rattle.sc_model.specs.Turns.{turn}
use Rattle.sc_model.specs.Runs.{IsReached}
use Rattle.sc_machine_laws.specs.states.Headline.{InEachReached, has_reply}
use Rattle.sc_machine_laws.specs.states.Fitting.{MayEnd}

-- ---- waiting

-- The topmost frame awaits an answer of k.
pub record TopAwaits (fs : List Frame) (k : ℕ) : Type 0 where
  pub frame : Frame
  pub below : List Frame
  pub gives : Option EntityType
  pub is_creation : Bool
  pub stack_is : fs ≡ frame ∷ below
  pub stage_is : frame.stage ≡ Awaits k gives is_creation

-- The topmost frame awaits an answer of some handler. Neither a callback nor a reply has come.
pub record IsAway (x : Handler) : Type 0 where
  pub supplier : ℕ
  pub awaits : TopAwaits x.stack supplier
  pub no_callback : x.callback ≡ None
  pub no_reply : has_reply x.answer ≡ false

-- h waits for the request at k, and has lent nothing with it
pub record IsUnlent (w : World) (h k : ℕ) (q : Request) : Type 0 where
  pub stands : Contains (requests_at (w.handlers k)) q
  pub poster_is : q.poster ≡ Some h
  pub is_waited : q.is_waited ≡ true
  pub passed_is : q.passed ≡ None

-- ---- each state that is reached

-- If a handler has no frames, no handler may push on its waiting stack.
abbrev pub IdleHasNoTop : Type 0
IdleHasNoTop = InEachReached (λ (w : World). (k : ℕ) → (w.handlers k).failure ≡ None → (w.handlers k).stack ≡ []
    → w.rights.top k ≡ None)

-- If another handler `h` may push on the waiting stack of `k` and isn't waiting for `k`, then `k` waits, and
-- neither a callback nor a reply has come to it.
abbrev pub CalledBackWaits : Type 0
CalledBackWaits = InEachReached (λ (w : World). (k h : ℕ) → w.rights.top k ≡ Some h → k ≢ h
    → (w.handlers k).failure ≡ None → (w.handlers h).failure ≡ None
    → (has_reply (w.handlers h).answer ≡ true) ⊎ (TopAwaits (w.handlers h).stack k → ⊥)
    → IsAway (w.handlers k))

-- A handler with a callback has a topmost frame that waits.
abbrev pub CallbacksMeetWaiters : Type 0
CallbacksMeetWaiters = InEachReached (λ (w : World). (k : ℕ) (r : Request) → (w.handlers k).callback ≡ Some r
    → (j : ℕ) × TopAwaits (w.handlers k).stack j)

-- A handler whose topmost frame doesn't wait has neither a callback nor a reply.
abbrev pub RunningIsClear : Type 0
RunningIsClear = InEachReached (λ (w : World). (h : ℕ) → (w.handlers h).failure ≡ None
    → ((j : ℕ) → TopAwaits (w.handlers h).stack j → ⊥)
    → (has_reply (w.handlers h).answer ≡ false) × ((w.handlers h).callback ≡ None))

-- If a handler waits for a request with which it has lent nothing, its topmost frame waits for that request. The
-- handler has neither a callback nor a reply.
abbrev pub NoCallback : Type 0
NoCallback = InEachReached (λ (w : World). (h k : ℕ) (q : Request) → (w.handlers h).failure ≡ None → IsUnlent w h k q
    → TopAwaits (w.handlers h).stack k × ((w.handlers h).callback ≡ None) × (has_reply (w.handlers h).answer ≡ false))

-- If that handler has no answer yet, no other request that it waits for may end.
abbrev pub EndsTheOne : Type 0
EndsTheOne = InEachReached (λ (w : World). (h k g : ℕ) (q r : Request) → (w.handlers h).failure ≡ None
    → (w.handlers h).answer ≡ None → IsUnlent w h k q
    → MayEnd (w.handlers g) r → r.poster ≡ Some h → r.is_waited ≡ true → (g ≡ k) × (r ≡ q))

-- A handler has at most one request that it waits for and with which it has lent nothing. That request is at one
-- place only.
abbrev pub StandsOnce : Type 0
StandsOnce = InEachReached (λ (w : World). (h k : ℕ) (q r : Request) (before behind : List Request)
    → (w.handlers h).failure ≡ None
    → requests_at (w.handlers k) ≡ before ++ q ∷ behind → q.poster ≡ Some h → q.is_waited ≡ true → q.passed ≡ None
    → r.poster ≡ Some h → r.is_waited ≡ true → r.passed ≡ None
    → (Contains (before ++ behind) r → ⊥) × ((j : ℕ) → j ≢ k → Contains (requests_at (w.handlers j)) r → ⊥))

-- The handler has nothing, and no handler has a right over it.
pub record IsUnused (w : World) (k : ℕ) : Type 0 where
  pub stack_is : (w.handlers k).stack ≡ []
  pub queue_is : (w.handlers k).queue ≡ []
  pub callback_is : (w.handlers k).callback ≡ None
  pub answer_is : (w.handlers k).answer ≡ None
  pub failure_is : (w.handlers k).failure ≡ None
  pub queue_right : w.rights.queue k ≡ None
  pub top_right : w.rights.top k ≡ None

-- A handler that doesn't exist yet is unused.
abbrev pub BeyondIsUnused : Type 0
BeyondIsUnused = InEachReached (λ (w : World). (k : ℕ) → w.count ≤ k → IsUnused w k)

-- ---- the turn of another handler

-- A turn of `g` takes no right from another handler, except perhaps the right to push on the waiting stack of `g`.
abbrev pub RightsStay : Type 0
RightsStay = (most : ℕ) (s : System) (root : Root) (w : World) → IsReached most s root w → (g h k : ℕ) → g ≢ h
    → (w.rights.queue k ≡ Some h → (turn most s g w).rights.queue k ≡ Some h)
    × (k ≢ g → w.rights.top k ≡ Some h → (turn most s g w).rights.top k ≡ Some h)

-- The queue of `k` is as before, or `g`, which may post there, has posted a request.
pub data QueueComes (w : World) (g k : ℕ) (y : Handler) : Type 0 where
  stays : y.queue ≡ (w.handlers k).queue → QueueComes w g k y
  comes : (r : Request) → r.poster ≡ Some g → w.rights.queue k ≡ Some g → y.queue ≡ (w.handlers k).queue ++ r ∷ []
      → QueueComes w g k y

-- The callback of `k` is as before, or `g`, which may push there, has called back.
pub data CallbackComes (w : World) (g k : ℕ) (y : Handler) : Type 0 where
  stays : y.callback ≡ (w.handlers k).callback → CallbackComes w g k y
  comes : (r : Request) → r.poster ≡ Some g → w.rights.top k ≡ Some g → y.callback ≡ Some r → CallbackComes w g k y

-- In a turn of `g` the objects, the stack and the failure of another handler `k` stay. Requests may come to its
-- queue or as its callback.
pub record Stays (w : World) (g k : ℕ) (y : Handler) : Type 0 where
  pub objects_stay : y.objects ≡ (w.handlers k).objects
  pub stack_stays : y.stack ≡ (w.handlers k).stack
  pub failure_stays : y.failure ≡ (w.handlers k).failure
  pub queue_comes : QueueComes w g k y
  pub callback_comes : CallbackComes w g k y

-- In each turn of `g` all other handlers stay in this way.
abbrev pub OthersStay : Type 0
OthersStay = (most : ℕ) (s : System) (w : World) (g k : ℕ) → k < w.count → k ≢ g
    → Stays w g k ((turn most s g w).handlers k)

-- The queue of the turn's handler stays; or its first request is taken, if the handler has no frames; or the
-- handler fails.
pub data OwnQueueMoves (x y : Handler) : Type 0 where
  stays : y.queue ≡ x.queue → OwnQueueMoves x y
  takes : (r : Request) → x.stack ≡ [] → x.queue ≡ r ∷ y.queue → OwnQueueMoves x y
  falls : is_some y.failure ≡ true → OwnQueueMoves x y

-- In each turn the queue of its handler moves in this way.
abbrev pub OwnQueueShrinks : Type 0
OwnQueueShrinks = (most : ℕ) (s : System) (root : Root) (w : World) → IsReached most s root w → (g : ℕ)
    → OwnQueueMoves (w.handlers g) ((turn most s g w).handlers g)

-- A handler that the turn of another one creates has no frames.
abbrev pub NewIsIdle : Type 0
NewIsIdle = (most : ℕ) (s : System) (root : Root) (w : World) → IsReached most s root w → (g k : ℕ) → w.count ≤ k
    → k ≢ g → ((turn most s g w).handlers k).stack ≡ []

-- After a turn there are as many handlers as before, or more.
abbrev pub CountGrows : Type 0
CountGrows = (most : ℕ) (s : System) (w : World) (g : ℕ) → w.count ≤ (turn most s g w).count

-- k waits for the request, which may end in the next turn of g
pub record MayAnswer (w : World) (g k : ℕ) (r : Request) : Type 0 where
  pub may_end : MayEnd (w.handlers g) r
  pub is_waited : r.is_waited ≡ true
  pub poster_is : r.poster ≡ Some k

-- The routine of the request is the topmost frame of `g`, and does the act `a` in its turn.
pub record Ends (s : System) (w : World) (g : ℕ) (r : Request) (a : Act) (p : Point) : Type 0 where
  pub frame : Frame
  pub below : List Frame
  pub stack_is : (w.handlers g).stack ≡ frame ∷ below
  pub stage_is : frame.stage ≡ Runs
  pub origin_is : frame.origin ≡ Requested r
  pub does : moves s frame.current (point_of frame (w.handlers g).objects) ≡ Does a p

-- The request asks `g` for an attribute. Its value is `v`, and it isn't unset.
pub record IsAttribute (s : System) (w : World) (g : ℕ) (r : Request) (v : Value) : Type 0 where
  pub name : List ℕ
  pub object : Object
  pub feature : DeclaredFeature
  pub of : DeclaredType
  pub type : EntityType
  pub binding : Binding
  pub errand_is : r.errand ≡ Calls name
  pub is_here : r.target.handler ≡ g
  pub object_is : object_numbered r.target.number (w.handlers g).objects ≡ Some object
  pub feature_is : version_of s r.target.class name ≡ Some feature
  pub kind_is : feature.feature.kind ≡ tree.Attribute of
  pub type_is : declared_type s [] of ≡ Some type
  pub binding_is : binding_named name object.attributes ≡ Some binding
  pub is_set : is_unset_value binding.value type ≡ false
  pub value_is : binding.value ≡ v

-- How a turn of `g` changes the answer of `k`: the answer stays; or `g` has failed, and `k` learns of it; or the
-- request that `k` waits for ends: a routine exits or is refused, an attribute has its value, or an object is made
-- without a procedure.
pub data AnswerComes (s : System) (w : World) (g k : ℕ) (after : World) : Type 0 where
  stays : (after.handlers k).answer ≡ (w.handlers k).answer
      → AnswerComes s w g k after
  told : is_some (after.handlers g).failure ≡ true
      → (after.handlers k).answer ≡ heard Failed (w.handlers k).failure (w.handlers k).answer
      → AnswerComes s w g k after
  exits : {r : Request} {p : Point} → MayAnswer w g k r → Ends s w g r Exits p
      → (after.handlers k).answer
      ≡ heard (Reply (option_map (λ (u : Operand). u.value) p.result)) (w.handlers k).failure (w.handlers k).answer
      → AnswerComes s w g k after
  refused : {r : Request} {c : Clause} {p : Point} → MayAnswer w g k r → Ends s w g r (Refuses c) p
      → (after.handlers k).answer ≡ heard Refused (w.handlers k).failure (w.handlers k).answer
      → AnswerComes s w g k after
  attribute : {r : Request} {v : Value} → MayAnswer w g k r → IsAttribute s w g r v
      → (after.handlers k).answer ≡ heard (Reply (Some v)) (w.handlers k).failure (w.handlers k).answer
      → AnswerComes s w g k after
  made : {r : Request} → MayAnswer w g k r → r.errand ≡ Makes None
      → (after.handlers k).answer ≡ heard (Reply None) (w.handlers k).failure (w.handlers k).answer
      → AnswerComes s w g k after

-- In each turn of `g` the answers of all other handlers change in this way.
abbrev pub AnswersCome : Type 0
AnswersCome = (most : ℕ) (s : System) (w : World) (g k : ℕ) → k < w.count → k ≢ g
    → AnswerComes s w g k (turn most s g w)
