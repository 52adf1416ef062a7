-- Posting and asking: a request goes to another handler, with lock passing or without.
use Rattle.std.specs.Prelude.{ℕ, ◌+◌, Bool, true, false, not, ◌&&◌, ◌||◌, List, [], ◌∷◌, ◌++◌, Option, Some, None, is_some, length, nat_lt, ◌==◌, if◌then◌else◌}
use Rattle.sc_rules.specs.declared.entity_types.entity_type.EntityType.{EntityType}
use Rattle.sc_lockpass.specs.Rights.{Rights, is_handler, held}
use Rattle.sc_lockpass.specs.Passing.{Passed, pass, passed_by}
use Rattle.sc_lockpass.specs.declared.wait_conditions.session.Release.TheVariants as release_at
use Rattle.sc_model.specs.declared.cause.Cause.TheVariants as cause
use Rattle.sc_model.specs.Values.{Reference, Attached, Operand, operand, values_of}
use Rattle.sc_model.specs.Limits.{max_queue}
use Rattle.sc_model.specs.Handlers.{Errand, Calls, Makes, Request, Awaits, Frame, Handler, World, new_handler, put, with_stack}
use Rattle.sc_model.specs.Sessions.{release}
use Rattle.sc_model.specs.Failures.{fail}

abbrev pub passed_if : Bool → ℕ → Rights → Option Passed
passed_if false h r = None
passed_if true h r = Some (passed_by h r)

abbrev pub passes : Bool → ℕ → ℕ → World → World
passes false h k w = w
passes true h k w = record w { rights = pass h k w.rights }

-- the request becomes the callback, or the queue's last
abbrev pub placed : Bool → Request → Handler → Handler
placed true r x = record x { callback = Some r }
placed false r x = record x { queue = x.queue ++ r ∷ [] }

abbrev pub send : Bool → ℕ → Request → World → World
send is_callback k r w = put k (placed is_callback r (w.handlers k)) w

-- the frame waits for the supplier's answer, or goes on
abbrev pub awaits_if : Bool → ℕ → Option EntityType → Bool → Frame → Frame
awaits_if false k gives is_creation f = f
awaits_if true k gives is_creation f = record f { stage = Awaits k gives is_creation }

abbrev pub request_by : ℕ → Reference → Errand → List Operand → Bool → Bool → World → Request
request_by h r errand us waits passing w =
    record {
      poster = Some h;
      target = r;
      errand = errand;
      actuals = values_of us;
      is_waited = waits;
      passed = passed_if passing h w.rights;
    }

-- ---- calls of features

-- Where the handler may push on the target's waiting stack, its request is a callback.
abbrev pub is_callback : ℕ → ℕ → World → Bool
is_callback h k w = is_handler h (w.rights.top k)

-- The request is sent. A query, a request with lock passing and a callback are waited for.
abbrev pub asks : ℕ → Reference → List ℕ → List Operand → Option EntityType → Bool → Bool → Frame →
    List Frame → World → World
asks h r x us gives passing waits f below w =
    passes passing h r.handler
    (send (is_callback h r.handler w) r.handler (request_by h r (Calls x) us waits passing w)
    (with_stack h (awaits_if waits r.handler gives false f ∷ below) w))

-- The target's handler is held, has not failed, and has room.
abbrev pub request : ℕ → Reference → List ℕ → List Operand → Option EntityType → Bool → Frame →
    List Frame → World → World
request h r x us gives passing f below w =
    if not (held w.rights h r.handler) then fail h cause.NotHeld w
    else if is_some (w.handlers r.handler).failure then fail h cause.SupplierFailed w
    else if not (is_callback h r.handler w) && not (nat_lt (length (w.handlers r.handler).queue) max_queue)
    then fail h cause.QueueFull w
    else asks h r x us gives passing (passing || is_some gives || is_callback h r.handler w) f below w

-- ---- creations of handlers

abbrev pub given_to : ℕ → Option ℕ → (ℕ → Option ℕ) → ℕ → Option ℕ
given_to k holder of j = if j == k then holder else of j

-- the world with a new handler, which this one may post to
abbrev pub with_handler : ℕ → ℕ → World → World
with_handler k h w = record w {
  count = w.count + 1;
  handlers = λ j. if j == k then new_handler else w.handlers j;
  rights = record { queue = given_to k (Some h) w.rights.queue; top = given_to k None w.rights.top };
}

-- the creation is its first request; the creator goes on with a reference to the object
abbrev pub posts_creation : ℕ → Reference → Option (List ℕ) → List Operand → EntityType → Bool → Frame →
    List Frame → World → World
posts_creation h r procedure us t passing f below w =
    send false r.handler (request_by h r (Makes procedure) us passing passing w)
    (with_stack h
    (awaits_if passing r.handler None true (record f { values = operand (Attached r) t ∷ f.values }) ∷ below) w)

-- With lock passing the creator waits, and releases the new handler with the answer; else it does so at once.
abbrev pub passes_or_releases : Bool → ℕ → ℕ → World → World
passes_or_releases true h k w = passes true h k w
passes_or_releases false h k w = release release_at.Creation (k ∷ []) w

abbrev pub created : ℕ → Reference → Option (List ℕ) → List Operand → EntityType → Bool → Frame →
    List Frame → World → World
created h r procedure us t passing f below w =
    passes_or_releases passing h r.handler
    (posts_creation h r procedure us t passing f below (with_handler r.handler h w))

-- There may be this many handlers.
abbrev pub creates_handler : ℕ → ℕ → ℕ → Option (List ℕ) → List Operand → EntityType → Bool → Frame →
    List Frame → World → World
creates_handler most h class procedure us t passing f below w =
    if nat_lt w.count most then created h (record { handler = w.count; number = 1; class = class }) procedure us t
    passing f below w else fail h cause.TooManyHandlers w
