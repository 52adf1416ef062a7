-- Laws of the values of each state that is reached.
use Rattle.std.specs.Option.{option_and_then}
use Rattle.std.specs.Prelude.{◌<◌, Bool, List, None, Option, Some, [], false, true, ℕ, ◌∷◌, ◌≡◌, ◌⊎◌}
use Rattle.sc_tree.specs.Plain.{System}
use Rattle.sc_class.specs.ClassNames.{Root}
use Rattle.sc_class.specs.Faults.ClassRules.{IsFaultless}
use Rattle.sc_rules.specs.declared.entity_types.entity_type.EntityType.{EntityType}
use Rattle.sc_rules.specs.declared.entity_types.tag.Reserved.{Reserved}
use Rattle.sc_rules.specs.declared.entity_types.tag.Tag.TheVariants as tag
use Rattle.sc_rules.specs.Names.{RoutineName}
use Rattle.sc_rules.specs.Purity.{IsPurity}
use Rattle.sc_rules.specs.PurityLaws.{SomePurity}
use Rattle.sc_rules.specs.SystemRules.{WellFormed}
use Rattle.sc_lockpass.specs.Rights.{Rights}
use Rattle.sc_lockpass.specs.declared.wait_conditions.session.Release.{Release}
use Rattle.sc_model.specs.Entries.{entry, reserves_block, reserves_entry}
use Rattle.sc_model.specs.Environments.{Binding, formals_bound}
use Rattle.sc_model.specs.Failures.{fails_with}
use Rattle.sc_model.specs.Fits.{Fits, IsUnset}
use Rattle.sc_model.specs.Handlers.{Answer, Awaits, Frame, Origin, Reply, Request, Requested, Reserves, ReservesBlock, Runs, World, point_of}
use Rattle.sc_model.specs.Moves.{moves, step}
use Rattle.sc_model.specs.Objects.{Object}
use Rattle.sc_model.specs.Routines.{Routine, routine_named, version_of}
use Rattle.sc_model.specs.Runs.{IsReached, opening}
use Rattle.sc_model.specs.Sessions.{release}
use Rattle.sc_model.specs.Steps.{Act, Creates, CreatesHandler, Does, Enters, Exits, Fails, Leaves, Opens, Point, Prints, Refuses, Requests, Starts, Until}
use Rattle.sc_model.specs.Takes.{takes_answer, takes_callback, takes_next}
use Rattle.sc_model.specs.Turns.{settles, turn}
use Rattle.sc_model.specs.Values.{Attached, Operand, Reference, Value}
use Rattle.sc_model.specs.declared.cause.Cause.{Cause}
use Rattle.sc_machine_laws.specs.states.Fitting.{ActualsFit, CallbacksStandAlone, EndsAreAwaited, Gives, IsAwaited, WorldFits}
use Rattle.sc_machine_laws.specs.states.Places.{StandsAs, of_actuals, result_if_any, result_of_request}
use Rattle.sc_machine_laws.specs.states.Points.{IsAmong, PointFits}
use Rattle.sc_machine_laws.specs.states.ValueSteps.{IsThereIfOwn, StandsSo, StepFits, ValuesDo, is_excluded}

-- The law holds of each system that the checker accepts.
abbrev pub WhereAccepted : (System → Root → Type 0) → Type 0
WhereAccepted law = (s : System) (root : Root) → IsFaultless s root → WellFormed s → law s root

-- Each value fits its type, wherever it is; an attribute, a local or a Result may still be unset.
abbrev pub ValuesFit : Type 0
ValuesFit = WhereAccepted λ s root. (most : ℕ) (w : World) → IsReached most s root w →
    (h : ℕ) (of : Reserved → Option ℕ) (v : Value) (t : EntityType) (may_be_unset : Bool) →
    StandsAs s w h of v t may_be_unset → Fits s h of v t ⊎ ((may_be_unset ≡ true) × IsUnset v t)

-- A reference that is typed non-separate is to an object of its own handler.
abbrev pub NonSeparateIsOwn : Type 0
NonSeparateIsOwn = WhereAccepted λ s root. (most : ℕ) (w : World) → IsReached most s root w →
    (h : ℕ) (of : Reserved → Option ℕ) (r : Reference) (t : EntityType) (may_be_unset : Bool) →
    StandsAs s w h of (Attached r) t may_be_unset → t.tag ≡ tag.Own → r.handler ≡ h

-- No handler fails with an excluded cause.
abbrev pub NoneIsExcluded : Type 0
NoneIsExcluded = WhereAccepted λ s root. (most : ℕ) (w : World) → IsReached most s root w → (h : ℕ) (why : Cause) →
    (w.handlers h).failure ≡ Some why → is_excluded why ≡ false

-- If the invariant of a turn holds, each value fits.
abbrev pub FitWhereWorldFits : Type 0
FitWhereWorldFits = (s : System) (pure : RoutineName → Bool) (w : World) → WorldFits s pure w →
    (h : ℕ) (of : Reserved → Option ℕ) (v : Value) (t : EntityType) (may_be_unset : Bool) →
    StandsAs s w h of v t may_be_unset → Fits s h of v t ⊎ ((may_be_unset ≡ true) × IsUnset v t)

-- If the invariant of a turn holds, a reference that is typed non-separate is to an object of its own handler.
abbrev pub OwnWhereWorldFits : Type 0
OwnWhereWorldFits = (s : System) (pure : RoutineName → Bool) (w : World) → WorldFits s pure w →
    (h : ℕ) (of : Reserved → Option ℕ) (r : Reference) (t : EntityType) (may_be_unset : Bool) →
    StandsAs s w h of (Attached r) t may_be_unset → t.tag ≡ tag.Own → r.handler ≡ h

-- The opening of a system without faults fits.
abbrev pub OpeningFits : Type 0
OpeningFits = (s : System) (root : Root) (pure : RoutineName → Bool) → IsFaultless s root →
    WorldFits s pure (opening s root)

-- If the tasks of a routine are typed, its values fit, and each of its references to its own handler leads to an
-- object, its next step fits.
abbrev pub StepsFit : Type 0
StepsFit = (s : System) (root : Root) (pure : RoutineName → Bool) → IsFaultless s root → WellFormed s →
    IsPurity s pure → (r : Routine) (me : Reference) →
    routine_named s me.class r.name ≡ Some r → (p : Point) → StandsSo s pure r me [] p →
    ValuesDo (IsThereIfOwn me.handler p.objects) p →
    StepFits s pure r me (step s me p)

-- Its next turn also fits: the silent steps up to a visible one, and that one.
abbrev pub MovesFit : Type 0
MovesFit = (s : System) (root : Root) (pure : RoutineName → Bool) → IsFaultless s root → WellFormed s →
    IsPurity s pure → (r : Routine) (me : Reference) →
    routine_named s me.class r.name ≡ Some r → (p : Point) → StandsSo s pure r me [] p →
    ValuesDo (IsThereIfOwn me.handler p.objects) p →
    StepFits s pure r me (moves s me p)

-- The formals of the routine are bound to the actuals `vs`, and it begins typed, with values that fit.
pub record EntryBegins (s : System) (pure : RoutineName → Bool) (r : Routine) (me : Reference) (vs : List Value)
    (o : Origin) (objects : List Object) : Type 0 where
  pub bindings : List Binding
  pub are_bound : formals_bound s r.text.formals 0 r.text.formals vs ≡ Some bindings
  pub fits : PointFits s pure r me.handler [] (point_of (entry me r o bindings) objects)

-- A routine of an accepted system begins in this way, if it is entered with actuals that fit.
abbrev pub EntriesFit : Type 0
EntriesFit = (s : System) (root : Root) (pure : RoutineName → Bool) → IsFaultless s root → WellFormed s →
    IsPurity s pure → (r : Routine) (me : Reference) →
    routine_named s me.class r.name ≡ Some r → (vs : List Value) →
    ActualsFit s me.handler r.text.formals (of_actuals vs) r.text.formals vs → (o : Origin) (objects : List Object) →
    EntryBegins s pure r me vs o objects

-- If the invariant of a turn holds and the topmost frame of a handler runs, its next move fits.
abbrev pub RunningFramesMove : Type 0
RunningFramesMove = (s : System) (root : Root) (pure : RoutineName → Bool) → IsFaultless s root → WellFormed s →
    IsPurity s pure → (w : World) → WorldFits s pure w →
    (h : ℕ) → h < w.count → (f : Frame) (below : List Frame) → (w.handlers h).stack ≡ f ∷ below → f.stage ≡ Runs →
    StepFits s pure f.routine f.current (moves s f.current (point_of f (w.handlers h).objects))

-- No move of these frames fails with an excluded cause.
abbrev pub NoMoveIsExcluded : Type 0
NoMoveIsExcluded = (s : System) (root : Root) (pure : RoutineName → Bool) → IsFaultless s root → WellFormed s →
    IsPurity s pure → (w : World) → WorldFits s pure w →
    (h : ℕ) → h < w.count → (f : Frame) (below : List Frame) → (w.handlers h).stack ≡ f ∷ below → f.stage ≡ Runs →
    (why : Cause) (p : Point) →
    moves s f.current (point_of f (w.handlers h).objects) ≡ Does (Fails why) p → is_excluded why ≡ false

-- The invariant doesn't depend on the rights.
abbrev pub RightsKeepIt : Type 0
RightsKeepIt = (s : System) (pure : RoutineName → Bool) (w : World) (x : Rights) → WorldFits s pure w →
    WorldFits s pure (record w { rights = x })

-- The release of handlers keeps the invariant.
abbrev pub ReleasesKeepIt : Type 0
ReleasesKeepIt = (s : System) (pure : RoutineName → Bool) (w : World) (how : Release) (ks : List ℕ) →
    WorldFits s pure w → WorldFits s pure (release how ks w)

-- The failure of a handler that has an object keeps the invariant, whatever requests it takes.
abbrev pub FailuresKeepIt : Type 0
FailuresKeepIt = (s : System) (pure : RoutineName → Bool) (w : World) (h : ℕ) (why : Cause) (taken : List Request)
    (o : Reference) → IsAmong (w.handlers h).objects o →
    WorldFits s pure w → WorldFits s pure (fails_with h why taken w)

-- A turn in which the topmost frame reserves the handlers of its formals, or of the names of a separate block, keeps
-- the invariant.
abbrev pub ReservationsKeepIt : Type 0
ReservationsKeepIt = (s : System) (pure : RoutineName → Bool) (w : World) (h : ℕ) (f : Frame) (below : List Frame)
    (ks : List ℕ) → WorldFits s pure w → h < w.count →
    (w.handlers h).stack ≡ f ∷ below →
    (f.stage ≡ Reserves → WorldFits s pure (reserves_entry h ks f below w))
    × (f.stage ≡ ReservesBlock → WorldFits s pure (reserves_block h ks f below w))

-- A turn in which the topmost frame makes a move that ends in an act of the given kind keeps the invariant.
abbrev pub ActsKeepIt : (Act → Bool) → Type 0
ActsKeepIt is_such = (s : System) (root : Root) (pure : RoutineName → Bool) → IsFaultless s root → WellFormed s →
    IsPurity s pure → (most : ℕ) (w : World) → WorldFits s pure w →
    (h : ℕ) → h < w.count → (f : Frame) (below : List Frame) → (w.handlers h).stack ≡ f ∷ below → f.stage ≡ Runs →
    (a : Act) (p : Point) →
    moves s f.current (point_of f (w.handlers h).objects) ≡ Does a p → is_such a ≡ true →
    WorldFits s pure (settles most s h (Does a p) f below w)

-- The act concerns the own handler alone: it is no call, no request, no new handler, and no end of the routine.
abbrev pub is_own_act : Act → Bool
is_own_act (Prints text) = true
is_own_act Until = true
is_own_act Creates = true
is_own_act Starts = true
is_own_act Opens = true
is_own_act Leaves = true
is_own_act (Fails why) = true
is_own_act (CreatesHandler class procedure us t passes) = false
is_own_act (Enters c o x us t) = false
is_own_act (Requests o x us t passes) = false
is_own_act (Refuses k) = false
is_own_act Exits = false

-- A routine of the own handler is called.
abbrev pub is_entry : Act → Bool
is_entry (Enters c o x us t) = true
is_entry other = false

-- Another handler is asked.
abbrev pub is_request : Act → Bool
is_request (Requests o x us t passes) = true
is_request other = false

-- A handler is created.
abbrev pub is_new_handler : Act → Bool
is_new_handler (CreatesHandler class procedure us t passes) = true
is_new_handler other = false

-- The precondition of the entry is false.
abbrev pub is_refusal : Act → Bool
is_refusal (Refuses k) = true
is_refusal other = false

-- The exit of a routine keeps the invariant, if a handler that waits for its request takes its result.
abbrev pub ExitsKeepIt : Type 0
ExitsKeepIt = (s : System) (root : Root) (pure : RoutineName → Bool) → IsFaultless s root → WellFormed s →
    IsPurity s pure → (most : ℕ) (w : World) → WorldFits s pure w →
    (h : ℕ) → h < w.count → (f : Frame) (below : List Frame) → (w.handlers h).stack ≡ f ∷ below →
    f.stage ≡ Runs → (p : Point) →
    moves s f.current (point_of f (w.handlers h).objects) ≡ Does Exits p →
    ((r : Request) → f.origin ≡ Requested r → IsAwaited s w h r (result_of_request s r)) →
    WorldFits s pure (settles most s h (Does Exits p) f below w)

-- A turn in which the topmost frame takes the answer that it waits for keeps the invariant.
abbrev pub AnswersKeepIt : Type 0
AnswersKeepIt = (s : System) (pure : RoutineName → Bool) (w : World) → WorldFits s pure w → (h : ℕ) → h < w.count →
    (f : Frame) (below : List Frame) → (w.handlers h).stack ≡ f ∷ below →
    (k : ℕ) (t : Option EntityType) (is_creation : Bool) → f.stage ≡ Awaits k t is_creation → (a : Answer) →
    (w.handlers h).answer ≡ Some a →
    WorldFits s pure (takes_answer h a k t is_creation f below w)

-- A turn in which a handler without frames takes the first request of its queue keeps the invariant, if a handler
-- that waits for this request takes what it asks for.
abbrev pub NextKeepIt : Type 0
NextKeepIt = (s : System) (root : Root) (pure : RoutineName → Bool) → IsFaultless s root → WellFormed s →
    IsPurity s pure → (w : World) → WorldFits s pure w → (h : ℕ) → h < w.count →
    (r : Request) (rs : List Request) → (w.handlers h).stack ≡ [] → (w.handlers h).queue ≡ r ∷ rs →
    IsAwaited s w h r (result_of_request s r) → WorldFits s pure (takes_next s h (r ∷ rs) w)

-- A turn in which a handler takes a callback keeps the invariant, if no reply has come and a handler that waits for
-- the callback takes what it asks for.
abbrev pub CallbacksKeepIt : Type 0
CallbacksKeepIt = (s : System) (root : Root) (pure : RoutineName → Bool) → IsFaultless s root → WellFormed s →
    IsPurity s pure → (w : World) → WorldFits s pure w → (h : ℕ) → h < w.count →
    (r : Request) (f : Frame) (below : List Frame) → (w.handlers h).stack ≡ f ∷ below →
    (w.handlers h).callback ≡ Some r → ((v : Option Value) → (w.handlers h).answer ≡ Some (Reply v) → ⊥) →
    IsAwaited s w h r (result_of_request s r) → WorldFits s pure (takes_callback s h r (f ∷ below) w)

-- If the invariant holds, what a request asks for fits what its poster takes, and the creation of a handler gives
-- nothing.
abbrev pub RequestsAreMatched : Type 0
RequestsAreMatched = (s : System) (root : Root) (pure : RoutineName → Bool) → IsFaultless s root → WellFormed s →
    IsPurity s pure → (w : World) → WorldFits s pure w →
    (h : ℕ) → h < w.count → (f : Frame) (below : List Frame) → (w.handlers h).stack ≡ f ∷ below →
    f.stage ≡ Runs → (p : Point) →
    ((o : Reference) (x : List ℕ) (us : List Operand) (gives : Option EntityType) (passes : Bool) →
    moves s f.current (point_of f (w.handlers h).objects) ≡ Does (Requests o x us gives passes) p →
    Gives s o.handler (result_if_any s (version_of s o.class x)) h p.environment gives)
    × ((c : ℕ) (procedure : Option (List ℕ)) (us : List Operand) (t : EntityType) (passes : Bool) →
    moves s f.current (point_of f (w.handlers h).objects) ≡ Does (CreatesHandler c procedure us t passes) p → (k : ℕ) →
    Gives s k (result_if_any s (option_and_then (version_of s c) procedure)) h p.environment None)

-- Each turn keeps the invariant, if no handler has both a callback and a reply, and each handler that waits for a
-- request that may end takes what the request asks for.
abbrev pub TurnsKeepWhereAwaited : Type 0
TurnsKeepWhereAwaited = (s : System) (root : Root) (pure : RoutineName → Bool) → IsFaultless s root → WellFormed s →
    IsPurity s pure → (most h : ℕ) (w : World) → WorldFits s pure w →
    CallbacksStandAlone w → EndsAreAwaited s w → WorldFits s pure (turn most s h w)

-- Each turn keeps the invariant in a state that is reached.
abbrev pub TurnsKeepIt : Type 0
TurnsKeepIt = (s : System) (root : Root) (pure : RoutineName → Bool) → IsFaultless s root → WellFormed s →
    IsPurity s pure →
    (most h : ℕ) (w : World) → IsReached most s root w → WorldFits s pure w → WorldFits s pure (turn most s h w)

-- In each state that is reached, no handler has both a callback and a reply.
abbrev pub EachStandsAlone : Type 0
EachStandsAlone = (s : System) (root : Root) (most : ℕ) (w : World) → IsReached most s root w → CallbacksStandAlone w

-- In each state that an accepted system reaches, a handler that waits for a request that may end takes what the
-- request asks for.
abbrev pub EachEndIsAwaited : Type 0
EachEndIsAwaited = WhereAccepted λ s root. (most : ℕ) (w : World) → IsReached most s root w → EndsAreAwaited s w

-- If this holds, each turn keeps the invariant.
abbrev pub TurnsFromEnds : Type 0
TurnsFromEnds = EachEndIsAwaited → TurnsKeepIt

-- If each turn keeps the invariant, each value fits in every state that is reached.
abbrev pub FromTurns : Type 0
FromTurns = TurnsKeepIt → SomePurity → ValuesFit
