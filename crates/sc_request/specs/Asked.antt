-- What a turn of the machine asks of the core, with the numbers that a program gives to names.
use Rattle.std.specs.Prelude.{ℕ, Bool, true, false, ◌||◌, List, [], ◌∷◌, Option, Some, None, is_some, length, map, nat_lt, ◌==◌, if◌then◌else◌}
use Rattle.std.specs.List.{filter_map}
use Rattle.std.specs.Option.{option_map}
use Rattle.sc_tree.specs.Plain as tree
use Rattle.sc_tree.specs.Plain.{System, FeatureKind}
use Rattle.sc_class.specs.Tables.Features.{DeclaredFeature}
use Rattle.sc_rules.specs.declared.entity_types.entity_type.EntityType.{EntityType}
use Rattle.sc_rules.specs.Types.{declared_type}
use Rattle.sc_lockpass.specs.declared.wait_conditions.condition.EntryVerdict.{EntryVerdict}
use Rattle.sc_lockpass.specs.declared.wait_conditions.condition.EntryVerdict.TheVariants as verdict
use Rattle.sc_model.specs.declared.cause.Cause.TheVariants as cause
use Rattle.sc_model.specs.Values as machine
use Rattle.sc_model.specs.Values.{Operand, handler_of}
use Rattle.sc_model.specs.Limits.{max_frames}
use Rattle.sc_model.specs.Environments.{Binding, binding_named, formals_bound, separate_formals}
use Rattle.sc_model.specs.Objects.{Object, object_numbered, fresh_object}
use Rattle.sc_model.specs.Invariants.{meets_invariant}
use Rattle.sc_model.specs.Routines.{Routine, version_of, routine_named, routine_of}
use Rattle.sc_model.specs.Steps.{Act, Prints, Until, Creates, CreatesHandler, Enters, Requests, Starts, Refuses, Opens, Leaves, Exits, Fails, Step, Goes, Does}
use Rattle.sc_model.specs.Moves.{moves}
use Rattle.sc_model.specs.Handlers as handlers
use Rattle.sc_model.specs.Handlers.{Origin, Called, Requested, Stage, Runs, Reserves, ReservesBlock, InCall, Awaits, Frame, Handler, point_of, frame_at}
use Rattle.sc_model.specs.Entries.{opened_in}
use Rattle.sc_model.specs.Preconditions.{verdict_on, is_creation, object_meets}
use Rattle.sc_model.specs.Exits.{is_unset_value, is_unset, is_untested}
use Rattle.sc_region.specs.declared.value.Reference.{Reference}
use Rattle.sc_region.specs.declared.value.Value.{Value}
use Rattle.sc_region.specs.declared.value.Value.TheVariants as value
use Rattle.sc_region.specs.declared.job.Errand.{Errand}
use Rattle.sc_region.specs.declared.job.Errand.TheVariants as errand
use Rattle.sc_region.specs.declared.job.Request.{Request}
use Rattle.sc_region.specs.declared.job.Job.{Job}
use Rattle.sc_region.specs.declared.job.Job.TheVariants as job
use Rattle.sc_region.specs.declared.job.Want.{Want}
use Rattle.sc_region.specs.declared.job.Want.TheVariants as want

-- ---- numbers for names

-- the number of each feature, and of each creation procedure, by its class and its name
pub record Numbering : Type 0 where
  pub feature : ℕ → List ℕ → ℕ
  pub procedure : ℕ → List ℕ → ℕ

abbrev pub reference_of : machine.Reference → Reference
reference_of r = record { handler = r.handler; number = r.number; class = r.class }

abbrev pub value_of : machine.Value → Value
value_of (machine.Integer z) = value.Integer z
value_of (machine.Boolean b) = value.Boolean b
value_of machine.Void = value.Void
value_of (machine.Attached r) = value.Attached (reference_of r)

abbrev pub errand_of : Numbering → ℕ → handlers.Errand → Errand
errand_of n class (handlers.Calls x) = errand.Calls (n.feature class x)
errand_of n class (handlers.Makes k) = errand.Makes (option_map (n.procedure class) k)

abbrev pub request_of : Numbering → handlers.Request → Request
request_of n r = record {
  poster = r.poster;
  target = reference_of r.target;
  errand = errand_of n r.target.class r.errand;
  actuals = record { items = map value_of r.actuals };
  is_waited = r.is_waited;
}

-- ---- what turns ask

-- the handlers of these values, for a reserve step
abbrev pub handlers_of : List machine.Value → List ℕ
handlers_of vs = filter_map handler_of vs

-- a routine with attached separate formals asks for its reserve step
abbrev pub asks_beginning : List machine.Value → Want
asks_beginning [] = want.Continue
asks_beginning (v ∷ vs) = want.Reserve (record { items = handlers_of (v ∷ vs) })

abbrev pub asks_bound : Option (List Binding) → ℕ → Want
asks_bound None depth = want.Fail cause.BadCode
asks_bound (Some bs) depth =
    if nat_lt depth max_frames then asks_beginning (separate_formals bs) else want.Fail cause.StackFull

-- the routine is entered over so many frames
abbrev pub asks_entering : System → Option Routine → List machine.Value → ℕ → Want
asks_entering s None vs depth = want.Fail cause.BadCode
asks_entering s (Some r) vs depth = asks_bound (formals_bound s r.text.formals 0 r.text.formals vs) depth

abbrev pub asks_done : Option machine.Value → List ℕ → Bool → Want
asks_done v ks refused = want.Done (option_map value_of v) (record { items = ks }) refused

-- ---- a request is taken

abbrev pub asks_replying : Option EntityType → Option Binding → Want
asks_replying (Some t) (Some b) =
    if is_unset_value b.value t then want.Fail cause.UnsetEntity else asks_done (Some b.value) [] false
asks_replying t b = want.Fail cause.BadCode

abbrev pub asks_calling : System → handlers.Request → List ℕ → ℕ → Object → DeclaredFeature → FeatureKind → Want
asks_calling s r x depth o f (tree.Attribute d) = asks_replying (declared_type s [] d) (binding_named x o.attributes)
asks_calling s r x depth o f (tree.Routine c) = asks_entering s (routine_of s f) r.actuals depth

abbrev pub asks_version : System → handlers.Request → List ℕ → ℕ → Option Object → Option DeclaredFeature → Want
asks_version s r x depth (Some o) (Some f) = asks_calling s r x depth o f f.feature.kind
asks_version s r x depth o f = want.Fail cause.BadCode

abbrev pub asks_errand : System → ℕ → handlers.Request → handlers.Errand → ℕ → List Object → Want
asks_errand s h r (handlers.Makes (Some k)) depth objects =
    asks_entering s (routine_named s r.target.class k) r.actuals depth
asks_errand s h r (handlers.Makes None) depth objects =
    if meets_invariant s (fresh_object s r.target.class) then asks_done None [] false else want.Fail cause.Invariant
asks_errand s h r (handlers.Calls x) depth objects =
    if r.target.handler == h
    then asks_version s r x depth (object_numbered r.target.number objects) (version_of s r.target.class x)
    else want.Fail cause.ForeignObject

-- the next of the queue, or the callback
abbrev pub taken_of : List Frame → List handlers.Request → Option handlers.Request → Option handlers.Request
taken_of [] [] callback = None
taken_of [] (r ∷ rs) callback = Some r
taken_of (f ∷ below) queue callback = callback

abbrev pub asks_taking : System → ℕ → ℕ → List Object → Option handlers.Request → Want
asks_taking s h depth objects None = want.Continue
asks_taking s h depth objects (Some r) = asks_errand s h r r.errand depth objects

-- ---- a routine goes on

abbrev pub asks_releasing : List ℕ → Want
asks_releasing [] = want.Continue
asks_releasing (k ∷ ks) = want.Release (record { items = k ∷ ks })

abbrev pub request_by : Numbering → ℕ → machine.Reference → List ℕ → List Operand → Bool → Request
request_by n h r x us waits = record {
  poster = Some h;
  target = reference_of r;
  errand = errand.Calls (n.feature r.class x);
  actuals = record { items = map value_of (machine.values_of us) };
  is_waited = waits;
}

-- a query and a request with lock passing are waited for
abbrev pub asks_requesting : Numbering → ℕ → machine.Reference → List ℕ → List Operand → Bool → Bool → Want
asks_requesting n h r x us waits passing =
    if waits then want.Ask (request_by n h r x us true) passing else want.Post (request_by n h r x us false)

abbrev pub asks_refusing : System → Origin → Frame → List Object → Want
asks_refusing s (Called c) f objects = want.Fail cause.Precondition
asks_refusing s (Requested r) f objects =
    if is_creation r.errand then (if object_meets s (object_numbered f.current.number objects)
    then asks_done None f.reserved true else want.Fail cause.Invariant)
    else asks_done None f.reserved true

abbrev pub asks_after : EntryVerdict → System → Frame → List Object → Want
asks_after verdict.Wait s f objects = want.Wait (record { items = f.reserved })
asks_after verdict.Refuse s f objects = asks_refusing s f.origin f objects
asks_after verdict.Start s f objects = want.Fail cause.BadCode

abbrev pub asks_leaving : List (List ℕ) → Want
asks_leaving [] = want.Fail cause.BadCode
asks_leaving (ks ∷ kss) = want.Release (record { items = ks })

abbrev pub asks_returning : Origin → Frame → Want
asks_returning (Called c) f = asks_releasing f.reserved
asks_returning (Requested r) f = asks_done (option_map (λ (u : Operand). u.value) f.result) f.reserved false

abbrev pub asks_exiting : System → Frame → List Object → Want
asks_exiting s f objects =
    if is_unset f.result then want.Fail cause.UnsetEntity
    else if is_untested f.origin || object_meets s (object_numbered f.current.number objects)
    then asks_returning f.origin f
    else want.Fail cause.Invariant

-- what a visible step asks, after which the frame is this one, over so many others, with these objects
abbrev pub asks_acting : Numbering → System → ℕ → Act → Frame → ℕ → List Object → Want
asks_acting n s h (Prints text) f depth objects = want.Continue
asks_acting n s h Until f depth objects = want.Continue
asks_acting n s h Creates f depth objects = want.Continue
asks_acting n s h Starts f depth objects = want.Continue
asks_acting n s h (CreatesHandler class procedure us t passing) f depth objects =
    want.Create class (option_map (n.procedure class) procedure)
    (record { items = map value_of (machine.values_of us) }) passing
asks_acting n s h (Enters c me x us gives) f depth objects =
    asks_entering s (routine_named s me.class x) (machine.values_of us) depth
asks_acting n s h (Requests r x us gives passing) f depth objects =
    asks_requesting n h r x us (passing || is_some gives) passing
asks_acting n s h (Refuses k) f depth objects = asks_after (verdict_on f k) s f objects
asks_acting n s h Opens f depth objects =
    want.Reserve (record { items = handlers_of (opened_in f.environment f.tasks) })
asks_acting n s h Leaves f depth objects = asks_leaving f.blocks
asks_acting n s h Exits f depth objects = asks_exiting s f objects
asks_acting n s h (Fails why) f depth objects = want.Fail why

abbrev pub asks_moving : Numbering → System → ℕ → Step → Frame → ℕ → Want
asks_moving n s h (Goes p) f depth = want.Continue
asks_moving n s h (Does a p) f depth = asks_acting n s h a (frame_at f p) depth p.objects

abbrev pub asks_going : Numbering → System → ℕ → Stage → Frame → ℕ → List Object → Want
asks_going n s h Runs f depth objects = asks_moving n s h (moves s f.current (point_of f objects)) f depth
asks_going n s h Reserves f depth objects = want.Continue
asks_going n s h ReservesBlock f depth objects = want.Continue
asks_going n s h (InCall gives) f depth objects = want.Fail cause.BadCode
asks_going n s h (Awaits k gives creation) f depth objects = want.Continue

abbrev pub asks_on : Numbering → System → ℕ → List Frame → List Object → Want
asks_on n s h [] objects = want.Continue
asks_on n s h (f ∷ below) objects = asks_going n s h f.stage f (length (f ∷ below)) objects

-- What the handler's turn under the job asks of the core.
abbrev pub asked : Numbering → System → ℕ → Job → Handler → Want
asked n s h (job.Take r) x = asks_taking s h (length x.stack) x.objects (taken_of x.stack x.queue x.callback)
asked n s h (job.Reply v) x = want.Continue
asked n s h job.Failed x = want.Fail cause.SupplierFailed
asked n s h job.Refused x = want.Fail cause.Precondition
asked n s h (job.Granted ks) x = want.Continue
asked n s h (job.Made k) x = asks_on n s h x.stack x.objects
asked n s h job.Go x = asks_on n s h x.stack x.objects
