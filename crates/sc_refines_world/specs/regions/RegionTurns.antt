-- The region's half of a handler: its objects, its frames, its output and its failure; and the half
-- after a turn under a job.
use Rattle.std.specs.Prelude.{ℕ, zero, suc, ◌+◌, Bool, true, false, not, ◌&&◌, ◌||◌, List, [], ◌∷◌, ◌++◌, Option, Some, None, is_some, length, nat_lt, ◌==◌, if◌then◌else◌}
use Rattle.std.specs.Option.{is_none, option_map}
use Rattle.sc_tree.specs.Plain as tree
use Rattle.sc_tree.specs.Plain.{System, FeatureKind}
use Rattle.sc_class.specs.Tables.Features.{DeclaredFeature}
use Rattle.sc_rules.specs.declared.entity_types.entity_type.EntityType.{EntityType}
use Rattle.sc_rules.specs.Types.{declared_type}
use Rattle.sc_lockpass.specs.declared.wait_conditions.condition.EntryVerdict.{EntryVerdict}
use Rattle.sc_lockpass.specs.declared.wait_conditions.condition.EntryVerdict.TheVariants as verdict
use Rattle.sc_model.specs.declared.cause.Cause.{Cause}
use Rattle.sc_model.specs.declared.cause.Cause.TheVariants as cause
use Rattle.sc_model.specs.Values.{Reference, Value, Attached, Operand, operand, values_of}
use Rattle.sc_model.specs.Limits.{max_frames}
use Rattle.sc_model.specs.Environments.{Binding, binding_named, formals_bound}
use Rattle.sc_model.specs.Objects.{Object, object_numbered, fresh_object}
use Rattle.sc_model.specs.Invariants.{meets_invariant}
use Rattle.sc_model.specs.Routines.{Routine, version_of, routine_named, routine_of}
use Rattle.sc_model.specs.Tasks.{tasks_of}
use Rattle.sc_model.specs.Steps.{Act, Prints, Until, Creates, CreatesHandler, Enters, Requests, Starts, Refuses, Opens, Leaves, Exits, Fails, Step, Goes, Does}
use Rattle.sc_model.specs.Moves.{moves}
use Rattle.sc_model.specs.Handlers.{Errand, Calls, Makes, Request, Origin, Called, Requested, Stage, Runs, Reserves, ReservesBlock, InCall, Awaits, Frame, point_of, frame_at}
use Rattle.sc_model.specs.Asking.{awaits_if}
use Rattle.sc_model.specs.Entries.{entry}
use Rattle.sc_model.specs.Preconditions.{verdict_on, is_creation, object_meets}
use Rattle.sc_model.specs.Exits.{is_unset_value, is_unset, is_untested, handed, handed_as}

-- The frames of a region have no mark, and the requests that they serve don't say what was passed: the core has both.
pub record Half : Type 0 where
  pub objects : List Object
  pub stack : List Frame  -- the topmost first
  pub output : List ℕ
  pub failure : Option Cause

-- the half of a handler that was asked for nothing yet
abbrev pub new_half : Half
new_half = record { objects = []; stack = []; output = []; failure = None }

-- The half fails: its frames are dropped; objects and output stay.
abbrev pub failed : Cause → Half → Half
failed why x = record x { stack = []; failure = Some why }

abbrev pub with_stack : List Frame → Half → Half
with_stack stack x = record x { stack = stack }

-- ---- settled objects

abbrev pub is_current : ℕ → List Frame → Bool
is_current number [] = false
is_current number (f ∷ below) = f.current.number == number || is_current number below

-- there is an object, and it breaks its class invariant
abbrev pub object_breaks : System → Option Object → Bool
object_breaks s None = false
object_breaks s (Some o) = not (meets_invariant s o)

-- If the object of the number is settled now, its class invariant is tested.
abbrev pub settles : System → ℕ → Half → Half
settles s number x =
    if is_none x.failure && not (is_current number x.stack) && object_breaks s (object_numbered number x.objects)
    then failed cause.Invariant x else x

-- the frame `f` is dropped, and `below` stays
abbrev pub leaves : System → Frame → List Frame → Half → Half
leaves s f below x = settles s f.current.number (with_stack below x)

-- ---- a routine is entered

abbrev pub enters_bound : Reference → Routine → Origin → List Frame → Option (List Binding) → Half → Half
enters_bound me r o below None x = failed cause.BadCode x
enters_bound me r o below (Some bs) x =
    if nat_lt (length below) max_frames then with_stack (entry me r o bs ∷ below) x else failed cause.StackFull x

-- the routine is entered on top of these frames
abbrev pub enters : System → Reference → Option Routine → Origin → List Frame → List Value → Half → Half
enters s me None o below vs x = failed cause.BadCode x
enters s me (Some r) o below vs x = enters_bound me r o below (formals_bound s r.text.formals 0 r.text.formals vs) x

-- ---- a false clause

-- The entry begins anew with its reserve step.
abbrev pub waits_again : Frame → List Frame → Half → Half
waits_again f below x =
    with_stack (record f { stage = Reserves; tasks = tasks_of f.routine; values = []; reserved = [] } ∷ below) x

abbrev pub refuses : System → Request → Frame → List Frame → Half → Half
refuses s r f below x =
    if is_creation r.errand && not (object_meets s (object_numbered f.current.number x.objects))
    then failed cause.Invariant x else leaves s f below x

abbrev pub correctness_fails : System → Origin → Frame → List Frame → Half → Half
correctness_fails s (Called c) f below x = failed cause.Precondition x
correctness_fails s (Requested r) f below x = refuses s r f below x

abbrev pub false_clause : EntryVerdict → System → Frame → List Frame → Half → Half
false_clause verdict.Wait s f below x = waits_again f below x
false_clause verdict.Refuse s f below x = correctness_fails s f.origin f below x
false_clause verdict.Start s f below x = failed cause.BadCode x

-- ---- ends

-- The caller goes on, with the value if there is one. The value of a request goes to the core.
abbrev pub hands : Origin → Option Value → Half → Half
hands (Called c) v x = with_stack (handed v x.stack) x
hands (Requested r) v x = x

abbrev pub exits : System → Frame → List Frame → Half → Half
exits s f below x =
    if is_unset f.result then failed cause.UnsetEntity x
    else if is_untested f.origin || object_meets s (object_numbered f.current.number x.objects)
    then hands f.origin (option_map (λ (u : Operand). u.value) f.result) (leaves s f below x)
    else failed cause.Invariant x

abbrev pub leaves_block : List (List ℕ) → Frame → List Frame → Half → Half
leaves_block [] f below x = failed cause.BadCode x
leaves_block (ks ∷ kss) f below x = with_stack (record f { blocks = kss } ∷ below) x

-- ---- handlers that are made

-- a reference refers to an object of handler `k` then
abbrev pub told_value : ℕ → Value → Value
told_value k (Attached r) = Attached (record r { handler = k })
told_value k v = v

abbrev pub told : ℕ → List Operand → List Operand
told k [] = []
told k (u ∷ us) = record u { value = told_value k u.value } ∷ us

abbrev pub told_frames : ℕ → List Frame → List Frame
told_frames k [] = []
told_frames k (f ∷ below) = record f { values = told k f.values } ∷ below

-- The creator has a reference to the new handler's first object, with its own number until it learns the new one.
abbrev pub creates_handler : ℕ → ℕ → EntityType → Bool → Frame → List Frame → Half → Half
creates_handler h class t passing f below x =
    with_stack (awaits_if passing h None true (record f {
      values = operand
          (Attached (record { handler = h; number = 1; class = class })) t ∷ f.values;
    }) ∷ below) x

-- ---- turns

-- What a visible step does. `f` is the topmost frame after the step, on top of `below`.
abbrev pub acts : System → ℕ → Act → Frame → List Frame → Half → Half
acts s h (Prints text) f below x = record x { output = x.output ++ text }
acts s h Until f below x = x
acts s h Creates f below x = x
acts s h Starts f below x = x
acts s h (CreatesHandler class procedure us t passing) f below x = creates_handler h class t passing f below x
acts s h (Enters c me name us gives) f below x =
    enters s me (routine_named s me.class name) (Called c) (record f { stage = InCall gives } ∷ below) (values_of us) x
acts s h (Requests r name us gives passing) f below x =
    with_stack (awaits_if (passing || is_some gives) r.handler gives false f ∷ below) x
acts s h (Refuses k) f below x = false_clause (verdict_on f k) s f below x
acts s h Opens f below x = with_stack (record f { stage = ReservesBlock } ∷ below) x
acts s h Leaves f below x = leaves_block f.blocks f below x
acts s h Exits f below x = exits s f below x
acts s h (Fails why) f below x = failed why x

abbrev pub moved : System → ℕ → Step → Frame → List Frame → Half → Half
moved s h (Goes p) f below x = x
moved s h (Does a p) f below x =
    acts s h a (frame_at f p) below (record x { objects = p.objects; stack = frame_at f p ∷ below })

abbrev pub goes_on : System → ℕ → Stage → Frame → List Frame → Half → Half
goes_on s h Runs f below x = moved s h (moves s f.current (point_of f x.objects)) f below x
goes_on s h Reserves f below x = x
goes_on s h ReservesBlock f below x = x
goes_on s h (InCall gives) f below x = failed cause.BadCode x
goes_on s h (Awaits k gives is_creation) f below x = x

-- the topmost frame of these goes on
abbrev pub turn_on : System → ℕ → List Frame → Half → Half
turn_on s h [] x = x
turn_on s h (f ∷ below) x = goes_on s h f.stage f below x

-- handler `h` goes on
abbrev pub turn : System → ℕ → Half → Half
turn s h x = turn_on s h x.stack x

-- ---- a request is taken

-- the query of an attribute is answered at once
abbrev pub replies : Option EntityType → Option Binding → Half → Half
replies (Some t) (Some b) x = if is_unset_value b.value t then failed cause.UnsetEntity x else x
replies t b x = failed cause.BadCode x

abbrev pub takes_kind : System → Request → List ℕ → Object → DeclaredFeature → FeatureKind → Half → Half
takes_kind s r name o f (tree.Attribute d) x = replies (declared_type s [] d) (binding_named name o.attributes) x
takes_kind s r name o f (tree.Routine c) x = enters s r.target (routine_of s f) (Requested r) x.stack r.actuals x

abbrev pub takes_version : System → Request → List ℕ → Option Object → Option DeclaredFeature → Half → Half
takes_version s r name (Some o) (Some f) x = takes_kind s r name o f f.feature.kind x
takes_version s r name o f x = failed cause.BadCode x

-- If there is no procedure, the object is tested at once.
abbrev pub takes_creation : System → Request → Option (List ℕ) → Half → Half
takes_creation s r (Some name) x =
    enters s r.target (routine_named s r.target.class name) (Requested r) x.stack r.actuals x
takes_creation s r None x = x

abbrev pub with_new : System → ℕ → Half → Half
with_new s class x = record x { objects = x.objects ++ fresh_object s class ∷ [] }

abbrev pub takes_errand : System → ℕ → Request → Errand → Half → Half
takes_errand s h r (Makes k) x = settles s (length x.objects + 1) (takes_creation s r k (with_new s r.target.class x))
takes_errand s h r (Calls name) x =
    if r.target.handler == h
    then takes_version s r name (object_numbered r.target.number x.objects) (version_of s r.target.class name) x
    else failed cause.ForeignObject x

abbrev pub takes : System → ℕ → Request → Half → Half
takes s h r x = takes_errand s h r r.errand x

-- ---- an answer, a reserve step, a handler that was made

-- A frame that waits gets the answer. For one that goes on, the end of a callback that it posted changes nothing.
abbrev pub takes_reply : Stage → Option Value → Frame → List Frame → Half → Half
takes_reply (Awaits k gives is_creation) v f below x = with_stack (handed_as gives v f ∷ below) x
takes_reply Runs v f below x = x
takes_reply stage v f below x = failed cause.BadCode x

abbrev pub takes_grant : Stage → List ℕ → Frame → List Frame → Half → Half
takes_grant Reserves ks f below x = with_stack (record f { stage = Runs; reserved = ks } ∷ below) x
takes_grant ReservesBlock ks f below x = with_stack (record f { stage = Runs; blocks = ks ∷ f.blocks } ∷ below) x
takes_grant stage ks f below x = failed cause.BadCode x

-- With lock passing the new number is the answer, and takes a turn of its own. Otherwise the creator goes on.
abbrev pub takes_made : System → ℕ → Stage → Frame → List Frame → Half → Half
takes_made s h (Awaits k gives true) f below x = with_stack (record f { stage = Runs } ∷ below) x
takes_made s h stage f below x = goes_on s h stage f below (with_stack (f ∷ below) x)

-- ---- jobs

-- a job, with names as the machine has them
pub data Task : Type 0 where
  Takes : (request : Request) → Task
  Replied : (value : Option Value) → Task
  SupplierFailed : Task
  WasRefused : Task
  Granted : (handlers : List ℕ) → Task
  Made : (handler : ℕ) → Task
  GoesOn : Task
  Misfits : Task  -- it names what the program doesn't have

-- the first turn under the job, if this is the stack
abbrev pub begins : System → ℕ → Task → List Frame → Half → Half
begins s h (Takes r) stack x = takes s h r x
begins s h SupplierFailed stack x = failed cause.SupplierFailed x
begins s h WasRefused stack x = failed cause.Precondition x
begins s h Misfits stack x = failed cause.BadCode x
begins s h GoesOn stack x = turn_on s h stack x
begins s h job [] x = failed cause.BadCode x
begins s h (Replied v) (f ∷ below) x = takes_reply f.stage v f below x
begins s h (Granted ks) (f ∷ below) x = takes_grant f.stage ks f below x
begins s h (Made k) (f ∷ below) x = takes_made s h f.stage (record f { values = told k f.values }) below x

-- the half of handler `h` after the first turn under the job
abbrev pub taken_turn : System → ℕ → Task → Half → Half
taken_turn s h job x = begins s h job x.stack x

-- the half after this number of further turns
abbrev pub turns_on : ℕ → System → ℕ → Half → Half
turns_on zero s h x = x
turns_on (suc n) s h x = turns_on n s h (turn s h x)

-- the half after this number of turns under the job; the first is `taken_turn`
abbrev pub played : System → ℕ → Task → ℕ → Half → Half
played s h job zero x = x
played s h job (suc n) x = turns_on n s h (taken_turn s h job x)
