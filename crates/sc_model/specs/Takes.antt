-- Taking a request, and taking an answer.
use Rattle.std.specs.Prelude.{ℕ, Bool, true, false, List, [], ◌∷◌, ◌++◌, Option, Some, None, ◌==◌, if◌then◌else◌}
use Rattle.sc_tree.specs.Plain as tree
use Rattle.sc_tree.specs.Plain.{System, FeatureKind}
use Rattle.sc_class.specs.Tables.Features.{DeclaredFeature}
use Rattle.sc_rules.specs.declared.entity_types.entity_type.EntityType.{EntityType}
use Rattle.sc_rules.specs.Types.{declared_type}
use Rattle.sc_lockpass.specs.declared.wait_conditions.session.Release.TheVariants as release_at
use Rattle.sc_model.specs.declared.cause.Cause.TheVariants as cause
use Rattle.sc_model.specs.Environments.{Binding, binding_named}
use Rattle.sc_model.specs.Objects.{Object, object_numbered, fresh_object}
use Rattle.sc_model.specs.Invariants.{meets_invariant}
use Rattle.sc_model.specs.Routines.{version_of, routine_named, routine_of}
use Rattle.sc_model.specs.Handlers.{Errand, Calls, Makes, Request, Answer, Reply, Failed, Refused, Requested, Frame, World, put}
use Rattle.sc_model.specs.Sessions.{release}
use Rattle.sc_model.specs.Answers.{finish}
use Rattle.sc_model.specs.Failures.{fail, fails_with}
use Rattle.sc_model.specs.Entries.{enters}
use Rattle.sc_model.specs.Exits.{is_unset_value, handed_as}

-- ---- a feature is called

-- the query of an attribute is answered at once
abbrev pub replies : ℕ → Request → Option EntityType → Option Binding → World → World
replies h r (Some t) (Some b) w =
    if is_unset_value b.value t then fails_with h cause.UnsetEntity (r ∷ []) w else finish r (Reply (Some b.value)) w
replies h r t b w = fails_with h cause.BadCode (r ∷ []) w

abbrev pub takes_kind : System → ℕ → Request → List ℕ → List Frame → Object → DeclaredFeature →
    FeatureKind → World → World
takes_kind s h r x below o f (tree.Attribute d) w = replies h r (declared_type s [] d) (binding_named x o.attributes) w
takes_kind s h r x below o f (tree.Routine c) w =
    enters s h r.target (routine_of s f) (Requested r) below (r ∷ []) r.actuals w

abbrev pub takes_version : System → ℕ → Request → List ℕ → List Frame → Option Object →
    Option DeclaredFeature → World → World
takes_version s h r x below (Some o) (Some f) w = takes_kind s h r x below o f f.feature.kind w
takes_version s h r x below o f w = fails_with h cause.BadCode (r ∷ []) w

-- ---- an object is made

-- without a procedure it is tested at once, and the creation is done
abbrev pub takes_creation : System → ℕ → Request → Option (List ℕ) → List Frame → World → World
takes_creation s h r (Some x) below w =
    enters s h r.target (routine_named s r.target.class x) (Requested r) below (r ∷ []) r.actuals w
takes_creation s h r None below w =
    if meets_invariant s (fresh_object s r.target.class) then finish r (Reply None) w
    else fails_with h cause.Invariant (r ∷ []) w

abbrev pub with_new_object : System → ℕ → ℕ → World → World
with_new_object s h class w =
    put h (record (w.handlers h) { objects = (w.handlers h).objects ++ fresh_object s class ∷ [] }) w

-- ---- a request

abbrev pub takes_errand : System → ℕ → Request → Errand → List Frame → World → World
takes_errand s h r (Makes k) below w = takes_creation s h r k below (with_new_object s h r.target.class w)
takes_errand s h r (Calls x) below w =
    if r.target.handler == h
    then takes_version s h r x below (object_numbered r.target.number (w.handlers h).objects)
    (version_of s r.target.class x) w
    else fails_with h cause.ForeignObject (r ∷ []) w

-- the request is taken, on top of this stack
abbrev pub takes : System → ℕ → Request → List Frame → World → World
takes s h r below w = takes_errand s h r r.errand below w

-- the first of the queue, if there is one
abbrev pub takes_next : System → ℕ → List Request → World → World
takes_next s h [] w = w
takes_next s h (r ∷ rs) w = takes s h r [] (put h (record (w.handlers h) { queue = rs }) w)

abbrev pub takes_callback : System → ℕ → Request → List Frame → World → World
takes_callback s h r stack w = takes s h r stack (put h (record (w.handlers h) { callback = None }) w)

-- ---- an answer

-- the creator of a handler releases it
abbrev pub released_if : Bool → ℕ → World → World
released_if false k w = w
released_if true k w = release release_at.Creation (k ∷ []) w

abbrev pub takes_answer : ℕ → Answer → ℕ → Option EntityType → Bool → Frame → List Frame → World → World
takes_answer h (Reply v) k gives is_creation f below w =
    released_if is_creation k (put h (record (w.handlers h) { stack = handed_as gives v f ∷ below; answer = None }) w)
takes_answer h Failed k gives is_creation f below w = fail h cause.SupplierFailed w
takes_answer h Refused k gives is_creation f below w = fail h cause.Precondition w
