-- What turns ask that aren't the creation of a handler whose creator goes on.
use Rattle.std.proofs.Common.{◌||◌, ◌==◌, ℕ, Bool, true, false, List, [], ◌∷◌, Option, Some, None}
use Rattle.std.specs.Prelude.{is_some, nat_lt}
use Rattle.sc_tree.specs.Plain as tree
use Rattle.sc_tree.specs.Plain.{System, FeatureKind}
use Rattle.sc_class.specs.Tables.Features.{DeclaredFeature}
use Rattle.sc_rules.specs.declared.entity_types.entity_type.EntityType.{EntityType}
use Rattle.sc_rules.specs.Types.{declared_type}
use Rattle.sc_lockpass.specs.declared.wait_conditions.condition.EntryVerdict.{EntryVerdict}
use Rattle.sc_lockpass.specs.declared.wait_conditions.condition.EntryVerdict.TheVariants as verdict
use Rattle.sc_model.specs.declared.cause.Cause.TheVariants as cause
use Rattle.sc_model.specs.Limits.{max_frames}
use Rattle.sc_model.specs.Values.{Value, Operand, Reference, values_of}
use Rattle.sc_model.specs.Environments.{Binding, binding_named, formals_bound, separate_formals}
use Rattle.sc_model.specs.Objects.{Object, object_numbered, fresh_object}
use Rattle.sc_model.specs.Invariants.{meets_invariant}
use Rattle.sc_model.specs.Routines.{Routine, version_of, routine_named, routine_of}
use Rattle.sc_model.specs.Exits.{is_unset, is_unset_value, is_untested}
use Rattle.sc_model.specs.Preconditions.{verdict_on, is_creation, object_meets}
use Rattle.sc_model.specs.Steps.{Act, Prints, Until, Creates, CreatesHandler, Enters, Requests, Starts, Refuses, Opens, Leaves, Exits, Fails}
use Rattle.sc_model.specs.Handlers.{Errand, Calls, Makes, Request, Origin, Called, Requested, Frame}
use Rattle.sc_region.specs.declared.job.Want.TheVariants as want
use Rattle.sc_request.specs.Asked.{Numbering, asks_acting, asks_after, asks_beginning, asks_bound, asks_calling, asks_done, asks_entering, asks_errand, asks_exiting, asks_leaving, asks_refusing, asks_releasing, asks_replying, asks_requesting, asks_returning, asks_taking, asks_version}
use Rattle.sc_refines_world.proofs.regions.Halves.{by_test}
use Rattle.sc_refines_world.proofs.regions.VisibleSteps.{IsPlainAct}
use Rattle.sc_refines_world.proofs.regions.CalmStages.{IsPlain}

beginning : (vs : List Value) → IsPlain (asks_beginning vs)
beginning [] = tt
beginning (v ∷ vs) = tt

bound : (bs : Option (List Binding)) (depth : ℕ) → IsPlain (asks_bound bs depth)
bound None depth = tt
bound (Some bs) depth =
    by_test IsPlain (nat_lt depth max_frames) (asks_beginning (separate_formals bs)) (want.Fail cause.StackFull) (λ e. beginning (separate_formals bs)) (λ e. tt)

entering : (s : System) (r : Option Routine) (vs : List Value) (depth : ℕ) → IsPlain (asks_entering s r vs depth)
entering s None vs depth = tt
entering s (Some r) vs depth = bound (formals_bound s r.text.formals 0 r.text.formals vs) depth

-- ---- requests

replying : (t : Option EntityType) (b : Option Binding) → IsPlain (asks_replying t b)
replying (Some t) (Some b) = by_test IsPlain (is_unset_value b.value t) (want.Fail cause.UnsetEntity) (asks_done (Some b.value) [] false) (λ e. tt) (λ e. tt)
replying (Some t) None = tt
replying None b = tt

calling : (s : System) (r : Request) (x : List ℕ) (depth : ℕ) (o : Object) (f : DeclaredFeature) (k : FeatureKind) → IsPlain (asks_calling s r x depth o f k)
calling s r x depth o f (tree.Attribute d) = replying (declared_type s [] d) (binding_named x o.attributes)
calling s r x depth o f (tree.Routine c) = entering s (routine_of s f) r.actuals depth

version : (s : System) (r : Request) (x : List ℕ) (depth : ℕ) (o : Option Object) (f : Option DeclaredFeature) → IsPlain (asks_version s r x depth o f)
version s r x depth (Some o) (Some f) = calling s r x depth o f f.feature.kind
version s r x depth (Some o) None = tt
version s r x depth None f = tt

errand : (s : System) (h : ℕ) (r : Request) (e : Errand) (depth : ℕ) (objects : List Object) → IsPlain (asks_errand s h r e depth objects)
errand s h r (Makes (Some k)) depth objects = entering s (routine_named s r.target.class k) r.actuals depth
errand s h r (Makes None) depth objects =
    by_test IsPlain (meets_invariant s (fresh_object s r.target.class)) (asks_done None [] false) (want.Fail cause.Invariant) (λ e. tt) (λ e. tt)
errand s h r (Calls x) depth objects =
    by_test IsPlain (r.target.handler == h) (asks_version s r x depth (object_numbered r.target.number objects) (version_of s r.target.class x)) (want.Fail cause.ForeignObject)
    (λ e. version s r x depth (object_numbered r.target.number objects) (version_of s r.target.class x)) (λ e. tt)

pub taking : (s : System) (h depth : ℕ) (objects : List Object) (o : Option Request) → IsPlain (asks_taking s h depth objects o)
taking s h depth objects None = tt
taking s h depth objects (Some r) = errand s h r r.errand depth objects

-- ---- visible steps

requesting : (n : Numbering) (h : ℕ) (r : Reference) (x : List ℕ) (us : List Operand) (waits passing : Bool) → IsPlain (asks_requesting n h r x us waits passing)
requesting n h r x us true passing = tt
requesting n h r x us false passing = tt

refusing : (s : System) (o : Origin) (f : Frame) (objects : List Object) → IsPlain (asks_refusing s o f objects)
refusing s (Called c) f objects = tt
refusing s (Requested r) f objects =
    by_test IsPlain (is_creation r.errand) _ (asks_done None f.reserved true)
    (λ e. by_test IsPlain (object_meets s (object_numbered f.current.number objects)) (asks_done None f.reserved true) (want.Fail cause.Invariant) (λ e. tt) (λ e. tt))
    (λ e. tt)

after : (v : EntryVerdict) (s : System) (f : Frame) (objects : List Object) → IsPlain (asks_after v s f objects)
after verdict.Wait s f objects = tt
after verdict.Refuse s f objects = refusing s f.origin f objects
after verdict.Start s f objects = tt

leaving : (blocks : List (List ℕ)) → IsPlain (asks_leaving blocks)
leaving [] = tt
leaving (ks ∷ kss) = tt

releasing : (ks : List ℕ) → IsPlain (asks_releasing ks)
releasing [] = tt
releasing (k ∷ ks) = tt

returning : (o : Origin) (f : Frame) → IsPlain (asks_returning o f)
returning (Called c) f = releasing f.reserved
returning (Requested r) f = tt

exiting : (s : System) (f : Frame) (objects : List Object) → IsPlain (asks_exiting s f objects)
exiting s f objects =
    by_test IsPlain (is_unset f.result) (want.Fail cause.UnsetEntity) _ (λ e. tt)
    (λ e. by_test IsPlain (is_untested f.origin || object_meets s (object_numbered f.current.number objects)) (asks_returning f.origin f) (want.Fail cause.Invariant)
    (λ e. returning f.origin f) (λ e. tt))

pub acting : (n : Numbering) (s : System) (h : ℕ) (a : Act) (f : Frame) (depth : ℕ) (objects : List Object) → IsPlainAct a → IsPlain (asks_acting n s h a f depth objects)
acting n s h (Prints text) f depth objects p = tt
acting n s h Until f depth objects p = tt
acting n s h Creates f depth objects p = tt
acting n s h Starts f depth objects p = tt
acting n s h (CreatesHandler class procedure us t true) f depth objects p = tt
acting n s h (CreatesHandler class procedure us t false) f depth objects p = absurd p
acting n s h (Enters c me x us gives) f depth objects p = entering s (routine_named s me.class x) (values_of us) depth
acting n s h (Requests r x us gives passing) f depth objects p = requesting n h r x us (passing || is_some gives) passing
acting n s h (Refuses k) f depth objects p = after (verdict_on f k) s f objects
acting n s h Opens f depth objects p = tt
acting n s h Leaves f depth objects p = leaving f.blocks
acting n s h Exits f depth objects p = exiting s f objects
acting n s h (Fails why) f depth objects p = tt
