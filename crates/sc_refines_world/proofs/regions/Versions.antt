-- Routines that run are what names are in classes.
use Rattle.std.proofs.Common.{◌≡◌, ℕ, ◌+◌, Bool, true, false, not, List, [], ◌∷◌, Option, Some, None, is_some, length, refl, sym, ap, subst}
use Rattle.std.specs.Prelude.{◌==◌, ◌&&◌, ◌||◌, nat_lt, if◌then◌else◌}
use Rattle.std.specs.Option.{is_none, option_and_then, option_map}
use Rattle.sc_tree.specs.Plain as tree
use Rattle.sc_tree.specs.Plain.{System, FeatureKind}
use Rattle.sc_class.specs.Tables.Features.{DeclaredFeature}
use Rattle.sc_rules.specs.declared.entity_types.entity_type.EntityType.{EntityType}
use Rattle.sc_rules.specs.Types.{declared_type}
use Rattle.sc_lockpass.specs.declared.wait_conditions.condition.EntryVerdict.{EntryVerdict}
use Rattle.sc_lockpass.specs.declared.wait_conditions.condition.EntryVerdict.TheVariants as verdict
use Rattle.sc_model.specs.declared.cause.Cause.TheVariants as cause
use Rattle.sc_model.specs.Asking.{awaits_if}
use Rattle.sc_model.specs.Entries.{entry}
use Rattle.sc_model.specs.Environments.{Binding, binding_named, formals_bound}
use Rattle.sc_model.specs.Exits.{handed, handed_as, handed_at, is_unset, is_unset_value, is_untested}
use Rattle.sc_model.specs.Handlers.{Errand, Calls, Makes, Request, Origin, Called, Requested, Stage, Runs, Reserves, ReservesBlock, InCall, Awaits, Frame, frame_at, point_of}
use Rattle.sc_model.specs.Limits.{max_frames}
use Rattle.sc_model.specs.Moves.{moves}
use Rattle.sc_model.specs.Objects.{Object, object_numbered}
use Rattle.sc_model.specs.Preconditions.{is_creation, object_meets, verdict_on}
use Rattle.sc_model.specs.Routines.{Routine, routine_named, routine_of, version_of}
use Rattle.sc_model.specs.Steps as model
use Rattle.sc_model.specs.Steps.{Step, Goes, Does}
use Rattle.sc_model.specs.Values as values
use Rattle.sc_model.specs.Values.{Operand, operand}
use Rattle.sc_refines_world.specs.regions.RegionTurns.{Half, Task, Takes, Replied, SupplierFailed, WasRefused, Granted, Made, GoesOn, Misfits, acts, begins, correctness_fails, enters, enters_bound, exits, failed, false_clause, goes_on, hands, is_current, leaves, leaves_block, moved, object_breaks, replies, settles, takes_creation, takes_errand, takes_grant, takes_kind, takes_made, takes_reply, takes_version, told, turn_on, with_new, with_stack}
use Rattle.sc_refines_world.specs.regions.Versions.{AreVersions, JobsKeepVersions, TurnsKeepVersions}
use Rattle.sc_refines_world.specs.regions.Waiting.{IsVersion}

module _ (s : System) where
  -- the routines of the half's frames are
  abbrev AreKept : Half → Type 0
  AreKept x = AreVersions s x.stack

  if_kept : (b : Bool) (x y : Half) → AreKept x → AreKept y → AreKept (if b then x else y)
  if_kept true x y a c = a
  if_kept false x y a c = c

  settles_keeps : (n : ℕ) (x : Half) → AreKept x → AreKept (settles s n x)
  settles_keeps n x a = if_kept (is_none x.failure && not (is_current n x.stack) && object_breaks s (object_numbered n x.objects)) (failed cause.Invariant x) x tt a

  leaves_keeps : (f : Frame) (below : List Frame) (x : Half) → AreVersions s below → AreKept (leaves s f below x)
  leaves_keeps f below x a = settles_keeps f.current.number (with_stack below x) a

  -- ---- entries

  module _ (class : ℕ) (name : List ℕ) (me : values.Reference) (from : Origin) (below : List Frame) (vs : List values.Value) (x : Half) (a : AreVersions s below) where
    enters_keeps : (q : Option Routine) → routine_named s class name ≡ q → AreKept (enters s me q from below vs x)
    enters_keeps None e = tt
    enters_keeps (Some r) e = by (formals_bound s r.text.formals 0 r.text.formals vs)
      where
        version : IsVersion s r
        version = record { class = class; name = name; found = e }

        by : (q : Option (List Binding)) → AreKept (enters_bound me r from below q x)
        by None = tt
        by (Some bs) = if_kept (nat_lt (length below) max_frames) (with_stack (entry me r from bs ∷ below) x) (failed cause.StackFull x) (version, a) tt

  -- ---- visible steps

  awaits_routine : (b : Bool) (k : ℕ) (gives : Option EntityType) (is_creation : Bool) (f : Frame) → (awaits_if b k gives is_creation f).routine ≡ f.routine
  awaits_routine true k gives is_creation f = refl
  awaits_routine false k gives is_creation f = refl

  handed_so : (gives : Option EntityType) (v : Option values.Value) (f : Frame) → (handed_as gives v f).routine ≡ f.routine
  handed_so (Some t) (Some v) f = refl
  handed_so (Some t) None f = refl
  handed_so None (Some v) f = refl
  handed_so None None f = refl

  handed_routine : (st : Stage) (v : Option values.Value) (f : Frame) → (handed_at st v f).routine ≡ f.routine
  handed_routine (InCall gives) v f = handed_so gives v f
  handed_routine Runs v f = refl
  handed_routine Reserves v f = refl
  handed_routine ReservesBlock v f = refl
  handed_routine (Awaits k gives is_creation) v f = refl

  handed_keeps : (v : Option values.Value) (fs : List Frame) → AreVersions s fs → AreVersions s (handed v fs)
  handed_keeps v [] a = tt
  handed_keeps v (f ∷ fs) a = (subst (IsVersion s) (sym (handed_routine f.stage v f)) a.0, a.1)

  hands_keeps : (from : Origin) (v : Option values.Value) (x : Half) → AreKept x → AreKept (hands from v x)
  hands_keeps (Called c) v x a = handed_keeps v x.stack a
  hands_keeps (Requested r) v x a = a

  module _ (f : Frame) (below : List Frame) (x : Half) (version : IsVersion s f.routine) (a : AreVersions s below) where
    exits_keeps : AreKept (exits s f below x)
    exits_keeps =
        if_kept (is_unset f.result) (failed cause.UnsetEntity x) _ tt
        (if_kept (is_untested f.origin || object_meets s (object_numbered f.current.number x.objects)) _ (failed cause.Invariant x)
        (hands_keeps f.origin (option_map (λ (u : Operand). u.value) f.result) (leaves s f below x) (leaves_keeps f below x a)) tt)

    correctness_keeps : (from : Origin) → AreKept (correctness_fails s from f below x)
    correctness_keeps (Called c) = tt
    correctness_keeps (Requested r) =
        if_kept (is_creation r.errand && not (object_meets s (object_numbered f.current.number x.objects))) (failed cause.Invariant x) (leaves s f below x) tt (leaves_keeps f below x a)

    false_keeps : (v : EntryVerdict) → AreKept (false_clause v s f below x)
    false_keeps verdict.Wait = (version, a)
    false_keeps verdict.Refuse = correctness_keeps f.origin
    false_keeps verdict.Start = tt

    block_keeps : (kss : List (List ℕ)) → AreKept (leaves_block kss f below x)
    block_keeps [] = tt
    block_keeps (ks ∷ kss) = (version, a)

    acts_keep : (h : ℕ) (act : model.Act) → AreKept x → AreKept (acts s h act f below x)
    acts_keep h (model.Prints text) kept = kept
    acts_keep h model.Until kept = kept
    acts_keep h model.Creates kept = kept
    acts_keep h model.Starts kept = kept
    acts_keep h (model.CreatesHandler class procedure us t passing) kept = (
      subst (IsVersion s)
          (sym (awaits_routine passing h None true (record f { values = operand (values.Attached (record { handler = h; number = 1; class = class })) t ∷ f.values }))) version,
      a,
    )
    acts_keep h (model.Enters c me name us gives) kept =
        enters_keeps me.class name me (Called c) (record f { stage = InCall gives } ∷ below) (values.values_of us) x (version, a) (routine_named s me.class name) refl
    acts_keep h (model.Requests r name us gives passing) kept = (subst (IsVersion s) (sym (awaits_routine (passing || is_some gives) r.handler gives false f)) version, a)
    acts_keep h (model.Refuses k) kept = false_keeps (verdict_on f k)
    acts_keep h model.Opens kept = (version, a)
    acts_keep h model.Leaves kept = block_keeps f.blocks
    acts_keep h model.Exits kept = exits_keeps
    acts_keep h (model.Fails why) kept = tt

  moved_keeps : (h : ℕ) (f : Frame) (below : List Frame) (x : Half) → IsVersion s f.routine → AreVersions s below → AreKept x → (st : Step) → AreKept (moved s h st f below x)
  moved_keeps h f below x version a kept (Goes p) = kept
  moved_keeps h f below x version a kept (Does act p) =
      acts_keep (frame_at f p) below (record x { objects = p.objects; stack = frame_at f p ∷ below }) version a h act (version, a)

  goes_keeps : (h : ℕ) (f : Frame) (below : List Frame) (x : Half) → IsVersion s f.routine → AreVersions s below → AreKept x → (st : Stage) → AreKept (goes_on s h st f below x)
  goes_keeps h f below x version a kept Runs = moved_keeps h f below x version a kept (moves s f.current (point_of f x.objects))
  goes_keeps h f below x version a kept Reserves = kept
  goes_keeps h f below x version a kept ReservesBlock = kept
  goes_keeps h f below x version a kept (InCall gives) = tt
  goes_keeps h f below x version a kept (Awaits k gives is_creation) = kept

  turn_keeps : (h : ℕ) (x : Half) (fs : List Frame) → AreVersions s fs → AreKept x → AreKept (turn_on s h fs x)
  turn_keeps h x [] a kept = kept
  turn_keeps h x (f ∷ below) a kept = goes_keeps h f below x a.0 a.1 kept f.stage

  -- ---- jobs

  replies_keeps : (t : Option EntityType) (b : Option Binding) (x : Half) → AreKept x → AreKept (replies t b x)
  replies_keeps (Some t) (Some b) x a = if_kept (is_unset_value b.value t) (failed cause.UnsetEntity x) x tt a
  replies_keeps (Some t) None x a = tt
  replies_keeps None (Some b) x a = tt
  replies_keeps None None x a = tt

  module _ (r : Request) (x : Half) (a : AreKept x) where
    kind_keeps : (name : List ℕ) (o : Object) (f : DeclaredFeature) → version_of s r.target.class name ≡ Some f → (m : FeatureKind) → AreKept (takes_kind s r name o f m x)
    kind_keeps name o f e (tree.Attribute d) = replies_keeps (declared_type s [] d) (binding_named name o.attributes) x a
    kind_keeps name o f e (tree.Routine c) =
        enters_keeps r.target.class name r.target (Requested r) x.stack r.actuals x a (routine_of s f) (ap (option_and_then (routine_of s)) e)

    version_keeps : (name : List ℕ) (o : Option Object) (f : Option DeclaredFeature) → version_of s r.target.class name ≡ f → AreKept (takes_version s r name o f x)
    version_keeps name (Some o) (Some f) e = kind_keeps name o f e f.feature.kind
    version_keeps name (Some o) None e = tt
    version_keeps name None (Some f) e = tt
    version_keeps name None None e = tt

    creation_keeps : (k : Option (List ℕ)) → AreKept (takes_creation s r k x)
    creation_keeps None = a
    creation_keeps (Some name) = enters_keeps r.target.class name r.target (Requested r) x.stack r.actuals x a (routine_named s r.target.class name) refl

  errand_keeps : (h : ℕ) (r : Request) (x : Half) → AreKept x → (e : Errand) → AreKept (takes_errand s h r e x)
  errand_keeps h r x a (Makes k) = settles_keeps (length x.objects + 1) (takes_creation s r k (with_new s r.target.class x)) (creation_keeps r (with_new s r.target.class x) a k)
  errand_keeps h r x a (Calls name) =
      if_kept (r.target.handler == h) _ (failed cause.ForeignObject x)
      (version_keeps r x a name (object_numbered r.target.number x.objects) (version_of s r.target.class name) refl) tt

  module _ (f : Frame) (below : List Frame) (x : Half) (version : IsVersion s f.routine) (a : AreVersions s below) where
    reply_keeps : (v : Option values.Value) → AreKept x → (st : Stage) → AreKept (takes_reply st v f below x)
    reply_keeps v kept (Awaits k gives is_creation) = (subst (IsVersion s) (sym (handed_so gives v f)) version, a)
    reply_keeps v kept Runs = kept
    reply_keeps v kept Reserves = tt
    reply_keeps v kept ReservesBlock = tt
    reply_keeps v kept (InCall gives) = tt

    grant_keeps : (ks : List ℕ) (st : Stage) → AreKept (takes_grant st ks f below x)
    grant_keeps ks Reserves = (version, a)
    grant_keeps ks ReservesBlock = (version, a)
    grant_keeps ks Runs = tt
    grant_keeps ks (InCall gives) = tt
    grant_keeps ks (Awaits k gives is_creation) = tt

    made_keeps : (h : ℕ) (st : Stage) → AreKept (takes_made s h st f below x)
    made_keeps h (Awaits k gives true) = (version, a)
    made_keeps h (Awaits k gives false) = goes_keeps h f below (with_stack (f ∷ below) x) version a (version, a) (Awaits k gives false)
    made_keeps h Runs = goes_keeps h f below (with_stack (f ∷ below) x) version a (version, a) Runs
    made_keeps h Reserves = goes_keeps h f below (with_stack (f ∷ below) x) version a (version, a) Reserves
    made_keeps h ReservesBlock = goes_keeps h f below (with_stack (f ∷ below) x) version a (version, a) ReservesBlock
    made_keeps h (InCall gives) = goes_keeps h f below (with_stack (f ∷ below) x) version a (version, a) (InCall gives)

  begins_keep : (h : ℕ) (j : Task) (x : Half) (fs : List Frame) → AreVersions s fs → AreKept x → AreKept (begins s h j fs x)
  begins_keep h (Takes r) x fs a kept = errand_keeps h r x kept r.errand
  begins_keep h SupplierFailed x fs a kept = tt
  begins_keep h WasRefused x fs a kept = tt
  begins_keep h Misfits x fs a kept = tt
  begins_keep h GoesOn x fs a kept = turn_keeps h x fs a kept
  begins_keep h (Replied v) x [] a kept = tt
  begins_keep h (Granted ks) x [] a kept = tt
  begins_keep h (Made k) x [] a kept = tt
  begins_keep h (Replied v) x (f ∷ below) a kept = reply_keeps f below x a.0 a.1 v kept f.stage
  begins_keep h (Granted ks) x (f ∷ below) a kept = grant_keeps f below x a.0 a.1 ks f.stage
  begins_keep h (Made k) x (f ∷ below) a kept = made_keeps (record f { values = told k f.values }) below x a.0 a.1 h f.stage

pub turns_keep_versions : TurnsKeepVersions
turns_keep_versions s h x a = turn_keeps s h x x.stack a a

pub jobs_keep_versions : JobsKeepVersions
jobs_keep_versions s h j x a = begins_keep s h j x x.stack a a
