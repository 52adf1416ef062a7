-- What a region asks where a routine is entered, at a visible step and where a request is taken is what the machine asks there.
use Rattle.std.proofs.Common.{◌≡◌, ◌||◌, ◌&&◌, ◌==◌, ◌+◌, ◌++◌, not, ℕ, Bool, true, false, List, [], ◌∷◌, Option, Some, None, length, refl, sym, ap, subst, ◌∙◌}
use Rattle.std.specs.Prelude.{nat_lt, if◌then◌else◌}
use Rattle.std.specs.Option.{option_map}
use Rattle.sc_tree.specs.Plain as tree
use Rattle.sc_tree.specs.Plain.{System, FeatureKind}
use Rattle.sc_class.specs.Tables.Features.{DeclaredFeature}
use Rattle.sc_rules.specs.declared.entity_types.entity_type.EntityType.{EntityType}
use Rattle.sc_rules.specs.Types.{declared_type}
use Rattle.sc_lockpass.specs.declared.wait_conditions.condition.EntryVerdict.{EntryVerdict}
use Rattle.sc_lockpass.specs.declared.wait_conditions.condition.EntryVerdict.TheVariants as verdict
use Rattle.sc_lockpass.specs.declared.wait_conditions.mark.Marked.{Marked}
use Rattle.sc_lockpass.specs.declared.wait_conditions.session.Release.TheVariants as release_at
use Rattle.sc_model.specs.declared.cause.Cause.{Cause}
use Rattle.sc_model.specs.declared.cause.Cause.TheVariants as cause
use Rattle.sc_model.specs.Limits.{max_frames}
use Rattle.sc_model.specs.Values.{Reference, Value, Operand, values_of}
use Rattle.sc_model.specs.Environments.{Binding, binding_named, formals_bound, separate_formals}
use Rattle.sc_model.specs.Objects.{Object, object_numbered, fresh_object}
use Rattle.sc_model.specs.Invariants.{meets_invariant}
use Rattle.sc_model.specs.Routines.{Routine, version_of, routine_named, routine_of}
use Rattle.sc_model.specs.Entries.{entry}
use Rattle.sc_model.specs.Exits as exits_at
use Rattle.sc_model.specs.Exits.{is_unset, is_unset_value, is_untested}
use Rattle.sc_model.specs.Preconditions as preconditions
use Rattle.sc_model.specs.Preconditions.{verdict_on, is_creation, object_meets, counted_refusal}
use Rattle.sc_model.specs.Sessions.{release}
use Rattle.sc_model.specs.Answers.{finish}
use Rattle.sc_model.specs.Failures.{fail, fails_with}
use Rattle.sc_model.specs.Steps.{Act, Prints, Until, Creates, CreatesHandler, Enters, Requests, Starts, Refuses, Opens, Leaves, Exits, Fails}
use Rattle.sc_model.specs.Takes as takes_at
use Rattle.sc_model.specs.Turns.{effect}
use Rattle.sc_model.specs.Handlers as machine
use Rattle.sc_model.specs.Handlers.{Errand, Calls, Makes, Request, Reply, Refused, Origin, Called, Requested, Frame, Handler, World}
use Rattle.sc_region.specs.declared.job.Want.{Want}
use Rattle.sc_region.specs.declared.job.Want.TheVariants as want
use Rattle.sc_handler.specs.Handlers as core
use Rattle.sc_request.specs.Asked.{Numbering, asks_acting, asks_after, asks_beginning, asks_bound, asks_calling, asks_done, asks_entering, asks_errand, asks_exiting, asks_leaving, asks_refusing, asks_replying, asks_returning, asks_version}
use Rattle.sc_refines_world.specs.regions.RegionTurns as region
use Rattle.sc_refines_world.specs.regions.RegionTurns.{Half, settles}
use Rattle.sc_refines_world.specs.regions.RegionHalves.{unpassed, AreHalvesOf}
use Rattle.sc_refines_world.specs.regions.RegionSteps.{unless_failed}
use Rattle.sc_refines_world.proofs.regions.Alike.{own}
use Rattle.sc_refines_world.proofs.regions.Halves.{half_at, view}
use Rattle.sc_refines_world.proofs.regions.SettledObjects.{Meets}
use Rattle.sc_refines_world.proofs.regions.VisibleSteps as acting
use Rattle.sc_refines_world.proofs.regions.RegionRequests as taking
use Rattle.sc_refines_world.proofs.regions.RegionRequests.{unpassed_request}

-- ---- a routine is entered

bound_wants : (me : Reference) (r : Routine) (o : Origin) (gs : List Frame) (bound : Option (List Binding)) (x : Half) → x.failure ≡ None →
    unless_failed (region.enters_bound me r o gs bound x).failure (asks_bound bound (length gs)) ≡ asks_bound bound (length gs)
bound_wants me r o gs None x lives = refl
bound_wants me r o gs (Some bs) x lives = by (nat_lt (length gs) max_frames)
  where
    by : (b : Bool) →
        unless_failed (if b then region.with_stack (entry me r o bs ∷ gs) x else region.failed cause.StackFull x).failure
        (if b then asks_beginning (separate_formals bs) else want.Fail cause.StackFull)
        ≡ (if b then asks_beginning (separate_formals bs) else want.Fail cause.StackFull)
    by true = ap (λ (c : Option Cause). unless_failed c (asks_beginning (separate_formals bs))) lives
    by false = refl

enters_wants : (s : System) (me : Reference) (r : Option Routine) (o : Origin) (gs : List Frame) (vs : List Value) (x : Half) → x.failure ≡ None →
    unless_failed (region.enters s me r o gs vs x).failure (asks_entering s r vs (length gs)) ≡ asks_entering s r vs (length gs)
enters_wants s me None o gs vs x lives = refl
enters_wants s me (Some r) o gs vs x lives = bound_wants me r o gs (formals_bound s r.text.formals 0 r.text.formals vs) x lives

-- ---- visible steps

module _ (n : Numbering) (most : ℕ) (s : System) (h : ℕ) (w : World) (f : Frame) (m : List Marked) (below under : List Frame)
    (stack : (w.handlers h).stack ≡ f ∷ below) (stands : (w.handlers h).failure ≡ None) (is : f.stage ≡ machine.Runs)
    (halves : AreHalvesOf h core.Runs below under) where
  abbrev x : Half
  x = half_at (w.handlers h) (view f m ∷ under)

  abbrev objects : List Object
  objects = (w.handlers h).objects

  -- the object of the frame meets its invariant
  abbrev tested : Bool
  tested = object_meets s (object_numbered f.current.number objects)

  refuses_wants : (r : Request) → Meets s ((preconditions.refuses s h r f below w).handlers h) →
      unless_failed (region.refuses s (record r { passed = None }) (view f m) under x).failure (asks_refusing s (Requested (record r { passed = None })) (view f m) objects)
      ≡ asks_refusing s (Requested r) f objects
  refuses_wants r = by (is_creation r.errand) tested
    where
      by : (a b : Bool) →
          Meets s ((if a && not b then fail h cause.Invariant w
          else finish r Refused (release release_at.Refusal f.reserved (machine.put h (counted_refusal r.is_waited (record (w.handlers h) { stack = below })) w))).handlers h) →
          unless_failed (if a && not b then region.failed cause.Invariant x else region.leaves s (view f m) under x).failure
          (if a then (if b then want.Done None (record { items = f.reserved }) true else want.Fail cause.Invariant) else want.Done None (record { items = f.reserved }) true)
          ≡ (if a then (if b then want.Done None (record { items = f.reserved }) true else want.Fail cause.Invariant) else want.Done None (record { items = f.reserved }) true)
      by true true meets =
          ap (λ (z : Half). unless_failed z.failure (want.Done None (record { items = f.reserved }) true)) (acting.refused_none most s h w f m below under stack stands is halves r meets)
      by true false meets = refl
      by false b meets =
          ap (λ (z : Half). unless_failed z.failure (want.Done None (record { items = f.reserved }) true)) (acting.refused_none most s h w f m below under stack stands is halves r meets)

  correctness_wants : (o : Origin) → Meets s ((preconditions.correctness_fails s h o f below w).handlers h) →
      unless_failed (region.correctness_fails s (unpassed o) (view f m) under x).failure (asks_refusing s (unpassed o) (view f m) objects) ≡ asks_refusing s o f objects
  correctness_wants (Called c) meets = refl
  correctness_wants (Requested r) meets = refuses_wants r meets

  clause_wants : (v : EntryVerdict) → Meets s ((preconditions.false_clause v s h f below w).handlers h) →
      unless_failed (region.false_clause v s (view f m) under x).failure (asks_after v s (view f m) objects) ≡ asks_after v s f objects
  clause_wants verdict.Wait meets = refl
  clause_wants verdict.Refuse meets = correctness_wants f.origin meets
  clause_wants verdict.Start meets = refl

  leaves_wants : (blocks : List (List ℕ)) → unless_failed (region.leaves_block blocks (view f m) under x).failure (asks_leaving blocks) ≡ asks_leaving blocks
  leaves_wants [] = refl
  leaves_wants (ks ∷ kss) = refl

  left_wants : (o : Origin) (v : Option Value) → Meets s ((exits_at.leaves_to h o f.reserved v below w).handlers h) →
      unless_failed (region.hands (unpassed o) v (region.leaves s (view f m) under x)).failure (asks_returning (unpassed o) (view f m)) ≡ asks_returning o f
  left_wants (Called c) v meets =
      ap (λ (z : Half). unless_failed (region.hands (Called c) v z).failure (asks_returning (Called c) f))
      (acting.left_none most s h w f m below under stack stands is halves (Called c) v meets)
  left_wants (Requested r) v meets =
      ap (λ (z : Half). unless_failed z.failure (asks_returning (Requested r) f))
      (acting.left_none most s h w f m below under stack stands is halves (Requested r) v meets)

  abbrev given : Option Value
  given = option_map (λ (u : Operand). u.value) f.result

  same_untested : (o : Origin) → is_untested o ≡ is_untested (unpassed o)
  same_untested (Called c) = refl
  same_untested (Requested r) = refl

  exits_wants : Meets s ((exits_at.exits s h f below w).handlers h) →
      unless_failed (region.exits s (view f m) under x).failure (asks_exiting s (view f m) objects) ≡ asks_exiting s f objects
  exits_wants =
      by (is_unset f.result) (is_untested f.origin || tested) (is_untested (unpassed f.origin) || tested) (ap (λ (b : Bool). b || tested) (same_untested f.origin))
    where
      by : (a b c : Bool) → b ≡ c →
          Meets s ((if a then fail h cause.UnsetEntity w else if b then exits_at.leaves_to h f.origin f.reserved given below w else fail h cause.Invariant w).handlers h) →
          unless_failed
          (if a then region.failed cause.UnsetEntity x
          else if c then region.hands (unpassed f.origin) given (region.leaves s (view f m) under x)
          else region.failed cause.Invariant x).failure
          (if a then want.Fail cause.UnsetEntity else if c then asks_returning (unpassed f.origin) (view f m) else want.Fail cause.Invariant)
          ≡ (if a then want.Fail cause.UnsetEntity else if b then asks_returning f.origin f else want.Fail cause.Invariant)
      by true b c e meets = refl
      by false true true e meets = left_wants f.origin given meets
      by false false false e meets = refl
      by false true false e meets = cc
      by false false true e meets = cc

  pub acts_wants : (a : Act) → Meets s ((effect most s h a f below w).handlers h) →
      unless_failed (region.acts s h a (view f m) under x).failure (asks_acting n s h a (view f m) (length (view f m ∷ under)) objects)
      ≡ asks_acting n s h a f (length (view f m ∷ under)) objects
  acts_wants (Prints text) meets = refl
  acts_wants Until meets = refl
  acts_wants Creates meets = refl
  acts_wants Starts meets = refl
  acts_wants (CreatesHandler class procedure us t passing) meets = refl
  acts_wants (Enters c me name us gives) meets =
      enters_wants s me (routine_named s me.class name) (Called c) (record (view f m) { stage = machine.InCall gives } ∷ under) (values_of us) x refl
  acts_wants (Requests r name us gives passing) meets = refl
  acts_wants (Refuses k) meets = clause_wants (verdict_on f k) meets
  acts_wants Opens meets = refl
  acts_wants Leaves meets = leaves_wants f.blocks
  acts_wants Exits meets = exits_wants meets
  acts_wants (Fails why) meets = refl

-- ---- requests

module _ (s : System) (h : ℕ) (r : Request) (fs gs : List Frame) (halves : AreHalvesOf h core.Runs fs gs) where
  abbrev q : Request
  q = unpassed_request r

  replies_want : (t : Option EntityType) (b : Option Binding) (x : Half) → x.failure ≡ None →
      unless_failed (region.replies t b x).failure (asks_replying t b) ≡ asks_replying t b
  replies_want (Some t) (Some b) x lives = by (is_unset_value b.value t)
    where
      by : (c : Bool) → unless_failed (if c then region.failed cause.UnsetEntity x else x).failure (if c then want.Fail cause.UnsetEntity else asks_done (Some b.value) [] false)
          ≡ (if c then want.Fail cause.UnsetEntity else asks_done (Some b.value) [] false)
      by true = refl
      by false = ap (λ (c : Option Cause). unless_failed c (asks_done (Some b.value) [] false)) lives
  replies_want (Some t) None x lives = refl
  replies_want None b x lives = refl

  kind_wants : (name : List ℕ) (o : Object) (f : DeclaredFeature) (k : FeatureKind) (x : Half) → x.failure ≡ None → x.stack ≡ gs →
      unless_failed (region.takes_kind s q name o f k x).failure (asks_calling s r name (length gs) o f k) ≡ asks_calling s r name (length gs) o f k
  kind_wants name o f (tree.Attribute d) x lives is = replies_want (declared_type s [] d) (binding_named name o.attributes) x lives
  kind_wants name o f (tree.Routine c) x lives is =
      subst (λ (is' : List Frame). unless_failed (region.enters s r.target (routine_of s f) (Requested q) is' r.actuals x).failure (asks_entering s (routine_of s f) r.actuals (length gs))
      ≡ asks_entering s (routine_of s f) r.actuals (length gs)) (sym is)
      (enters_wants s r.target (routine_of s f) (Requested q) gs r.actuals x lives)

  version_wants : (name : List ℕ) (o : Option Object) (f : Option DeclaredFeature) (x : Half) → x.failure ≡ None → x.stack ≡ gs →
      unless_failed (region.takes_version s q name o f x).failure (asks_version s r name (length gs) o f) ≡ asks_version s r name (length gs) o f
  version_wants name (Some o) (Some f) x lives is = kind_wants name o f f.feature.kind x lives is
  version_wants name (Some o) None x lives is = refl
  version_wants name None f x lives is = refl

  -- what was passed with it changes nothing
  same_version : (name : List ℕ) (o : Option Object) (f : Option DeclaredFeature) → asks_version s q name (length gs) o f ≡ asks_version s r name (length gs) o f
  same_version name (Some o) (Some f) = by f.feature.kind
    where
      by : (k : FeatureKind) → asks_calling s q name (length gs) o f k ≡ asks_calling s r name (length gs) o f k
      by (tree.Attribute d) = refl
      by (tree.Routine c) = refl
  same_version name (Some o) None = refl
  same_version name None f = refl

  same_creation : (k : Option (List ℕ)) (os : List Object) → asks_errand s h q (Makes k) (length gs) os ≡ asks_errand s h r (Makes k) (length gs) os
  same_creation (Some name) os = refl
  same_creation None os = refl

  any_objects : (k : Option (List ℕ)) (os ps : List Object) → asks_errand s h r (Makes k) (length gs) os ≡ asks_errand s h r (Makes k) (length gs) ps
  any_objects (Some name) os ps = refl
  any_objects None os ps = refl

  -- the new object is there
  creation_wants : (w : World) (number : ℕ) (k : Option (List ℕ)) → taking.IsTaking s h r fs gs halves w → Meets s ((takes_at.takes_creation s h r k fs w).handlers h) →
      unless_failed (settles s number (region.takes_creation s q k (half_at (w.handlers h) gs))).failure (asks_errand s h r (Makes k) (length gs) (w.handlers h).objects)
      ≡ asks_errand s h r (Makes k) (length gs) (w.handlers h).objects
  creation_wants w number (Some name) is meets =
      ap (λ (z : Half). unless_failed z.failure (asks_errand s h r (Makes (Some name)) (length gs) (w.handlers h).objects))
      (taking.procedure_settles s h r fs gs halves w number name is meets)
      ∙ enters_wants s r.target (routine_named s r.target.class name) (Requested q) gs r.actuals (half_at (w.handlers h) gs) refl
  creation_wants w number None is meets = by (meets_invariant s (fresh_object s r.target.class)) meets
    where
      either : (c : Bool) → unless_failed (if c then region.failed cause.Invariant (half_at (w.handlers h) gs) else half_at (w.handlers h) gs).failure (want.Fail cause.Invariant) ≡ want.Fail cause.Invariant
      either true = refl
      either false = refl

      by : (c : Bool) → Meets s ((if c then finish r (Reply None) w else fails_with h cause.Invariant (r ∷ []) w).handlers h) →
          unless_failed (settles s number (half_at (w.handlers h) gs)).failure (if c then asks_done None [] false else want.Fail cause.Invariant)
          ≡ (if c then asks_done None [] false else want.Fail cause.Invariant)
      by true m = ap (λ (z : Half). unless_failed z.failure (asks_done None [] false)) (taking.default_settles s h r fs gs halves w number is m)
      by false m = either _

  errand_wants : (w : World) (e : Errand) → taking.IsTaking s h r fs gs halves w → Meets s ((takes_at.takes_errand s h r e fs w).handlers h) →
      unless_failed (region.takes_errand s h q e (half_at (w.handlers h) gs)).failure (asks_errand s h q e (length gs) (w.handlers h).objects)
      ≡ asks_errand s h r e (length gs) (w.handlers h).objects
  errand_wants w (Calls name) is meets = by (r.target.handler == h)
    where
      by : (c : Bool) →
          unless_failed
          (if c then region.takes_version s q name (object_numbered r.target.number (w.handlers h).objects) (version_of s r.target.class name) (half_at (w.handlers h) gs)
          else region.failed cause.ForeignObject (half_at (w.handlers h) gs)).failure
          (if c then asks_version s q name (length gs) (object_numbered r.target.number (w.handlers h).objects) (version_of s r.target.class name) else want.Fail cause.ForeignObject)
          ≡ (if c then asks_version s r name (length gs) (object_numbered r.target.number (w.handlers h).objects) (version_of s r.target.class name) else want.Fail cause.ForeignObject)
      by true =
          ap (λ (a : Want). unless_failed
          (region.takes_version s q name (object_numbered r.target.number (w.handlers h).objects) (version_of s r.target.class name) (half_at (w.handlers h) gs)).failure a)
          (same_version name (object_numbered r.target.number (w.handlers h).objects) (version_of s r.target.class name))
          ∙ version_wants name (object_numbered r.target.number (w.handlers h).objects) (version_of s r.target.class name) (half_at (w.handlers h) gs) refl refl
      by false = refl
  errand_wants w (Makes k) is meets =
      let y = w.handlers h in
      let z = record y { objects = y.objects ++ fresh_object s r.target.class ∷ [] } in
      let w1 = takes_at.with_new_object s h r.target.class w in
      let same : w1.handlers h ≡ z = own h z w in
      let taking1 : taking.IsTaking s h r fs gs halves w1 = record {
        stack = ap (λ (u : Handler). u.stack) same ∙ is.stack;
        stands = ap (λ (u : Handler). u.failure) same ∙ is.stands;
      } in
      ap (λ (a : Want). unless_failed (settles s (length y.objects + 1) (region.takes_creation s q k (half_at z gs))).failure a) (same_creation k y.objects)
      ∙ subst (λ (u : Handler). unless_failed (settles s (length y.objects + 1) (region.takes_creation s q k (half_at u gs))).failure (asks_errand s h r (Makes k) (length gs) y.objects)
      ≡ asks_errand s h r (Makes k) (length gs) y.objects) same
      (subst (λ (a : Want). unless_failed (settles s (length y.objects + 1) (region.takes_creation s q k (half_at (w1.handlers h) gs))).failure a ≡ a)
      (any_objects k (w1.handlers h).objects y.objects) (creation_wants w1 (length y.objects + 1) k taking1 meets))

  pub takes_want : (w : World) (y : Handler) → w.handlers h ≡ y → y.stack ≡ fs → y.failure ≡ None → Meets s ((takes_at.takes s h r fs w).handlers h) →
      unless_failed (region.takes s h q (half_at y gs)).failure (asks_errand s h q q.errand (length gs) y.objects)
      ≡ asks_errand s h r r.errand (length gs) y.objects
  takes_want w y same stack stands meets =
      let is : taking.IsTaking s h r fs gs halves w = record { stack = ap (λ (u : Handler). u.stack) same ∙ stack; stands = ap (λ (u : Handler). u.failure) same ∙ stands } in
      subst (λ (u : Handler). unless_failed (region.takes s h q (half_at u gs)).failure (asks_errand s h q q.errand (length gs) u.objects)
      ≡ asks_errand s h r r.errand (length gs) u.objects) same (errand_wants w r.errand is meets)
