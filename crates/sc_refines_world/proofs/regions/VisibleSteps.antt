-- Visible steps: the region's half stays that of the machine.
use Rattle.std.proofs.Common.{◌≡◌, inl, inr, ◌&&◌, ◌||◌, not, ℕ, Bool, true, false, List, [], ◌∷◌, ◌++◌, Option, Some, None, length, refl, sym, ap, subst}
use Rattle.std.proofs.lemmas.Bool.{ne_eqb}
use Rattle.std.specs.Prelude.{is_some, nat_lt, if◌then◌else◌}
use Rattle.std.specs.Option.{option_map}
use Rattle.sc_tree.specs.Plain.{System}
use Rattle.sc_rules.specs.declared.entity_types.entity_type.EntityType.{EntityType}
use Rattle.sc_lockpass.specs.Rights.{held}
use Rattle.sc_lockpass.specs.declared.wait_conditions.condition.EntryVerdict.{EntryVerdict}
use Rattle.sc_lockpass.specs.declared.wait_conditions.condition.EntryVerdict.TheVariants as verdict
use Rattle.sc_lockpass.specs.declared.wait_conditions.mark.Marked.{Marked}
use Rattle.sc_lockpass.specs.declared.wait_conditions.session.Release.TheVariants as release_at
use Rattle.sc_lockpass.specs.wait_conditions.Reservations.{mark_of}
use Rattle.sc_model.specs.declared.cause.Cause.{Cause}
use Rattle.sc_model.specs.declared.cause.Cause.TheVariants as cause
use Rattle.sc_model.specs.Limits.{max_queue}
use Rattle.sc_model.specs.Values.{Reference, Value, Attached, Operand, operand, values_of}
use Rattle.sc_model.specs.Objects.{object_numbered}
use Rattle.sc_model.specs.Routines.{routine_named}
use Rattle.sc_model.specs.Tasks.{tasks_of}
use Rattle.sc_model.specs.Steps.{Act, Prints, Until, Creates, CreatesHandler, Enters, Requests, Starts, Refuses, Opens, Leaves, Exits, Fails}
use Rattle.sc_model.specs.Handlers as machine
use Rattle.sc_model.specs.Handlers.{Calls, Makes, Request, Reply, Refused, Origin, Called, Requested, Stage, Runs, Reserves, ReservesBlock, InCall, Awaits, Frame, Handler, World, new_handler}
use Rattle.sc_model.specs.Sessions.{release}
use Rattle.sc_model.specs.Answers.{finish}
use Rattle.sc_model.specs.Failures.{fail}
use Rattle.sc_model.specs.Asking as asking
use Rattle.sc_model.specs.Asking.{awaits_if}
use Rattle.sc_model.specs.Preconditions as preconditions
use Rattle.sc_model.specs.Preconditions.{verdict_on, is_creation, object_meets, counted_refusal}
use Rattle.sc_model.specs.Exits as exits_at
use Rattle.sc_model.specs.Exits.{is_unset, is_untested, handed, handed_as, handed_at}
use Rattle.sc_model.specs.Turns.{effect}
use Rattle.sc_handler.specs.Handlers as core
use Rattle.sc_refines_world.specs.regions.RegionTurns as region
use Rattle.sc_refines_world.specs.regions.RegionTurns.{Half, failed}
use Rattle.sc_refines_world.specs.regions.RegionHalves.{unpassed, IsStageFor, IsToldOf, IsHalfOfFrame, AreHalvesOf, IsRegionHalf}
use Rattle.sc_refines_world.proofs.regions.Alike.{IsAlike, alike, alike_then, own, release_alike, send_alike, passes_alike, finish_alike, counted_alike}
use Rattle.sc_refines_world.proofs.regions.Halves.{by_test, half_alike, stands_on, stack_half, put_half, released_half, fail_both, fails_alone, half_at, view, view_half, runs_own}
use Rattle.sc_refines_world.proofs.regions.SettledObjects.{Meets, meets_alike, AreOnSame, halves_same, handed_same, leaves_none}
use Rattle.sc_refines_world.proofs.regions.RegionEntries.{enters_full}

-- ---- frames

-- a frame that is handed a value
pub handed_half : (h : ℕ) (t : core.HandlerStage) (gives : Option EntityType) (v : Option Value) (f g : Frame) → IsHalfOfFrame h t f g → f.values ≡ g.values →
    IsHalfOfFrame h core.Runs (handed_as gives v f) (handed_as gives v g)
handed_half h t (Some a) (Some v) f g e same = record {
  same = λ i. record (e.same i) { stage = Runs; values = operand v a ∷ f.values };
  origin = e.origin;
  stands = refl;
  values = ap (λ (us : List Operand). operand v a ∷ us) same;
}
handed_half h t (Some a) None f g e same = record { same = λ i. record (e.same i) { stage = Runs }; origin = e.origin; stands = refl; values = same }
handed_half h t None v f g e same = record { same = λ i. record (e.same i) { stage = Runs }; origin = e.origin; stands = refl; values = same }

handed_by : (h : ℕ) (v : Option Value) (f g : Frame) (a b : Stage) → IsHalfOfFrame h core.Runs f g → f.stage ≡ a → IsStageFor h a b →
    IsHalfOfFrame h core.Runs (handed_at a v f) (handed_at b v g)
handed_by h v f g Runs b e is stands = subst (λ (st : Stage). IsHalfOfFrame h core.Runs f (handed_at st v g)) (sym stands) e
handed_by h v f g Reserves b e is stands = subst (λ (st : Stage). IsHalfOfFrame h core.Runs f (handed_at st v g)) (sym stands) e
handed_by h v f g ReservesBlock b e is stands = subst (λ (st : Stage). IsHalfOfFrame h core.Runs f (handed_at st v g)) (sym stands) e
handed_by h v f g (InCall gives) b e is stands =
    subst (λ (st : Stage). IsHalfOfFrame h core.Runs (handed_as gives v f) (handed_at st v g)) (sym stands)
    (handed_half h core.Runs gives v f g e (subst (λ (st : Stage). IsToldOf st core.Runs f.values g.values) is e.values))
handed_by h v f g (Awaits k gives true) b e is stands = subst (λ (st : Stage). IsHalfOfFrame h core.Runs f (handed_at st v g)) (sym stands) e
handed_by h v f g (Awaits k gives false) b e is (inl stands) = subst (λ (st : Stage). IsHalfOfFrame h core.Runs f (handed_at st v g)) (sym stands) e
handed_by h v f g (Awaits k gives false) b e is (inr stands) = subst (λ (st : Stage). IsHalfOfFrame h core.Runs f (handed_at st v g)) (sym stands.1) e

handed_halves : (h : ℕ) (v : Option Value) (fs gs : List Frame) → AreHalvesOf h core.Runs fs gs → AreHalvesOf h core.Runs (handed v fs) (handed v gs)
handed_halves h v [] [] e = e
handed_halves h v [] (g ∷ gs) e = absurd e
handed_halves h v (f ∷ fs) [] e = absurd e
handed_halves h v (f ∷ fs) (g ∷ gs) e = (handed_by h v f g f.stage g.stage e.0 refl e.0.stands, e.1)

-- The frame that asks waits, or it goes on; that it waits for a callback that it posted the core alone knows.
awaits_half : (h k : ℕ) (f : Frame) (m : List Marked) (passing : Bool) (gives : Option EntityType) (called : Bool) → f.stage ≡ Runs →
    IsHalfOfFrame h core.Runs (awaits_if (passing || is_some gives || called) k gives false f) (awaits_if (passing || is_some gives) k gives false (view f m))
awaits_half h k f m true gives called is = view_half h (record f { stage = Awaits k gives false }) m tt
awaits_half h k f m false (Some t) called is = view_half h (record f { stage = Awaits k (Some t) false }) m tt
awaits_half h k f m false None true is = record { same = refl; origin = refl; stands = inr (refl, is); values = refl }
awaits_half h k f m false None false is = view_half h f m (runs_own f is)

-- how the creator of a handler stands in the core
abbrev pub made_stage : Bool → ℕ → core.HandlerStage
made_stage true k = core.Runs
made_stage false k = core.HasMade k

-- the creator is still to be told the number of the handler
creator_half : (h k class : ℕ) (f : Frame) (m : List Marked) (t : EntityType) (passing : Bool) → f.stage ≡ Runs →
    IsHalfOfFrame h (made_stage passing k)
    (awaits_if passing k None true (record f { values = operand (Attached (record { handler = k; number = 1; class = class })) t ∷ f.values }))
    (awaits_if passing h None true (record (view f m) { values = operand (Attached (record { handler = h; number = 1; class = class })) t ∷ f.values }))
creator_half h k class f m t true is = record { same = refl; origin = refl; stands = refl; values = refl }
creator_half h k class f m t false is = record {
  same = refl;
  origin = refl;
  stands = subst (λ (st : Stage). IsStageFor h st f.stage) (sym is) is;
  values = subst (λ (st : Stage).
      IsToldOf st (core.HasMade k) (operand (Attached (record { handler = k; number = 1; class = class })) t ∷ f.values)
      (operand (Attached (record { handler = h; number = 1; class = class })) t ∷ f.values))
      (sym is) refl;
}

-- ---- steps

same_untested : (o : Origin) → is_untested o ≡ is_untested (unpassed o)
same_untested (Called c) = refl
same_untested (Requested r) = refl

-- a step that isn't the creation of a handler whose creator goes on
abbrev pub IsPlainAct : Act → Type 0
IsPlainAct (CreatesHandler class procedure us t false) = ⊥
IsPlainAct act = Unit {0}

module _ (most : ℕ) (s : System) (h : ℕ) (w : World) (f : Frame) (m : List Marked) (below under : List Frame) (stack : (w.handlers h).stack ≡ f ∷ below)
    (stands : (w.handlers h).failure ≡ None) (is : f.stage ≡ Runs) (halves : AreHalvesOf h core.Runs below under) where
  abbrev pub x : Half
  x = half_at (w.handlers h) (view f m ∷ under)

  -- what the machine makes of the handler has this half
  abbrev IsHalf : World → Half → Type 0
  IsHalf v z = IsRegionHalf h (v.handlers h) core.Runs z

  pub unchanged : IsHalf w x
  unchanged =
      stands_on h core.Runs (w.handlers h) x refl refl refl
      (subst (λ (fs : List Frame). AreHalvesOf h core.Runs fs (view f m ∷ under)) (sym stack) (view_half h f m (runs_own f is), halves))

  fails : (why : Cause) → IsHalf (fail h why w) (failed why x)
  fails why = fail_both h core.Runs why [] w x refl refl

  -- the region's frames are these
  restacked : (fs gs : List Frame) → AreHalvesOf h core.Runs fs gs → IsHalf (machine.with_stack h fs w) (region.with_stack gs x)
  restacked fs gs e = stack_half h core.Runs fs w (region.with_stack gs x) refl refl refl e

  prints : (text : List ℕ) → IsHalf (effect most s h (Prints text) f below w) (region.acts s h (Prints text) (view f m) under x)
  prints text =
      put_half h core.Runs (record (w.handlers h) { output = (w.handlers h).output ++ text }) w (record x { output = x.output ++ text })
      (stands_on h core.Runs (record (w.handlers h) { output = (w.handlers h).output ++ text }) (record x { output = x.output ++ text }) refl refl refl
      (subst (λ (fs : List Frame). AreHalvesOf h core.Runs fs (view f m ∷ under)) (sym stack) (view_half h f m (runs_own f is), halves)))

  -- ---- requests and creations

  asks : (r : Reference) (name : List ℕ) (us : List Operand) (gives : Option EntityType) (passing : Bool) →
      IsHalf (asking.asks h r name us gives passing (passing || is_some gives || asking.is_callback h r.handler w) f below w)
      (region.with_stack (awaits_if (passing || is_some gives) r.handler gives false (view f m) ∷ under) x)
  asks r name us gives passing =
      let called = asking.is_callback h r.handler w in
      let waits = passing || is_some gives || called in
      let w1 = machine.with_stack h (awaits_if waits r.handler gives false f ∷ below) w in
      let q = asking.request_by h r (Calls name) us waits passing w in
      let w2 = asking.send called r.handler q w1 in
      half_alike h core.Runs (w1.handlers h) _ _ (alike_then (send_alike called r.handler q w1 h) (passes_alike passing h r.handler w2 h))
      (restacked _ _ (awaits_half h r.handler f m passing gives called is, halves))

  -- the core finds a failure
  alone : (why : Cause) (gs : List Frame) → IsHalf (fail h why w) (region.with_stack gs x)
  alone why gs = fails_alone h core.Runs why [] w (region.with_stack gs x) refl refl refl

  requests : (r : Reference) (name : List ℕ) (us : List Operand) (gives : Option EntityType) (passing : Bool) →
      IsHalf (effect most s h (Requests r name us gives passing) f below w) (region.acts s h (Requests r name us gives passing) (view f m) under x)
  requests r name us gives passing =
      let gs = awaits_if (passing || is_some gives) r.handler gives false (view f m) ∷ under in
      let P : World → Type 0 = λ v. IsHalf v (region.with_stack gs x) in
      by_test P (not (held w.rights h r.handler)) (fail h cause.NotHeld w) _ (λ e. alone cause.NotHeld gs)
      (λ e. by_test P (is_some (w.handlers r.handler).failure) (fail h cause.SupplierFailed w) _ (λ e. alone cause.SupplierFailed gs)
      (λ e. by_test P (not (asking.is_callback h r.handler w) && not (nat_lt (length (w.handlers r.handler).queue) max_queue)) (fail h cause.QueueFull w) _
      (λ e. alone cause.QueueFull gs) (λ e. asks r name us gives passing)))

  -- a handler is created; the creator stands so in the core
  pub creates : (class : ℕ) (procedure : Option (List ℕ)) (us : List Operand) (t : EntityType) (passing : Bool) → (h ≡ w.count → ⊥) →
      IsRegionHalf h ((effect most s h (CreatesHandler class procedure us t passing) f below w).handlers h) (made_stage passing w.count)
      (region.acts s h (CreatesHandler class procedure us t passing) (view f m) under x)
  creates class procedure us t passing apart =
      let k = w.count in
      let r : Reference = record { handler = k; number = 1; class = class } in
      let g = record f { values = operand (Attached r) t ∷ f.values } in
      let w1 = asking.with_handler k h w in
      let w2 = machine.with_stack h (awaits_if passing k None true g ∷ below) w1 in
      let q = asking.request_by h r (Makes procedure) us passing passing w1 in
      let w3 = asking.send false k q w2 in
      let z = region.creates_handler h class t passing (view f m) under x in
      let same : w1.handlers h ≡ w.handlers h = ap (λ (b : Bool). if b then new_handler else w.handlers h) (ne_eqb h k apart) in
      let first : IsRegionHalf h (w2.handlers h) (made_stage passing k) z =
      stack_half h (made_stage passing k) (awaits_if passing k None true g ∷ below) w1 z (sym (ap (λ (y : Handler). y.objects) same))
      (sym (ap (λ (y : Handler). y.output) same)) refl (creator_half h k class f m t passing is, halves) in
      by_test (λ (v : World). IsRegionHalf h (v.handlers h) (made_stage passing k) z) (nat_lt k most) _ (fail h cause.TooManyHandlers w)
      (λ e. half_alike h (made_stage passing k) (w2.handlers h) _ z (alike_then (send_alike false k q w2 h) (released passing k w3)) first)
      (λ e. fails_alone h (made_stage passing k) cause.TooManyHandlers [] w z refl refl refl)
    where
      released : (b : Bool) (k : ℕ) (v : World) → IsAlike (v.handlers h) ((asking.passes_or_releases b h k v).handlers h)
      released true k v = passes_alike true h k v h
      released false k v = release_alike release_at.Creation (k ∷ []) v h

  -- ---- clauses that are false

  waits : IsHalf (preconditions.waits_again h f below w) (region.waits_again (view f m) under x)
  waits =
      let g = record f { stage = Reserves; tasks = tasks_of f.routine; values = []; reserved = []; mark = mark_of (λ k. (w.handlers k).sessions) f.reserved } in
      released_half h core.Runs release_at.FalseWaitCondition f.reserved (machine.with_stack h (g ∷ below) w) _
      (restacked (g ∷ below) _ (view_half h g m tt, halves))

  -- the handler whose request was refused
  abbrev refused_world : Request → World
  refused_world r =
      finish r Refused (release release_at.Refusal f.reserved (machine.put h (counted_refusal r.is_waited (record (w.handlers h) { stack = below })) w))

  refused_alike : (r : Request) → IsAlike (record (w.handlers h) { stack = below }) ((refused_world r).handlers h)
  refused_alike r =
      let y = record (w.handlers h) { stack = below } in
      let w1 = machine.put h (counted_refusal r.is_waited y) w in
      let w2 = release release_at.Refusal f.reserved w1 in
      alike_then (subst (λ (z : Handler). IsAlike y z) (sym (own h (counted_refusal r.is_waited y) w)) (counted_alike r.is_waited y))
      (alike_then (release_alike release_at.Refusal f.reserved w1 h) (finish_alike r Refused w2 h))

  -- no object breaks its invariant as the frame goes
  pub refused_none : (r : Request) → Meets s ((refused_world r).handlers h) → region.leaves s (view f m) under x ≡ half_at (w.handlers h) under
  refused_none r meets =
      leaves_none s f.current.number (w.handlers h) below under (view f m ∷ under)
      (meets_alike s (record (w.handlers h) { stack = below }) _ (refused_alike r) meets) stands (halves_same h core.Runs below under halves)

  refuses : (r : Request) → Meets s ((preconditions.refuses s h r f below w).handlers h) →
      IsHalf (preconditions.refuses s h r f below w) (region.refuses s (record r { passed = None }) (view f m) under x)
  refuses r = by (is_creation r.errand && not (object_meets s (object_numbered f.current.number (w.handlers h).objects)))
    where
      by : (b : Bool) → Meets s ((if b then fail h cause.Invariant w else refused_world r).handlers h) →
          IsHalf (if b then fail h cause.Invariant w else refused_world r) (if b then failed cause.Invariant x else region.leaves s (view f m) under x)
      by true meets = fails cause.Invariant
      by false meets =
          subst (λ (z : Half). IsHalf (refused_world r) z) (sym (refused_none r meets))
          (half_alike h core.Runs (record (w.handlers h) { stack = below }) _ _ (refused_alike r)
          (stands_on h core.Runs (record (w.handlers h) { stack = below }) (half_at (w.handlers h) under) refl refl refl halves))

  correctness : (o : Origin) → Meets s ((preconditions.correctness_fails s h o f below w).handlers h) →
      IsHalf (preconditions.correctness_fails s h o f below w) (region.correctness_fails s (unpassed o) (view f m) under x)
  correctness (Called c) meets = fails cause.Precondition
  correctness (Requested r) meets = refuses r meets

  clause : (v : EntryVerdict) → Meets s ((preconditions.false_clause v s h f below w).handlers h) →
      IsHalf (preconditions.false_clause v s h f below w) (region.false_clause v s (view f m) under x)
  clause verdict.Wait meets = waits
  clause verdict.Refuse meets = correctness f.origin meets
  clause verdict.Start meets = fails cause.BadCode

  -- ---- ends

  leaves : (blocks : List (List ℕ)) → IsHalf (exits_at.leaves_block h blocks f below w) (region.leaves_block blocks (view f m) under x)
  leaves [] = fails cause.BadCode
  leaves (ks ∷ kss) =
      let g = record f { blocks = kss } in
      released_half h core.Runs release_at.Leave ks (machine.with_stack h (g ∷ below) w) _ (restacked (g ∷ below) _ (view_half h g m (runs_own f is), halves))

  -- the frames that are left
  abbrev left_over : Origin → Option Value → List Frame
  left_over (Called c) v = handed v below
  left_over (Requested r) v = below

  left_alike : (o : Origin) (v : Option Value) → IsAlike (record (w.handlers h) { stack = left_over o v }) ((exits_at.leaves_to h o f.reserved v below w).handlers h)
  left_alike (Called c) v =
      let y = record (w.handlers h) { stack = handed v below } in
      let w1 = machine.with_stack h (handed v below) w in
      alike_then (subst (λ (z : Handler). IsAlike y z) (sym (own h y w)) (alike y)) (release_alike release_at.Exit f.reserved w1 h)
  left_alike (Requested r) v =
      let y = record (w.handlers h) { stack = below } in
      let w1 = machine.with_stack h below w in
      alike_then (subst (λ (z : Handler). IsAlike y z) (sym (own h y w)) (alike y))
      (alike_then (release_alike release_at.Exit f.reserved w1 h) (finish_alike r (Reply v) (release release_at.Exit f.reserved w1) h))

  left_same : (o : Origin) (v : Option Value) → AreOnSame (left_over o v) under
  left_same (Called c) v = handed_same v below under (halves_same h core.Runs below under halves)
  left_same (Requested r) v = halves_same h core.Runs below under halves

  -- no object breaks its invariant as the frame goes
  pub left_none : (o : Origin) (v : Option Value) → Meets s ((exits_at.leaves_to h o f.reserved v below w).handlers h) →
      region.leaves s (view f m) under x ≡ half_at (w.handlers h) under
  left_none o v meets =
      leaves_none s f.current.number (w.handlers h) (left_over o v) under (view f m ∷ under)
      (meets_alike s (record (w.handlers h) { stack = left_over o v }) _ (left_alike o v) meets) stands (left_same o v)

  left_halves : (o : Origin) (v : Option Value) → IsRegionHalf h (record (w.handlers h) { stack = left_over o v }) core.Runs (region.hands (unpassed o) v (half_at (w.handlers h) under))
  left_halves (Called c) v =
      stands_on h core.Runs (record (w.handlers h) { stack = handed v below }) (half_at (w.handlers h) (handed v under)) refl refl refl
      (handed_halves h v below under halves)
  left_halves (Requested r) v =
      stands_on h core.Runs (record (w.handlers h) { stack = below }) (half_at (w.handlers h) under) refl refl refl halves

  left : (o : Origin) (v : Option Value) → Meets s ((exits_at.leaves_to h o f.reserved v below w).handlers h) →
      IsHalf (exits_at.leaves_to h o f.reserved v below w) (region.hands (unpassed o) v (region.leaves s (view f m) under x))
  left o v meets =
      subst (λ (z : Half). IsHalf (exits_at.leaves_to h o f.reserved v below w) (region.hands (unpassed o) v z)) (sym (left_none o v meets))
      (half_alike h core.Runs (record (w.handlers h) { stack = left_over o v }) _ _ (left_alike o v) (left_halves o v))

  abbrev given : Option Value
  given = option_map (λ (u : Operand). u.value) f.result

  exits : Meets s ((exits_at.exits s h f below w).handlers h) → IsHalf (exits_at.exits s h f below w) (region.exits s (view f m) under x)
  exits =
      by (is_unset f.result) (is_untested f.origin || tested) (is_untested (unpassed f.origin) || tested)
      (ap (λ (b : Bool). b || tested) (same_untested f.origin))
    where
      tested : Bool
      tested = object_meets s (object_numbered f.current.number (w.handlers h).objects)

      by : (a b c : Bool) → b ≡ c →
          Meets s ((if a then fail h cause.UnsetEntity w else if b then exits_at.leaves_to h f.origin f.reserved given below w else fail h cause.Invariant w).handlers h) →
          IsHalf (if a then fail h cause.UnsetEntity w else if b then exits_at.leaves_to h f.origin f.reserved given below w else fail h cause.Invariant w)
          (if a then failed cause.UnsetEntity x
          else if c then region.hands (unpassed f.origin) given (region.leaves s (view f m) under x)
          else failed cause.Invariant x)
      by true b c e meets = fails cause.UnsetEntity
      by false true true e meets = left f.origin given meets
      by false false false e meets = fails cause.Invariant
      by false true false e meets = cc
      by false false true e meets = cc

  -- ---- each step

  pub acts : (a : Act) → IsPlainAct a → (h ≡ w.count → ⊥) → Meets s ((effect most s h a f below w).handlers h) →
      IsHalf (effect most s h a f below w) (region.acts s h a (view f m) under x)
  acts (Prints text) plain apart meets = prints text
  acts Until plain apart meets = unchanged
  acts Creates plain apart meets = unchanged
  acts Starts plain apart meets = unchanged
  acts (CreatesHandler class procedure us t true) plain apart meets = creates class procedure us t true apart
  acts (CreatesHandler class procedure us t false) plain apart meets = absurd plain
  acts (Enters c me name us gives) plain apart meets =
      let g = record f { stage = InCall gives } in
      (enters_full s h me (routine_named s me.class name) (Called c) (g ∷ below) (view g m ∷ under) [] (values_of us) w x (view_half h g m tt, halves) refl refl refl stands).0
  acts (Requests r name us gives passing) plain apart meets = requests r name us gives passing
  acts (Refuses k) plain apart meets = clause (verdict_on f k) meets
  acts Opens plain apart meets = restacked (record f { stage = ReservesBlock } ∷ below) _ (view_half h (record f { stage = ReservesBlock }) m tt, halves)
  acts Leaves plain apart meets = leaves f.blocks
  acts Exits plain apart meets = exits meets
  acts (Fails why) plain apart meets = fails why
