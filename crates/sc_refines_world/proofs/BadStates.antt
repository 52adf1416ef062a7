-- States of which the headline doesn't hold, each for one of its parts: whatever the system is, that part refuses it.
use Rattle.std.proofs.Common.{ℕ, zero, suc, ◌≡◌, ◌<◌, ◌==◌, ◌⊎◌, inl, inr, Bool, true, false, List, [], ◌∷◌, Option, Some, None, length, refl, ap, sym, subst, ◌∙◌, arith}
use Rattle.std.proofs.lemmas.List.Elements.{All-nil}
use Rattle.std.specs.Prelude.{pos, map, Contains, if◌then◌else◌}
use Rattle.sc_text.specs.declared.token.Span.{Span}
use Rattle.sc_tree.specs.Plain as tree
use Rattle.sc_tree.specs.Plain.{Class, Clause, Declaration, System}
use Rattle.sc_class.specs.declared.identity.ClassId.TheVariants as class
use Rattle.sc_rules.specs.declared.entity_types.entity_type.EntityType.{EntityType}
use Rattle.sc_rules.specs.declared.entity_types.tag.Tag.TheVariants as tag
use Rattle.sc_formula.specs.Formula as formula
use Rattle.sc_rules.specs.Names.{Entity, RoutineName, entity, locals_known}
use Rattle.sc_rules.specs.Types.{declared_type}
use Rattle.sc_rules.specs.declared.position.Role.{Role}
use Rattle.sc_rules.specs.declared.position.Role.TheVariants as role
use Rattle.sc_lockpass.specs.Rights.{unreserved}
use Rattle.sc_model.specs.declared.cause.Cause.{Cause}
use Rattle.sc_model.specs.declared.cause.Cause.TheVariants as cause
use Rattle.sc_model.specs.Chains.{WaitsFor, waits}
use Rattle.sc_model.specs.Clauses.{Comes, Holds, after, begun}
use Rattle.sc_model.specs.Environments.{Binding, bind, known_of}
use Rattle.sc_model.specs.Fits.{Fits, IsUnset}
use Rattle.sc_model.specs.Handlers.{Awaits, Called, Failed, Frame, Handler, InCall, Reply, Requested, Runs, World, frame_at, new_handler, point_of}
use Rattle.sc_model.specs.Invariants.{MeetsInvariant}
use Rattle.sc_model.specs.Objects.{Object, fresh_object}
use Rattle.sc_model.specs.Routines.{Routine}
use Rattle.sc_model.specs.Steps.{Point, Unqualified}
use Rattle.sc_model.specs.Tasks.{Print, Require}
use Rattle.sc_model.specs.Turns.{turn}
use Rattle.sc_model.specs.Values.{Attached, Boolean, Integer, Void}
use Rattle.sc_machine_laws.specs.states.Headline.{topmost}
use Rattle.sc_machine_laws.specs.states.Fitting.{IsThere, is_due, is_made}
use Rattle.sc_machine_laws.specs.states.Places.{StandsAs, attribute, no_names}
use Rattle.sc_machine_laws.specs.states.Points as point
use Rattle.sc_machine_laws.specs.states.Points.{Agrees}
use Rattle.sc_machine_laws.specs.states.ValueSteps.{is_excluded}
use Rattle.sc_machine_laws.specs.states.Typed.{IsTyped, Known}
use Rattle.sc_refines_world.specs.Moving.{HasRequestAt}
use Rattle.sc_refines_world.specs.Refining.{HasHeadline}
use Rattle.sc_refines_world.specs.Texts.{IsBehindFormals, IsTypedByRules, KnowsItsText}
use Rattle.sc_refines_world.proofs.SmallStates.{two, alone, object_of, first_of, type_of, routine, frame, request, first, none-of-none, apart, none-is-some}

-- ---- failures that are excluded

abbrev failed_by : Cause → Handler
failed_by why = record new_handler { failure = Some why }

-- A handler has failed by F13, F14, F15 or F16.
pub failed : (most : ℕ) (s : System) (why : Cause) → is_excluded why ≡ true → HasHeadline most s (alone (failed_by why)) → ⊥
failed most s why is h =
    let not_excluded : is_excluded why ≡ false = h.no_turn_is_excluded 2 0 why refl in
    apart (sym is ∙ not_excluded)

pub excluded_are : (is_excluded cause.NotHeld ≡ true) × (is_excluded cause.ForeignObject ≡ true)
    × (is_excluded cause.VoidTarget ≡ true) × (is_excluded cause.BadCode ≡ true)
excluded_are = (refl, refl, refl, refl)

-- One fails so in its next turn: its topmost frame is in a call.
pub fails_next : (most : ℕ) (s : System) →
    HasHeadline most s (alone (record new_handler { stack = frame (Called Unqualified) (InCall None) ∷ [] })) → ⊥
fails_next most s h = apart (h.no_turn_is_excluded 0 0 cause.BadCode refl)

-- ---- whose is what

-- An object is of a class that isn't there.
pub of_no_class : (most : ℕ) (s : System) →
    HasHeadline most s (alone (record new_handler { objects = object_of (length s.classes) [] ∷ [] })) → ⊥
of_no_class most s h =
    let is : length s.classes < length s.classes =
    (h.objects_are_of_classes 0 (object_of (length s.classes) []) (omega arith) (first (object_of (length s.classes) []))).is_class in
    omega (arith, is)

-- An object has one attribute more than its class.
abbrev more : System → Object
more s = object_of 0 (bind [] (type_of tag.Own) role.Local Void ∷ (fresh_object s 0).attributes)

pub has_more : (most : ℕ) (s : System) → HasHeadline most s (alone (record new_handler { objects = more s ∷ [] })) → ⊥
has_more most s h =
    let same = (h.objects_are_of_classes 0 (more s) (omega arith) (first (more s))).has_attributes in
    let long : suc (length (map known_of (fresh_object s 0).attributes)) ≡ length (map known_of (fresh_object s 0).attributes) = ap length same in
    omega (arith, long)

-- A reference leads to a handler that isn't there.
abbrev lost : Binding
lost = bind [] (type_of tag.Any) role.Local (Attached (first_of 7))

not-there : (x : Handler) → IsThere (alone x) (first_of 7) → ⊥
not-there x (is_made below at of) = omega (arith, below)
not-there x (is_due below none next target makes number) = omega (arith, below)

pub leads_nowhere : (most : ℕ) (s : System) → HasHeadline most s (alone (record new_handler { objects = object_of 0 (lost ∷ []) ∷ [] })) → ⊥
leads_nowhere most s h =
    let x : Handler = record new_handler { objects = object_of 0 (lost ∷ []) ∷ [] } in
    let stands : StandsAs s (alone x) 0 no_names lost.value lost.type true =
    attribute (omega arith) (first (object_of 0 (lost ∷ []))) (first lost) in
    not-there x (h.references_lead 0 no_names (first_of 7) (type_of tag.Any) true stands)

-- An object of another handler stands where a type says that it is of this one.
abbrev stray : Binding
stray = bind [] (type_of tag.Own) role.Local (Attached (first_of 1))

pub is_anothers : (most : ℕ) (s : System) → HasHeadline most s (alone (record new_handler { objects = object_of 0 (stray ∷ []) ∷ [] })) → ⊥
is_anothers most s h =
    let x : Handler = record new_handler { objects = object_of 0 (stray ∷ []) ∷ [] } in
    let stands : StandsAs s (alone x) 0 no_names stray.value stray.type true =
    attribute (omega arith) (first (object_of 0 (stray ∷ []))) (first stray) in
    let own : 1 ≡ 0 = h.non_separate_is_own 0 no_names (first_of 1) (type_of tag.Own) true stands refl in
    omega (arith, own)

-- An attribute of type BOOLEAN has an INTEGER.
abbrev boolean : EntityType
boolean = record { attached = true; tag = tag.Own; class = class.Boolean }

abbrev wrong : Binding
wrong = bind [] boolean role.Local (Integer (pos 0))

unfit : (s : System) → Fits s 0 no_names (Integer (pos 0)) boolean ⊎ ((true ≡ true) × IsUnset (Integer (pos 0)) boolean) → ⊥
unfit s (inl fits) = apart (sym fits)
unfit s (inr unset) =
    let is : Integer (pos 0) ≡ Void = unset.1.0 in
    cc

pub is_of_another_type : (most : ℕ) (s : System) → HasHeadline most s (alone (record new_handler { objects = object_of 0 (wrong ∷ []) ∷ [] })) → ⊥
is_of_another_type most s h =
    let x : Handler = record new_handler { objects = object_of 0 (wrong ∷ []) ∷ [] } in
    let stands : StandsAs s (alone x) 0 no_names wrong.value wrong.type true =
    attribute (omega arith) (first (object_of 0 (wrong ∷ []))) (first wrong) in
    unfit s (h.values_fit 0 no_names (Integer (pos 0)) boolean true stands)

-- A frame runs on an object of another handler.
pub runs_on_anothers : (most : ℕ) (s : System) →
    HasHeadline most s (alone (record new_handler { stack = record (frame (Called Unqualified) Runs) { current = first_of 1 } ∷ [] })) → ⊥
runs_on_anothers most s h =
    let f : Frame = record (frame (Called Unqualified) Runs) { current = first_of 1 } in
    let own : 1 ≡ 0 = (h.frames_run_on_own 0 f (omega arith) (first f)).current_is_own in
    omega (arith, own)

-- A frame runs on an object that isn't there.
pub runs_on_none : (most : ℕ) (s : System) →
    HasHeadline most s (alone (record new_handler { stack = frame (Called Unqualified) Runs ∷ [] })) → ⊥
runs_on_none most s h =
    let f : Frame = frame (Called Unqualified) Runs in
    none-is-some (h.frames_run_on_own 0 f (omega arith) (first f)).current_is_there.is_there

-- A request stands at a handler that isn't its target's.
pub stands_elsewhere : (most : ℕ) (s : System) →
    HasHeadline most s (alone (record new_handler { queue = request 1 1 false ∷ [] })) → ⊥
stands_elsewhere most s h =
    let here : 1 ≡ 0 = (h.requests_stand_at_targets 0 (request 1 1 false) (omega arith) (first (request 1 1 false))).target_is_here in
    omega (arith, here)

-- ---- who waits

-- A handler waits for another one at which nothing of it stands.
abbrev waiter : Handler
waiter = record new_handler { stack = frame (Called Unqualified) (Awaits 1 None false) ∷ [] }

without : (None ≡ Some Failed) ⊎ HasRequestAt (alone waiter) 0 1 → ⊥
without (inl told) = none-is-some told
without (inr has) = none-of-none has.request has.stands

pub waits_for_nothing : (most : ℕ) (s : System) → HasHeadline most s (alone waiter) → ⊥
waits_for_nothing most s h = without (h.waiters_have_requests 0 1 (topmost refl refl refl) refl)

-- It waits for one that nobody holds.
lives : (b c : Bool) → (if b then waiter else (if c then new_handler else new_handler)).failure ≡ None
lives true c = refl
lives false true = refl
lives false false = refl

nobody : (z : ℕ) → (None ≡ Some z) ⊎ (None ≡ Some z) → ⊥
nobody z (inl is) = none-is-some is
nobody z (inr is) = none-is-some is

pub waits_for_free : (most : ℕ) (s : System) → HasHeadline most s (alone waiter) → ⊥
waits_for_free most s h =
    let awaits : WaitsFor (alone waiter) 0 1 = waits {f = frame (Called Unqualified) (Awaits 1 None false)} (first (frame (Called Unqualified) (Awaits 1 None false))) refl in
    let held = h.chains_hold 0 1 awaits (λ z among. lives (z == 0) (z == 1)) in
    nobody held.0 held.1

-- A handler that waits for none is told of a failure.
idle-waits : (k : ℕ) → WaitsFor (alone (record new_handler { answer = Some Failed })) 0 k → ⊥
idle-waits k (waits {f = f} among stage) = none-of-none f among

pub told_of_nothing : (most : ℕ) (s : System) → HasHeadline most s (alone (record new_handler { answer = Some Failed })) → ⊥
told_of_nothing most s h =
    let told = h.only_waiters_are_told 0 refl in
    idle-waits told.0 told.1

-- A handler waits for one that has failed, and isn't told.
pub waits_untold : (most : ℕ) (s : System) → HasHeadline most s (two waiter (failed_by cause.Check) unreserved) → ⊥
waits_untold most s h = none-is-some (h.waiters_are_told 0 1 (topmost refl refl refl) refl)

-- What the entry of a frame that runs has reserved is nobody's.
pub holds_nothing : (most : ℕ) (s : System) →
    HasHeadline most s (alone (record new_handler { stack = record (frame (Called Unqualified) Runs) { reserved = 1 ∷ [] } ∷ [] })) → ⊥
holds_nothing most s h =
    none-is-some (h.reserved_are_held 0 1 (record (frame (Called Unqualified) Runs) { reserved = 1 ∷ [] }) [] (1 ∷ []) refl refl refl
    (first (1 ∷ [])) (first 1))

-- A formal of a frame that runs lies on a handler that isn't held, and so does the name of a block.
abbrev knowing : Role → Handler
knowing r = record new_handler { stack = record (frame (Called Unqualified) Runs) { environment = bind [] (type_of tag.Any) r (Attached (first_of 1)) ∷ [] } ∷ [] }

pub formal_is_unheld : (most : ℕ) (s : System) → HasHeadline most s (alone (knowing role.Formal)) → ⊥
formal_is_unheld most s h =
    apart (sym (h.formals_are_held 0 1 (record (frame (Called Unqualified) Runs) { environment = bind [] (type_of tag.Any) role.Formal (Attached (first_of 1)) ∷ [] })
    [] (Attached (first_of 1)) refl refl refl (first (Attached (first_of 1))) refl))

pub name_is_unheld : (most : ℕ) (s : System) → HasHeadline most s (alone (knowing role.Block)) → ⊥
name_is_unheld most s h =
    apart (sym (h.names_are_held 0 1 (record (frame (Called Unqualified) Runs) { environment = bind [] (type_of tag.Any) role.Block (Attached (first_of 1)) ∷ [] })
    [] (Attached (first_of 1)) refl refl refl (first (Attached (first_of 1))) refl))

-- A callback stands at a handler that may be reserved.
pub is_unkept : (most : ℕ) (s : System) → HasHeadline most s (alone (record new_handler { callback = Some (request 1 0 true) })) → ⊥
is_unkept most s h = apart (h.targets_are_kept 0 (request 1 0 true) (first (request 1 0 true)))

-- A callback stands beside a reply.
pub comes_late : (most : ℕ) (s : System) →
    HasHeadline most s (alone (record waiter { callback = Some (request 1 0 true); answer = Some (Reply None) })) → ⊥
comes_late most s h = apart (h.callbacks_come_first 0 (request 1 0 true) refl)

-- Who has a reply waits for another request, which may end.
pub has_two : (most : ℕ) (s : System) →
    HasHeadline most s (two (record new_handler { stack = frame (Requested (request 1 0 true)) Runs ∷ [] })
    (record new_handler { answer = Some (Reply None) }) unreserved) → ⊥
has_two most s h =
    apart (h.replies_meet_none 0 1 (frame (Requested (request 1 0 true)) Runs) [] (request 1 0 true) refl refl refl refl refl refl refl refl)

-- A handler that isn't there yet has a request.
pub begins_early : (most : ℕ) (s : System) →
    HasHeadline most s (record { count = 1; handlers = λ k. record new_handler { queue = request 0 1 false ∷ [] }; rights = unreserved }) → ⊥
begins_early most s h =
    let none : request 0 1 false ∷ [] ≡ [] = (h.beyond_is_unused 1 (omega arith)).queue_is in cc

-- ---- types of the text

-- the one frame of a handler, which knows this
abbrev knows : List Binding → Handler
knows bs = record new_handler { stack = record (frame (Called Unqualified) Runs) { environment = bs } ∷ [] }

-- A frame has a formal that its routine hasn't.
abbrev formal : Binding
formal = bind [] (type_of tag.Own) role.Formal Void

pub has_a_formal_more : (most : ℕ) (s : System) → HasHeadline most s (alone (knows (formal ∷ []))) → ⊥
has_a_formal_more most s h =
    let f : Frame = record (frame (Called Unqualified) Runs) { environment = formal ∷ [] } in
    let k : KnowsItsText s f = h.frames_know_their_texts 0 f (omega arith) (first f) in
    let is : IsBehindFormals s routine (known_of formal) = k.others_are (known_of formal) (subst (λ n. Contains n (known_of formal)) k.names_are (first (known_of formal))) in
    apart is.is_no_formal

-- It has a local that its routine doesn't declare.
abbrev local : Binding
local = bind [] (type_of tag.Own) role.Local Void

pub has_a_local_more : (most : ℕ) (s : System) → HasHeadline most s (alone (knows (local ∷ []))) → ⊥
has_a_local_more most s h =
    let f : Frame = record (frame (Called Unqualified) Runs) { environment = local ∷ [] } in
    let k : KnowsItsText s f = h.frames_know_their_texts 0 f (omega arith) (first f) in
    let is : IsBehindFormals s routine (known_of local) = k.others_are (known_of local) (subst (λ n. Contains n (known_of local)) k.names_are (first (known_of local))) in
    none-of-none (known_of local) (is.local_is_declared refl)

-- It carries for a local another type than the text gives it.
abbrev declares : Declaration → Routine
declares d = record routine { locals = d ∷ [] }

abbrev with_local : Declaration → EntityType → Frame
with_local d u = record (frame (Called Unqualified) Runs) { routine = declares d; environment = bind d.name.text u role.Local Void ∷ [] }

one-type : {x y : Option EntityType} (t u : EntityType) → x ≡ Some t → y ≡ Some u → x ≡ y → t ≡ u
one-type t u e i same = cc

pub local_is_of_another_type : (most : ℕ) (s : System) (d : Declaration) (t u : EntityType) → declared_type s [] d.declared_type ≡ Some t → (t ≡ u → ⊥) →
    HasHeadline most s (alone (record new_handler { stack = with_local d u ∷ [] })) → ⊥
local_is_of_another_type most s d t u is differ h =
    let f : Frame = with_local d u in
    let k : KnowsItsText s f = h.frames_know_their_texts 0 f (omega arith) (first f) in
    let e : Entity = entity d.name.text (Some u) role.Local in
    let known : IsBehindFormals s (declares d) e = k.others_are e (subst (λ n. Contains n e) k.names_are (first e)) in
    only (known.local_is_declared refl)
  where
    only : Contains (locals_known s [] (d ∷ [])) (entity d.name.text (Some u) role.Local) → ⊥
    only (zero, l, same) = differ (one-type t u is refl (ap (λ (e : Entity). e.type) same))
    only (suc i, l, same) = omega (arith, l)

-- What is left of a frame prints a value that isn't there.
abbrev prints : Frame
prints = record (frame (Called Unqualified) Runs) { tasks = Print ∷ [] }

untyped : (s : System) (pure : RoutineName → Bool) {k : Known} → Agrees (point_of prints []) [] k → IsTyped s pure routine (Print ∷ []) k → ⊥
untyped s pure point.here d = elim d [ ]
untyped s pure (point.held none values scope) d = cc
untyped s pure (point.denied none values scope) d = cc

pub prints_nothing : (most : ℕ) (s : System) → HasHeadline most s (alone (record new_handler { stack = prints ∷ [] })) → ⊥
prints_nothing most s h =
    let z : IsTypedByRules s (alone (record new_handler { stack = prints ∷ [] })) 0 prints = h.frames_are_typed 0 prints (omega arith) (first prints) in
    untyped s z.pure z.agrees z.is_typed

-- ---- settled objects

-- A class whose invariant is False, and a system of it alone.
abbrev pub falsity : Span → Clause
falsity q = record { tag = None; condition = tree.Boolean q false }

abbrev pub broken : Span → Class
broken q = record {
  span = q;
  mark = None;
  name = record { text = 98 ∷ []; span = q };
  parents = [];
  creators = [];
  features = [];
  invariant = falsity q ∷ [];
}

abbrev of_broken : Span → System
of_broken q = record { classes = broken q ∷ [] }

unmet : (q : Span) → MeetsInvariant (of_broken q) (object_of 0 []) → ⊥
unmet q meets = let is : Some false ≡ Some true = meets 0 (formula.Constant false) (omega arith) in cc

-- A settled object is of that class.
pub is_settled_unmet : (most : ℕ) (q : Span) → HasHeadline most (of_broken q) (alone (record new_handler { objects = object_of 0 [] ∷ [] })) → ⊥
is_settled_unmet most q h =
    unmet q (h.settled_objects_meet 0 1 (object_of 0 []) (omega arith) (record { stands = refl; at_rest = All-nil (λ (f : Frame). f.current.number ≡ 1 → ⊥) }) refl)

-- ---- bodies that start

-- A frame stands after its precondition, and is about to start, but a clause of it is False.
abbrev starting : Span → Frame
starting q = record (frame (Called Unqualified) Runs) { routine = record routine { require = falsity q ∷ [] }; tasks = Require [] ∷ [] }

no-further : (s : System) (w : World) (n : ℕ) → after n s w (Comes (Boolean false)) ≡ Comes (Boolean true) → ⊥
no-further s w zero e = cc
no-further s w (suc n) e = no-further s w n e

never-true : (s : System) (w : World) (q : Span) (n : ℕ) → after n s w (begun w (starting q) (falsity q)) ≡ Comes (Boolean true) → ⊥
never-true s w q zero e = cc
never-true s w q (suc zero) e = cc
never-true s w q (suc (suc n)) e = no-further s w n e

pub starts_where_false : (most : ℕ) (s : System) (q : Span) → HasHeadline most s (alone (record new_handler { stack = starting q ∷ [] })) → ⊥
starts_where_false most s q h =
    let w : World = alone (record new_handler { stack = starting q ∷ [] }) in
    let p : Point = record (point_of (starting q) []) { tasks = [] } in
    let holds : Holds s (turn most s 0 w) (frame_at (starting q) p) (falsity q) =
    h.bodies_start_where_clauses_hold 0 (starting q) [] p (record { is_there = omega arith; lives = refl; stack_is = refl; runs = refl; starts = refl })
    (falsity q) (first (falsity q)) in
    never-true s (turn most s 0 w) q holds.steps holds.is_true
