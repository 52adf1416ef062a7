-- A request is taken: whatever its first turn comes to, the core stays the half of the machine.
use Rattle.std.proofs.Common.{ℕ, ◌≡◌, ◌==◌, Bool, true, false, ◌||◌, List, [], ◌∷◌, ◌++◌, Option, Some, None, refl, sym, ap, subst, ◌∙◌, inl, inr}
use Rattle.std.proofs.lemmas.Bool.{cases_Bool, cases_eq, eq-eqb, ne_eqb}
use Rattle.std.specs.Prelude.{map, length, nat_lt, if◌then◌else◌}
use Rattle.std.specs.List.{list_any}
use Rattle.std.specs.Option.{option_map}
use Rattle.sc_lockpass.specs.Rights.{release_all}
use Rattle.sc_lockpass.specs.declared.wait_conditions.session.Release.TheVariants as release_at
use Rattle.sc_tree.specs.Plain as tree
use Rattle.sc_tree.specs.Plain.{System, FeatureKind}
use Rattle.sc_class.specs.Tables.Features.{DeclaredFeature}
use Rattle.sc_rules.specs.declared.entity_types.entity_type.EntityType.{EntityType}
use Rattle.sc_rules.specs.Types.{declared_type}
use Rattle.sc_model.specs.declared.cause.Cause.{Cause}
use Rattle.sc_model.specs.declared.cause.Cause.TheVariants as cause
use Rattle.sc_model.specs.Limits.{max_frames}
use Rattle.sc_model.specs.Values.{Reference, Value}
use Rattle.sc_model.specs.Environments.{Binding, binding_named, formals_bound, separate_formals}
use Rattle.sc_model.specs.Routines.{Routine, version_of, routine_named, routine_of}
use Rattle.sc_model.specs.Objects.{Object, object_numbered, fresh_object}
use Rattle.sc_model.specs.Invariants.{meets_invariant}
use Rattle.sc_model.specs.Exits.{is_unset_value}
use Rattle.sc_model.specs.Entries as entries
use Rattle.sc_model.specs.Entries.{stage_with, entry}
use Rattle.sc_model.specs.Takes as takes_at
use Rattle.sc_model.specs.Handlers as machine
use Rattle.sc_model.specs.Answers as machine_answers
use Rattle.sc_model.specs.Failures as machine_failures
use Rattle.sc_region.specs.declared.job.Want.{Want}
use Rattle.sc_handler.specs.Handlers.{Posted, HandlerStage, Idle, Runs, Reserves, Awaits, Service, service, Handler, State, put}
use Rattle.sc_handler.specs.Changes.{to_list, requests_at, is_waited_by, told, fallen, serves, takes, takes_next, takes_callback}
use Rattle.sc_handler.specs.Fits.{may_take}
use Rattle.sc_request.specs.Sessions.{release, finish, fail}
use Rattle.sc_request.specs.Settling.{reserves, ends, may_ask, asked_in}
use Rattle.sc_request.specs.Asked.{Numbering, value_of, handlers_of, asks_beginning, asks_bound, asks_entering, asks_done, asks_replying, asks_calling, asks_version, asks_errand}
use Rattle.sc_request.specs.Halves.{posted_of, answer_of, IsStage, IsOrigin, AreServices, IsHandlerOf, IsHalfOf}
use Rattle.sc_request.proofs.Kept.{ended, standing, waited, told_alike, fallen_alike, finish_alike}

-- The core has taken the request, and the machine has it in its hands.
pub record IsTaken (n : Numbering) (r : machine.Request) (h : ℕ) (w : machine.World) (s : State) : Type 0 where
  pub count : s.count ≡ w.count
  pub rights : s.rights ≡ w.rights
  pub others : (k : ℕ) → (k ≡ h → ⊥) → IsHandlerOf n (w.handlers k) (s.handlers k)
  pub before : Handler
  pub half : IsHandlerOf n (w.handlers h) before
  pub serving : s.handlers h ≡ serves (posted_of n r) before

-- ---- the request fails its handler

any_moved : {A : Type 0} (p : A → Bool) (x : A) (xs ys : List A) → list_any p (xs ++ x ∷ ys) ≡ (p x || list_any p (xs ++ ys))
any_moved p x [] ys = refl
any_moved p x (z ∷ xs) ys = ap (λ b. p z || b) (any_moved p x xs ys) ∙ or_swap (p z) (p x) (list_any p (xs ++ ys))
  where
    or_swap : (a b c : Bool) → (a || (b || c)) ≡ (b || (a || c))
    or_swap true true c = refl
    or_swap true false c = refl
    or_swap false b c = refl

waited_taken : (n : Numbering) (r : machine.Request) (h k : ℕ) (w : machine.World) (s : State) → IsTaken n r h w s →
    list_any (is_waited_by k) (requests_at (s.handlers h)) ≡ list_any (machine_failures.is_waited_by k) (r ∷ machine_failures.requests_at (w.handlers h))
waited_taken n r h k w s e =
    let y = e.before in
    ap (λ (z : Handler). list_any (is_waited_by k) (requests_at z)) e.serving
    ∙ any_moved (is_waited_by k) (posted_of n r) (y.queue ++ to_list y.callback) (map (λ (v : Service). v.posted) y.services)
    ∙ ap (λ (ps : List Posted). is_waited_by k (posted_of n r) || list_any (is_waited_by k) ps) (standing n (w.handlers h) y e.half)
    ∙ ap (λ (b : Bool). machine_failures.is_waited_by k r || b) (waited n k (machine_failures.requests_at (w.handlers h)))

failed_at : (n : Numbering) (r : machine.Request) (h k : ℕ) (why : Cause) (w : machine.World) (s : State) → IsTaken n r h w s →
    IsHandlerOf n
    (if k == h then machine_failures.fallen why (w.handlers k)
    else machine_failures.told (list_any (machine_failures.is_waited_by k) (r ∷ machine_failures.requests_at (w.handlers h))) (w.handlers k))
    (if k == h then fallen why (s.handlers k) else told (list_any (is_waited_by k) (requests_at (s.handlers h))) (s.handlers k))
failed_at n r h k why w s e = elim (cases_eq k h) [
  | inl is ↦
      rw (is, eq-eqb h h refl)
      (subst (λ (y : Handler). IsHandlerOf n (machine_failures.fallen why (w.handlers h)) (fallen why y)) (sym e.serving) (fallen_alike n why (w.handlers h) e.before e.half))
  | inr apart ↦ rw (ne_eqb k h apart, waited_taken n r h k w s e) (told_alike n _ (w.handlers k) (s.handlers k) (e.others k apart))
]

pub fails_taken : (n : Numbering) (r : machine.Request) (h : ℕ) (why : Cause) (w : machine.World) (s : State) → IsTaken n r h w s →
    IsHalfOf n (machine_failures.fails_with h why (r ∷ []) w) (fail h why s)
fails_taken n r h why w s e = record {
  count = e.count;
  rights = ap (release_all h) e.rights;
  handlers = λ k. rw e.rights (ended n _ _ _ (failed_at n r h k why w s e));
}

-- ---- it is done at once

half_before : (n : Numbering) (r : machine.Request) (h : ℕ) (w : machine.World) (s : State) (e : IsTaken n r h w s) → IsHalfOf n w (put h e.before s)
half_before n r h w s e = record {
  count = e.count;
  rights = e.rights;
  handlers = λ k. elim (cases_eq k h) [
    | inl is ↦ rw (is, eq-eqb h h refl) e.half
    | inr apart ↦ rw (ne_eqb k h apart) (e.others k apart)
  ];
}

ends_taken : (n : Numbering) (r : machine.Request) (h : ℕ) (w : machine.World) (s : State) (v : Option Value) (e : IsTaken n r h w s) →
    ends h (option_map value_of v) [] false (s.handlers h).services s
    ≡ finish (posted_of n r) (answer_of (machine.Reply v)) (release release_at.Exit [] (put h e.before s))
ends_taken n r h w s v e =
    let y = e.before in
    ap (λ (z : Handler). ends h (option_map value_of v) [] false z.services s) e.serving
    ∙ ap (λ (z : Handler). finish (posted_of n r) (answer_of (machine.Reply v)) (release release_at.Exit [] (put h (record z { stage = y.stage; services = y.services }) s))) e.serving

pub done_taken : (n : Numbering) (r : machine.Request) (h most : ℕ) (w : machine.World) (s : State) (v : Option Value) → IsTaken n r h w s →
    IsHalfOf n (machine_answers.finish r (machine.Reply v) w) (asked_in (may_take (asks_done v [] false)) most h (asks_done v [] false) s)
done_taken n r h most w s v e =
    subst (IsHalfOf n (machine_answers.finish r (machine.Reply v) w)) (sym (ends_taken n r h w s v e))
    (finish_alike n r (machine.Reply v) w (release release_at.Exit [] (put h e.before s)) (half_before n r h w s e))

-- ---- a routine is entered for it

stacked : (n : Numbering) (r : machine.Request) (h : ℕ) (w : machine.World) (s s' : State) (e : IsTaken n r h w s) (f : machine.Frame) (t : HandlerStage) (es : List ℕ) →
    s'.count ≡ s.count → s'.rights ≡ s.rights → ((k : ℕ) → (k ≡ h → ⊥) → s'.handlers k ≡ s.handlers k) →
    s'.handlers h ≡ record (serves (posted_of n r) e.before) { stage = t; entry = es } → f.origin ≡ machine.Requested r → IsStage f.stage f t →
    IsHalfOf n (machine.with_stack h (f ∷ (w.handlers h).stack) w) s'
stacked n r h w s s' e f t es count rights same own origin stage =
    let y = e.before in
    let x = w.handlers h in
    record {
      count = count ∙ e.count;
      rights = rights ∙ e.rights;
      handlers = λ k. elim (cases_eq k h) [
        | inl is ↦ rw (is, eq-eqb h h refl) (subst (λ (z : Handler). IsHandlerOf n (record x { stack = f ∷ x.stack }) z) (sym own) (record {
          stage = stage;
          services = subst (λ (o : machine.Origin). IsOrigin n o (AreServices n x.stack) x.stack (service (posted_of n r) y.stage ∷ y.services)) (sym origin) (refl, e.half.stage, e.half.services);
          queue = e.half.queue;
          callback = e.half.callback;
          answer = e.half.answer;
          failure = e.half.failure;
          sessions = e.half.sessions;
          refused = e.half.refused;
        }))
        | inr apart ↦ rw (ne_eqb k h apart) (subst (λ (z : Handler). IsHandlerOf n (w.handlers k) z) (sym (same k apart)) (e.others k apart))
      ];
    }

begins : (n : Numbering) (r : machine.Request) (h most : ℕ) (w : machine.World) (s : State) (me : Reference) (c : Routine) (bs : List Binding) (vs : List Value) →
    vs ≡ separate_formals bs → IsTaken n r h w s → may_ask h (asks_beginning vs) s ≡ true →
    IsHalfOf n (machine.with_stack h (entry me c (machine.Requested r) bs ∷ (w.handlers h).stack) w) (asked_in (may_take (asks_beginning vs)) most h (asks_beginning vs) s)
begins n r h most w s me c bs [] same e may =
    let f = entry me c (machine.Requested r) bs in
    let runs : IsStage f.stage f Runs = subst (λ (st : machine.Stage). IsStage st f Runs) (ap stage_with same) (inl refl) in
    stacked n r h w s s e f Runs e.before.entry refl refl (λ k apart. refl) e.serving refl runs
begins n r h most w s me c bs (v ∷ vs) same e may =
    let f = entry me c (machine.Requested r) bs in
    let ks = handlers_of (v ∷ vs) in
    let reserving : IsStage f.stage f (Reserves ks []) = subst (λ (st : machine.Stage). IsStage st f (Reserves ks [])) (ap stage_with same) (ap (λ us. Reserves (handlers_of us) []) same) in
    rw may
    (stacked n r h w s (reserves h ks s) e f (Reserves ks []) ks refl refl (λ k apart. rw (ne_eqb k h apart) refl)
    (rw (eq-eqb h h refl) (ap (λ (z : Handler). record z { stage = Reserves ks []; entry = ks }) e.serving)) refl reserving)

enters_bound : (n : Numbering) (r : machine.Request) (h most : ℕ) (w : machine.World) (s : State) (me : Reference) (c : Routine) (bound : Option (List Binding)) →
    IsTaken n r h w s → may_ask h (asks_bound bound (length (w.handlers h).stack)) s ≡ true →
    IsHalfOf n (entries.enters_bound h me c (machine.Requested r) (w.handlers h).stack (r ∷ []) bound w)
    (asked_in (may_take (asks_bound bound (length (w.handlers h).stack))) most h (asks_bound bound (length (w.handlers h).stack)) s)
enters_bound n r h most w s me c None e may = fails_taken n r h cause.BadCode w s e
enters_bound n r h most w s me c (Some bs) e may = elim (cases_Bool (nat_lt (length (w.handlers h).stack) max_frames)) [
  | inl room ↦ let granted = rw room at may in rw room (begins n r h most w s me c bs (separate_formals bs) refl e granted)
  | inr full ↦ rw full (fails_taken n r h cause.StackFull w s e)
]

enters_taken : (n : Numbering) (sys : System) (r : machine.Request) (h most : ℕ) (w : machine.World) (s : State) (me : Reference) (c : Option Routine) (vs : List Value) →
    IsTaken n r h w s → may_ask h (asks_entering sys c vs (length (w.handlers h).stack)) s ≡ true →
    IsHalfOf n (entries.enters sys h me c (machine.Requested r) (w.handlers h).stack (r ∷ []) vs w)
    (asked_in (may_take (asks_entering sys c vs (length (w.handlers h).stack))) most h (asks_entering sys c vs (length (w.handlers h).stack)) s)
enters_taken n sys r h most w s me None vs e may = fails_taken n r h cause.BadCode w s e
enters_taken n sys r h most w s me (Some c) vs e may = enters_bound n r h most w s me c (formals_bound sys c.text.formals 0 c.text.formals vs) e may

-- ---- each errand

-- what comes of this in the core
abbrev comes_to : ℕ → ℕ → Want → State → State
comes_to most h asks s = asked_in (may_take asks) most h asks s

replies : (n : Numbering) (r : machine.Request) (h most : ℕ) (w : machine.World) (s : State) (t : Option EntityType) (b : Option Binding) → IsTaken n r h w s →
    IsHalfOf n (takes_at.replies h r t b w) (comes_to most h (asks_replying t b) s)
replies n r h most w s (Some t) (Some b) e = elim (cases_Bool (is_unset_value b.value t)) [
  | inl unset ↦ rw unset (fails_taken n r h cause.UnsetEntity w s e)
  | inr given ↦ rw given (done_taken n r h most w s (Some b.value) e)
]
replies n r h most w s (Some t) None e = fails_taken n r h cause.BadCode w s e
replies n r h most w s None b e = fails_taken n r h cause.BadCode w s e

calls : (n : Numbering) (sys : System) (r : machine.Request) (x : List ℕ) (h most : ℕ) (w : machine.World) (s : State) (o : Object) (f : DeclaredFeature) (kind : FeatureKind) →
    IsTaken n r h w s → may_ask h (asks_calling sys r x (length (w.handlers h).stack) o f kind) s ≡ true →
    IsHalfOf n (takes_at.takes_kind sys h r x (w.handlers h).stack o f kind w) (comes_to most h (asks_calling sys r x (length (w.handlers h).stack) o f kind) s)
calls n sys r x h most w s o f (tree.Attribute d) e may = replies n r h most w s (declared_type sys [] d) (binding_named x o.attributes) e
calls n sys r x h most w s o f (tree.Routine c) e may = enters_taken n sys r h most w s r.target (routine_of sys f) r.actuals e may

versions : (n : Numbering) (sys : System) (r : machine.Request) (x : List ℕ) (h most : ℕ) (w : machine.World) (s : State) (o : Option Object) (f : Option DeclaredFeature) →
    IsTaken n r h w s → may_ask h (asks_version sys r x (length (w.handlers h).stack) o f) s ≡ true →
    IsHalfOf n (takes_at.takes_version sys h r x (w.handlers h).stack o f w) (comes_to most h (asks_version sys r x (length (w.handlers h).stack) o f) s)
versions n sys r x h most w s (Some o) (Some f) e may = calls n sys r x h most w s o f f.feature.kind e may
versions n sys r x h most w s (Some o) None e may = fails_taken n r h cause.BadCode w s e
versions n sys r x h most w s None f e may = fails_taken n r h cause.BadCode w s e

objects_left : (n : Numbering) (x : machine.Handler) (y : Handler) (objects : List Object) → IsHandlerOf n x y → IsHandlerOf n (record x { objects = objects }) y
objects_left n x y objects e = record {
  stage = e.stage;
  services = e.services;
  queue = e.queue;
  callback = e.callback;
  answer = e.answer;
  failure = e.failure;
  sessions = e.sessions;
  refused = e.refused;
}

-- an object is made on the way
objects_taken : (n : Numbering) (r : machine.Request) (h : ℕ) (w : machine.World) (s : State) (objects : List Object) → IsTaken n r h w s →
    IsTaken n r h (machine.put h (record (w.handlers h) { objects = objects }) w) s
objects_taken n r h w s objects e = record {
  count = e.count;
  rights = e.rights;
  others = λ k apart. rw (ne_eqb k h apart) (e.others k apart);
  before = e.before;
  half = rw (eq-eqb h h refl) (objects_left n (w.handlers h) e.before objects e.half);
  serving = e.serving;
}

makes : (n : Numbering) (sys : System) (r : machine.Request) (k : Option (List ℕ)) (h most : ℕ) (w : machine.World) (s : State) →
    IsTaken n r h w s → may_ask h (asks_errand sys h r (machine.Makes k) (length (w.handlers h).stack) (w.handlers h).objects) s ≡ true →
    IsHalfOf n (takes_at.takes_creation sys h r k (w.handlers h).stack (takes_at.with_new_object sys h r.target.class w))
    (comes_to most h (asks_errand sys h r (machine.Makes k) (length (w.handlers h).stack) (w.handlers h).objects) s)
makes n sys r (Some x) h most w s e may =
    let c = routine_named sys r.target.class x in
    let w' = takes_at.with_new_object sys h r.target.class w in
    let same : (w'.handlers h).stack ≡ (w.handlers h).stack = rw (eq-eqb h h refl) refl in
    let may' = subst (λ (below : List machine.Frame). may_ask h (asks_entering sys c r.actuals (length below)) s ≡ true) (sym same) may in
    subst (λ (below : List machine.Frame). IsHalfOf n (entries.enters sys h r.target c (machine.Requested r) below (r ∷ []) r.actuals w') (comes_to most h (asks_entering sys c r.actuals (length below)) s))
    same (enters_taken n sys r h most w' s r.target c r.actuals (objects_taken n r h w s _ e) may')
makes n sys r None h most w s e may =
    let w' = takes_at.with_new_object sys h r.target.class w in
    let e' = objects_taken n r h w s _ e in
    elim (cases_Bool (meets_invariant sys (fresh_object sys r.target.class))) [
      | inl meets ↦ rw meets (done_taken n r h most w' s None e')
      | inr breaks ↦ rw breaks (fails_taken n r h cause.Invariant w' s e')
    ]

pub errands : (n : Numbering) (sys : System) (r : machine.Request) (errand : machine.Errand) (h most : ℕ) (w : machine.World) (s : State) →
    IsTaken n r h w s → may_ask h (asks_errand sys h r errand (length (w.handlers h).stack) (w.handlers h).objects) s ≡ true →
    IsHalfOf n (takes_at.takes_errand sys h r errand (w.handlers h).stack w)
    (comes_to most h (asks_errand sys h r errand (length (w.handlers h).stack) (w.handlers h).objects) s)
errands n sys r (machine.Makes k) h most w s e may = makes n sys r k h most w s e may
errands n sys r (machine.Calls x) h most w s e may = elim (cases_Bool (r.target.handler == h)) [
  | inl here ↦
      let granted = rw here at may in
      rw here (versions n sys r x h most w s (object_numbered r.target.number (w.handlers h).objects) (version_of sys r.target.class x) e granted)
  | inr foreign ↦ rw foreign (fails_taken n r h cause.ForeignObject w s e)
]

-- ---- from the queue, and as a callback

queue_left : (n : Numbering) (x : machine.Handler) (y : Handler) (rs : List machine.Request) → IsHandlerOf n x y →
    IsHandlerOf n (record x { queue = rs }) (record y { queue = map (posted_of n) rs })
queue_left n x y rs e = record {
  stage = e.stage;
  services = e.services;
  queue = refl;
  callback = e.callback;
  answer = e.answer;
  failure = e.failure;
  sessions = e.sessions;
  refused = e.refused;
}

callback_left : (n : Numbering) (x : machine.Handler) (y : Handler) → IsHandlerOf n x y → IsHandlerOf n (record x { callback = None }) (record y { callback = None })
callback_left n x y e = record {
  stage = e.stage;
  services = e.services;
  queue = e.queue;
  callback = refl;
  answer = e.answer;
  failure = e.failure;
  sessions = e.sessions;
  refused = e.refused;
}

pub next_taken : (n : Numbering) (h : ℕ) (w : machine.World) (s : State) (r : machine.Request) (rs : List machine.Request) → IsHalfOf n w s →
    (s.handlers h).stage ≡ Idle → (w.handlers h).queue ≡ r ∷ rs →
    IsTaken n r h (machine.put h (record (w.handlers h) { queue = rs }) w) (put h (takes (s.handlers h).stage (s.handlers h)) s)
next_taken n h w s r rs e idle asked =
    let y = s.handlers h in
    record {
      count = e.count;
      rights = e.rights;
      others = λ k apart. rw (ne_eqb k h apart) (e.handlers k);
      before = record y { queue = map (posted_of n) rs };
      half = rw (eq-eqb h h refl) (queue_left n (w.handlers h) y rs (e.handlers h));
      serving =
          rw (eq-eqb h h refl)
          (ap (λ st. takes st y) idle ∙ ap (λ (ps : List Posted). takes_next ps y) ((e.handlers h).queue ∙ ap (map (posted_of n)) asked));
    }

pub callback_taken : (n : Numbering) (h k : ℕ) (is_creation : Bool) (w : machine.World) (s : State) (r : machine.Request) → IsHalfOf n w s →
    (s.handlers h).stage ≡ Awaits k is_creation → (w.handlers h).callback ≡ Some r →
    IsTaken n r h (machine.put h (record (w.handlers h) { callback = None }) w) (put h (takes (s.handlers h).stage (s.handlers h)) s)
callback_taken n h k is_creation w s r e waits called =
    let y = s.handlers h in
    record {
      count = e.count;
      rights = e.rights;
      others = λ k apart. rw (ne_eqb k h apart) (e.handlers k);
      before = record y { callback = None };
      half = rw (eq-eqb h h refl) (callback_left n (w.handlers h) y (e.handlers h));
      serving =
          rw (eq-eqb h h refl)
          (ap (λ st. takes st y) waits ∙ ap (λ (p : Option Posted). takes_callback p y) ((e.handlers h).callback ∙ ap (option_map (posted_of n)) called));
    }
