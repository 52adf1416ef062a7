-- What comes to stand at a handler where a routine is entered, asks, creates, or ends.
use Rattle.std.proofs.Common.{◌≡◌, ◌≢◌, ◌⊎◌, ⊎_elim, inl, inr, ℕ, ◌<◌, List, [], ◌∷◌, ◌++◌, Option, Some, None, Bool, true, false, ◌==◌, refl, sym, ap, subst, arith}
use Rattle.std.specs.Prelude.{◌&&◌, ◌||◌, not, if◌then◌else◌, is_some, length, nat_lt}
use Rattle.std.specs.Option.{option_map}
use Rattle.sc_tree.specs.Plain.{System}
use Rattle.sc_rules.specs.declared.entity_types.entity_type.EntityType.{EntityType}
use Rattle.sc_lockpass.specs.Rights.{held}
use Rattle.sc_lockpass.specs.wait_conditions.Reservations.{reserve_fails}
use Rattle.sc_lockpass.specs.declared.wait_conditions.condition.EntryVerdict.{EntryVerdict}
use Rattle.sc_lockpass.specs.declared.wait_conditions.condition.EntryVerdict.TheVariants as verdict
use Rattle.sc_lockpass.specs.declared.wait_conditions.session.Release.TheVariants as release_at
use Rattle.sc_model.specs.declared.cause.Cause.TheVariants as cause
use Rattle.sc_model.specs.Values.{Reference, Value, Attached, Operand, operand}
use Rattle.sc_model.specs.Environments.{Binding, formals_bound}
use Rattle.sc_model.specs.Objects.{object_numbered}
use Rattle.sc_model.specs.Routines.{Routine}
use Rattle.sc_model.specs.Limits.{max_frames, max_queue}
use Rattle.sc_model.specs.Handlers.{Calls, Makes, Request, Reply, Refused, Origin, Called, Requested, Stage, Runs, Reserves, ReservesBlock, InCall, Awaits, Frame, Handler, World, new_handler, put, with_stack}
use Rattle.sc_model.specs.Sessions.{standing_in}
use Rattle.sc_model.specs.Entries.{entry, enters_bound, enters, reserves_if}
use Rattle.sc_model.specs.Asking.{passes, placed, send, awaits_if, request_by, is_callback, asks, request, with_handler, passes_or_releases, created, creates_handler}
use Rattle.sc_model.specs.Preconditions.{waits_again, is_creation, object_meets, counted_refusal, refuses, correctness_fails, false_clause}
use Rattle.sc_model.specs.Exits.{is_unset, is_untested, handed, handed_as, handed_at, leaves_to, exits, leaves_block}
use Rattle.sc_model.specs.Sessions.{release}
use Rattle.sc_model.specs.Failures.{request_of}
use Rattle.sc_machine_laws.proofs.states.Rights.{differs}
use Rattle.sc_machine_laws.proofs.states.Waits.{true_false}
use Rattle.sc_machine_laws.proofs.states.StandingRequests.{Brings, BringsAt, Has, Stacks, StandsAt, begun_in, brings_trans, fail_brings, fails_brings, finish_brings, has_cases, has_right, if_brings, put_brings, release_brings, stack_brings, stays}

-- ---- entering

bound_brings : (N : ℕ → Request → Type 0) (h : ℕ) (me : Reference) (r : Routine) (o : Origin) (below : List Frame)
    (taken : List Request) (bs : Option (List Binding)) (w : World)
    → ((b : List Binding) → Stacks N h w (entry me r o b ∷ below)) → Brings N w
    (enters_bound h me r o below taken bs w)
bound_brings N h me r o below taken None w ok = fails_brings N h cause.BadCode taken w
bound_brings N h me r o below taken (Some bs) w ok =
    if_brings N w (nat_lt (length below) max_frames) _ _ (λ _. stack_brings N h (entry me r o bs ∷ below) w (ok bs))
    (λ _. fails_brings N h cause.StackFull taken w)

pub enters_brings : (N : ℕ → Request → Type 0) (s : System) (h : ℕ) (me : Reference) (r : Option Routine) (o : Origin)
    (below : List Frame) (taken : List Request) (vs : List Value) (w : World)
    → ((q : Request) → Has q (request_of o ++ begun_in below) → StandsAt q (w.handlers h) ⊎ N h q) → Brings N w
    (enters s h me r o below taken vs w)
enters_brings N s h me None o below taken vs w ok = fails_brings N h cause.BadCode taken w
enters_brings N s h me (Some r) o below taken vs w ok = bound_brings N h me r o below taken
    (formals_bound s r.text.formals 0 r.text.formals vs) w (λ b q i. ok q i)

pub reserves_brings : (N : ℕ → Request → Type 0) (b : Bool) (h : ℕ) (ks : List ℕ) (f : Frame) (below : List Frame)
    (w : World) → Stacks N h w (f ∷ below) → Brings N w (reserves_if b h ks f below w)
reserves_brings N false h ks f below w ok = stays N w
reserves_brings N true h ks f below w ok =
    if_brings N w (reserve_fails (standing_in w) w.rights ks) _ _ (λ _. fail_brings N h cause.SupplierFailed w)
    (λ _. brings_trans (stack_brings N h (f ∷ below) w ok) (record { brings = λ k r i. inl i }))

-- ---- posting and asking

passes_brings : (N : ℕ → Request → Type 0) (b : Bool) (h k : ℕ) (w : World) → Brings N w (passes b h k w)
passes_brings N false h k w = stays N w
passes_brings N true h k w = record { brings = λ j r i. inl i }

placed_at : (N : ℕ → Request → Type 0) (k : ℕ) (b : Bool) (q : Request) (x : Handler) → N k q → BringsAt N k x
    (placed b q x)
placed_at N k true q x new r (inl i) = inl (inl i)
placed_at N k true q x new r (inr (inl (inl e))) = inr (subst (N k) e new)
placed_at N k true q x new r (inr (inl (inr i))) = absurd i
placed_at N k true q x new r (inr (inr i)) = inl (inr (inr i))
placed_at N k false q x new r (inl i) = ⊎_elim
    (λ a. inl (inl a))
    (λ b. ⊎_elim (λ e. inr (subst (N k) e new)) (λ none. absurd none) b)
    (has_cases r x.queue (q ∷ []) i)
placed_at N k false q x new r (inr i) = inl (inr i)

send_brings : (N : ℕ → Request → Type 0) (b : Bool) (k : ℕ) (q : Request) (w : World) → N k q → Brings N w
    (send b k q w)
send_brings N b k q w new = put_brings N k (placed b q (w.handlers k)) w (placed_at N k b q (w.handlers k) new)

-- a frame that awaits or goes on has the same request
awaits_same : (b : Bool) (k : ℕ) (g : Option EntityType) (c : Bool) (f : Frame) (below : List Frame) → begun_in
    (awaits_if b k g c f ∷ below) ≡ begun_in (f ∷ below)
awaits_same true k g c f below = refl
awaits_same false k g c f below = refl

asks_brings : (N : ℕ → Request → Type 0) (h : ℕ) (r : Reference) (x : List ℕ) (us : List Operand)
    (g : Option EntityType) (passing waiting : Bool) (f : Frame) (below : List Frame) (w : World)
    → Stacks N h w (f ∷ below) → ((q : Request) → q.poster ≡ Some h → N r.handler q) → Brings N w
    (asks h r x us g passing waiting f below w)
asks_brings N h r x us g passing waiting f below w ok new =
    let stack : List Frame = awaits_if waiting r.handler g false f ∷ below in
    let u = with_stack h (awaits_if waiting r.handler g false f ∷ below) w in
    let q = request_by h r (Calls x) us waiting passing w in
    let v = send (is_callback h r.handler w) r.handler q u in
    brings_trans
    (brings_trans (stack_brings N h stack w
    (λ p i. ok p (subst (Has p) (awaits_same waiting r.handler g false f below) i)))
    (send_brings N (is_callback h r.handler w) r.handler q u (new q refl)))
    (passes_brings N passing h r.handler v)

pub request_brings : (N : ℕ → Request → Type 0) (h : ℕ) (r : Reference) (x : List ℕ) (us : List Operand)
    (g : Option EntityType) (passing : Bool) (f : Frame) (below : List Frame) (w : World)
    → Stacks N h w (f ∷ below) → (held w.rights h r.handler ≡ true → (q : Request) → q.poster ≡ Some h
    → N r.handler q) → Brings N w (request h r x us g passing f below w)
request_brings N h r x us g passing f below w ok new =
    if_brings N w (not (held w.rights h r.handler)) _ _ (λ _. fail_brings N h cause.NotHeld w)
    (λ holds. if_brings N w (is_some (w.handlers r.handler).failure) _ _ (λ _. fail_brings N h cause.SupplierFailed w)
    (λ _. if_brings N w (not (is_callback h r.handler w) && not
    (nat_lt (length (w.handlers r.handler).queue) max_queue)) _ _ (λ _. fail_brings N h cause.QueueFull w)
    (λ _. asks_brings N h r x us g passing (passing || is_some g || is_callback h r.handler w) f below w ok
    (new (positive (held w.rights h r.handler) holds)))))
  where
    positive : (b : Bool) → not b ≡ false → b ≡ true
    positive true e = refl
    positive false e = true_false e

-- ---- creations of handlers

with_handler_brings : (N : ℕ → Request → Type 0) (k h : ℕ) (w : World) → Brings N w (with_handler k h w)
with_handler_brings N k h w = record { brings = λ j r i. by j r (j == k) i }
  where
    by : (j : ℕ) (r : Request) (b : Bool) → StandsAt r (if b then new_handler else w.handlers j) → StandsAt r
        (w.handlers j) ⊎ N j r
    by j r true i = absurd (⊎_elim (λ a. a) (λ o. ⊎_elim (λ a. a) (λ a. a) o) i)
    by j r false i = inl i

-- a handler other than the new one stands as it stood
with_handler_other : (k h j : ℕ) (w : World) → j ≢ k → (with_handler k h w).handlers j ≡ w.handlers j
with_handler_other k h j w ne = ap (λ (b : Bool). if b then new_handler else w.handlers j) (differs j k ne)

released_brings : (N : ℕ → Request → Type 0) (b : Bool) (h k : ℕ) (w : World) → Brings N w
    (passes_or_releases b h k w)
released_brings N true h k w = passes_brings N true h k w
released_brings N false h k w = release_brings N release_at.Creation (k ∷ []) w

created_brings : (N : ℕ → Request → Type 0) (h : ℕ) (r : Reference) (procedure : Option (List ℕ)) (us : List Operand)
    (t : EntityType) (passing : Bool) (f : Frame) (below : List Frame) (w : World) → h ≢ r.handler
    → Stacks N h w (f ∷ below) → ((q : Request) → q.poster ≡ Some h → N r.handler q) → Brings N w
    (created h r procedure us t passing f below w)
created_brings N h r procedure us t passing f below w other ok new =
    let k = r.handler in
    let u = with_handler r.handler h w in
    let stack : List Frame = awaits_if passing r.handler None true
    (record f { values = operand (Attached r) t ∷ f.values }) ∷ below in
    let z = with_stack h (awaits_if passing r.handler None true
    (record f { values = operand (Attached r) t ∷ f.values }) ∷ below) u in
    let q = request_by h r (Makes procedure) us passing passing u in
    let v = send false r.handler q z in
    brings_trans
    (brings_trans (with_handler_brings N k h w)
    (brings_trans
    (stack_brings N h stack u (λ p i. subst (λ y. StandsAt p y ⊎ N h p) (sym (with_handler_other k h h w other))
    (ok p (subst (Has p) (awaits_same passing k None true
    (record f { values = operand (Attached r) t ∷ f.values }) below) i))))
    (send_brings N false k q z (new q refl))))
    (released_brings N passing h k v)

pub creates_brings : (N : ℕ → Request → Type 0) (most h class : ℕ) (procedure : Option (List ℕ)) (us : List Operand)
    (t : EntityType) (passing : Bool) (f : Frame) (below : List Frame) (w : World) → h < w.count
    → Stacks N h w (f ∷ below) → ((q : Request) → q.poster ≡ Some h → N w.count q) → Brings N w
    (creates_handler most h class procedure us t passing f below w)
creates_brings N most h class procedure us t passing f below w here ok new =
    if_brings N w (nat_lt w.count most) _ _
    (λ _. created_brings N h (record { handler = w.count; number = 1; class = class }) procedure us t passing f below
    w (λ e. absurd (omega (arith, e, here))) ok new)
    (λ _. fail_brings N h cause.TooManyHandlers w)

-- ---- preconditions and exits

waits_again_brings : (N : ℕ → Request → Type 0) (h : ℕ) (f : Frame) (below : List Frame) (w : World) → Stacks N h w
    (f ∷ below) → Brings N w (waits_again h f below w)
waits_again_brings N h f below w ok = brings_trans (stack_brings N h _ w ok)
    (release_brings N release_at.FalseWaitCondition f.reserved _)

counted_at : (N : ℕ → Request → Type 0) (h : ℕ) (b : Bool) (below : List Frame) (w : World) → Stacks N h w below
    → BringsAt N h (w.handlers h) (counted_refusal b (record (w.handlers h) { stack = below }))
counted_at N h true below w ok r i = ⊎_elim (λ a. inl (inl a))
    (λ o. ⊎_elim (λ a. inl (inr (inl a))) (λ b. ok r b) o) i
counted_at N h false below w ok r i = ⊎_elim (λ a. inl (inl a))
    (λ o. ⊎_elim (λ a. inl (inr (inl a))) (λ b. ok r b) o) i

refuses_brings : (N : ℕ → Request → Type 0) (s : System) (h : ℕ) (r : Request) (f : Frame) (below : List Frame)
    (w : World) → Stacks N h w below → Brings N w (refuses s h r f below w)
refuses_brings N s h r f below w ok =
    if_brings N w (is_creation r.errand && not
    (object_meets s (object_numbered f.current.number (w.handlers h).objects))) _ _
    (λ _. fail_brings N h cause.Invariant w)
    (λ _. let u = put h (counted_refusal r.is_waited (record (w.handlers h) { stack = below })) w in
    let v = release release_at.Refusal f.reserved u in
    brings_trans
    (brings_trans (put_brings N h _ w (counted_at N h r.is_waited below w ok))
    (release_brings N release_at.Refusal f.reserved u)) (finish_brings N r Refused v))

-- the frames below stand where all did
below_stacks : (N : ℕ → Request → Type 0) (h : ℕ) (w : World) (f : Frame) (below : List Frame) → Stacks N h w
    (f ∷ below) → Stacks N h w below
below_stacks N h w f below ok r i = ok r (has_right r (request_of f.origin) (begun_in below) i)

pub clause_brings : (N : ℕ → Request → Type 0) (v : EntryVerdict) (s : System) (h : ℕ) (f : Frame) (below : List Frame)
    (w : World) → Stacks N h w (f ∷ below) → Brings N w (false_clause v s h f below w)
clause_brings N verdict.Wait s h f below w ok = waits_again_brings N h f below w ok
clause_brings N verdict.Refuse s h f below w ok = by f.origin
  where
    by : (o : Origin) → Brings N w (correctness_fails s h o f below w)
    by (Called c) = fail_brings N h cause.Precondition w
    by (Requested r) = refuses_brings N s h r f below w (below_stacks N h w f below ok)
clause_brings N verdict.Start s h f below w ok = fail_brings N h cause.BadCode w

pub handed_same : (g : Option EntityType) (v : Option Value) (f : Frame) → (handed_as g v f).origin ≡ f.origin
handed_same (Some t) (Some v) f = refl
handed_same (Some t) None f = refl
handed_same None v f = refl

handed_at_same : (stage : Stage) (v : Option Value) (f : Frame) → (handed_at stage v f).origin ≡ f.origin
handed_at_same (InCall g) v f = handed_same g v f
handed_at_same Runs v f = refl
handed_at_same Reserves v f = refl
handed_at_same ReservesBlock v f = refl
handed_at_same (Awaits k g c) v f = refl

handed_begun : (v : Option Value) (below : List Frame) → begun_in (handed v below) ≡ begun_in below
handed_begun v [] = refl
handed_begun v (f ∷ below) = ap (λ o. request_of o ++ begun_in below) (handed_at_same f.stage v f)

leaves_to_brings : (N : ℕ → Request → Type 0) (h : ℕ) (o : Origin) (ks : List ℕ) (v : Option Value)
    (below : List Frame) (w : World) → Stacks N h w below → Brings N w (leaves_to h o ks v below w)
leaves_to_brings N h (Called c) ks v below w ok =
    brings_trans (stack_brings N h (handed v below) w (λ r i. ok r (subst (Has r) (handed_begun v below) i)))
    (release_brings N release_at.Exit ks _)
leaves_to_brings N h (Requested r) ks v below w ok =
    brings_trans (brings_trans (stack_brings N h below w ok) (release_brings N release_at.Exit ks _))
    (finish_brings N r (Reply v) _)

pub exits_brings : (N : ℕ → Request → Type 0) (s : System) (h : ℕ) (f : Frame) (below : List Frame) (w : World)
    → Stacks N h w (f ∷ below) → Brings N w (exits s h f below w)
exits_brings N s h f below w ok =
    if_brings N w (is_unset f.result) _ _ (λ _. fail_brings N h cause.UnsetEntity w)
    (λ _. if_brings N w (is_untested f.origin || object_meets s
    (object_numbered f.current.number (w.handlers h).objects)) _ _
    (λ _. leaves_to_brings N h f.origin f.reserved (option_map (λ (u : Operand). u.value) f.result) below w
    (below_stacks N h w f below ok)) (λ _. fail_brings N h cause.Invariant w))

pub block_brings : (N : ℕ → Request → Type 0) (h : ℕ) (kss : List (List ℕ)) (f : Frame) (below : List Frame) (w : World)
    → Stacks N h w (f ∷ below) → Brings N w (leaves_block h kss f below w)
block_brings N h [] f below w ok = fail_brings N h cause.BadCode w
block_brings N h (ks ∷ kss) f below w ok = brings_trans (stack_brings N h (record f { blocks = kss } ∷ below) w ok)
    (release_brings N release_at.Leave ks _)
