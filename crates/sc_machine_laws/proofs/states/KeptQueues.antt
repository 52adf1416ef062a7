-- Queues stay, or fall with their handler.
use Rattle.std.proofs.Common.{◌≡◌, ◌⊎◌, ⊎_elim, inl, inr, ℕ, ◌≤◌, List, [], ◌∷◌, ◌++◌, Option, Some, None, Bool, true, false, ◌==◌, refl, sym, ap, subst, ◌∙◌, arith}
use Rattle.std.proofs.lemmas.Bool.{eqb-true}
use Rattle.std.specs.Prelude.{◌&&◌, ◌||◌, not, if◌then◌else◌, is_some, length, nat_lt}
use Rattle.std.specs.Option.{option_map}
use Rattle.sc_tree.specs.Plain as tree
use Rattle.sc_tree.specs.Plain.{System, FeatureKind}
use Rattle.sc_class.specs.Tables.Features.{DeclaredFeature}
use Rattle.sc_rules.specs.declared.entity_types.entity_type.EntityType.{EntityType}
use Rattle.sc_rules.specs.Types.{declared_type}
use Rattle.sc_lockpass.specs.Passing.{Passed}
use Rattle.sc_lockpass.specs.declared.wait_conditions.session.Release.{Release}
use Rattle.sc_lockpass.specs.wait_conditions.Reservations.{reserve_fails}
use Rattle.sc_lockpass.specs.declared.wait_conditions.condition.EntryVerdict.{EntryVerdict}
use Rattle.sc_lockpass.specs.declared.wait_conditions.condition.EntryVerdict.TheVariants as verdict
use Rattle.sc_lockpass.specs.declared.wait_conditions.session.Release.TheVariants as release_at
use Rattle.sc_model.specs.declared.cause.Cause.{Cause}
use Rattle.sc_model.specs.declared.cause.Cause.TheVariants as cause
use Rattle.sc_model.specs.Values.{Reference, Value, Operand}
use Rattle.sc_model.specs.Environments.{Binding, binding_named, formals_bound}
use Rattle.sc_model.specs.Objects.{Object, object_numbered, fresh_object}
use Rattle.sc_model.specs.Invariants.{meets_invariant}
use Rattle.sc_model.specs.Routines.{Routine, version_of, routine_named, routine_of}
use Rattle.sc_model.specs.Limits.{max_frames}
use Rattle.sc_model.specs.Handlers.{Errand, Calls, Makes, Request, Answer, Reply, Failed, Refused, Origin, Called, Requested, Frame, Handler, World, put, with_stack}
use Rattle.sc_model.specs.Sessions.{standing_in}
use Rattle.sc_model.specs.Answers.{finish}
use Rattle.sc_model.specs.Failures.{fail, fails_with}
use Rattle.sc_model.specs.Entries.{entry, enters_bound, enters, reserves_if}
use Rattle.sc_model.specs.Asking.{passes, passes_or_releases}
use Rattle.sc_model.specs.Preconditions.{waits_again, is_creation, object_meets, counted_refusal, refuses, correctness_fails, false_clause}
use Rattle.sc_model.specs.Exits.{is_unset, is_unset_value, is_untested, handed, handed_as, leaves_to, exits, leaves_block}
use Rattle.sc_model.specs.Takes.{replies, takes_kind, takes_version, takes_creation, with_new_object, takes_errand, takes_callback, released_if, takes_answer}
use Rattle.sc_model.specs.Sessions.{session_ended, reserve, release}
use Rattle.sc_model.specs.Answers.{answered, answer_to, return_rights}
use Rattle.sc_model.specs.Failures.{told, fallen}

-- ---- queues that stay, or fall with their handler

pub record Kept (x y : Handler) : Type 0 where
  pub queue : (y.queue ≡ x.queue) ⊎ ((y.queue ≡ []) × (is_some y.failure ≡ true))
  pub failed : is_some x.failure ≡ true → is_some y.failure ≡ true

pub same_queue : (x y : Handler) → y.queue ≡ x.queue → y.failure ≡ x.failure → Kept x y
same_queue x y e f = record { queue = inl e; failed = λ d. ap is_some f ∙ d }

pub kept_trans : {x y z : Handler} → Kept x y → Kept y z → Kept x z
kept_trans {x} {y} {z} p q = record {
  queue = ⊎_elim
      (λ e. ⊎_elim (λ d. inl (e ∙ d)) (λ d. inr (e ∙ d.0, q.failed d.1)) p.queue)
      (λ f. inr f)
      q.queue;
  failed = λ d. q.failed (p.failed d);
}

pub record Keeps (h : ℕ) (w v : World) : Type 0 where
  pub each : (k : ℕ) → Kept (w.handlers k) (v.handlers k)

keeps_trans : {h : ℕ} {u v w : World} → Keeps h u v → Keeps h v w → Keeps h u w
keeps_trans p q = record { each = λ k. kept_trans (p.each k) (q.each k) }

keeps_same : (h : ℕ) (w v : World) → v.handlers ≡ w.handlers → w.count ≤ v.count → Keeps h w v
keeps_same h w v e c = record {
  each = λ k. same_queue (w.handlers k) (v.handlers k)
      (ap (λ (f : ℕ → Handler). (f k).queue) e) (ap (λ (f : ℕ → Handler). (f k).failure) e);
}

put_any : (h k : ℕ) (x : Handler) (w : World) → Kept (w.handlers k) x → Keeps h w (put k x w)
put_any h k x w g = record { each = λ j. by j (j == k) refl }
  where
    by : (j : ℕ) (b : Bool) → (j == k) ≡ b → Kept (w.handlers j) (if b then x else w.handlers j)
    by j true e = subst (λ y. Kept (w.handlers y) x) (sym (eqb-true j k e)) g
    by j false e = same_queue (w.handlers j) (w.handlers j) refl refl

pub put_own : (h : ℕ) (x : Handler) (w : World) → Kept (w.handlers h) x → Keeps h w (put h x w)
put_own h x w g = put_any h h x w g

pub stack_keeps : (h : ℕ) (stack : List Frame) (w : World) → Keeps h w (with_stack h stack w)
stack_keeps h stack w = put_own h (record (w.handlers h) { stack = stack }) w
    (same_queue (w.handlers h) (record (w.handlers h) { stack = stack }) refl refl)

session_kept : (b : Bool) (x : Handler) → Kept x (session_ended b x)
session_kept false x = same_queue x x refl refl
session_kept true x = same_queue x (session_ended true x) refl refl

reserve_keeps : (h : ℕ) (ks : List ℕ) (w : World) → Keeps h w (reserve h ks w)
reserve_keeps h ks w = keeps_same h w (reserve h ks w) refl (omega arith)

release_keeps : (h : ℕ) (how : Release) (ks : List ℕ) (w : World) → Keeps h w (release how ks w)
release_keeps h how ks w = record { each = λ k. session_kept _ (w.handlers k) }

returned_keeps : (h : ℕ) (p : Option Passed) (w : World) → Keeps h w (return_rights p w)
returned_keeps h None w = keeps_same h w w refl (omega arith)
returned_keeps h (Some p) w = keeps_same h w (return_rights (Some p) w) refl (omega arith)

answer_to_keeps : (h : ℕ) (b : Bool) (p : Option ℕ) (a : Answer) (w : World) → Keeps h w (answer_to b p a w)
answer_to_keeps h true (Some p) a w = put_any h p (answered a (w.handlers p)) w
    (same_queue (w.handlers p) (answered a (w.handlers p)) refl refl)
answer_to_keeps h true None a w = keeps_same h w w refl (omega arith)
answer_to_keeps h false p a w = keeps_same h w w refl (omega arith)

finish_keeps : (h : ℕ) (r : Request) (a : Answer) (w : World) → Keeps h w (finish r a w)
finish_keeps h r a w = keeps_trans (returned_keeps h r.passed w)
    (answer_to_keeps h r.is_waited r.poster a (return_rights r.passed w))

fails_kept : (b c d : Bool) (why : Cause) (x : Handler) → Kept x
    (session_ended b (if c then fallen why x else told d x))
fails_kept b true d why x = kept_trans (record { queue = inr (refl, refl); failed = λ _. refl })
    (session_kept b (fallen why x))
fails_kept b false true why x = kept_trans (same_queue x (told true x) refl refl) (session_kept b (told true x))
fails_kept b false false why x = session_kept b x

fails_keeps : (h : ℕ) (why : Cause) (taken : List Request) (w : World) → Keeps h w (fails_with h why taken w)
fails_keeps h why taken w = record { each = λ k. fails_kept _ (k == h) _ why (w.handlers k) }

pub fail_keeps : (h : ℕ) (why : Cause) (w : World) → Keeps h w (fail h why w)
fail_keeps h why w = fails_keeps h why [] w

if_keeps : (h : ℕ) (w : World) (b : Bool) (x y : World) → Keeps h w x → Keeps h w y → Keeps h w (if b then x else y)
if_keeps h w true x y p q = p
if_keeps h w false x y p q = q

pub stays : (h : ℕ) (w : World) → Keeps h w w
stays h w = keeps_same h w w refl (omega arith)

-- ---- entering

bound_keeps : (h : ℕ) (me : Reference) (r : Routine) (o : Origin) (below : List Frame) (taken : List Request)
    (bs : Option (List Binding)) (w : World) → Keeps h w (enters_bound h me r o below taken bs w)
bound_keeps h me r o below taken None w = fails_keeps h cause.BadCode taken w
bound_keeps h me r o below taken (Some bs) w =
    if_keeps h w (nat_lt (length below) max_frames) _ (fails_with h cause.StackFull taken w)
    (stack_keeps h (entry me r o bs ∷ below) w) (fails_keeps h cause.StackFull taken w)

pub enters_keeps : (s : System) (h : ℕ) (me : Reference) (r : Option Routine) (o : Origin) (below : List Frame)
    (taken : List Request) (vs : List Value) (w : World) → Keeps h w (enters s h me r o below taken vs w)
enters_keeps s h me None o below taken vs w = fails_keeps h cause.BadCode taken w
enters_keeps s h me (Some r) o below taken vs w = bound_keeps h me r o below taken
    (formals_bound s r.text.formals 0 r.text.formals vs) w

pub reserves_keeps : (b : Bool) (h : ℕ) (ks : List ℕ) (f : Frame) (below : List Frame) (w : World) → Keeps h w
    (reserves_if b h ks f below w)
reserves_keeps false h ks f below w = stays h w
reserves_keeps true h ks f below w =
    if_keeps h w (reserve_fails (standing_in w) w.rights ks) (fail h cause.SupplierFailed w) _
    (fail_keeps h cause.SupplierFailed w)
    (keeps_trans (stack_keeps h (f ∷ below) w) (reserve_keeps h ks (with_stack h (f ∷ below) w)))

passes_keeps : (h : ℕ) (b : Bool) (k : ℕ) (w : World) → Keeps h w (passes b h k w)
passes_keeps h false k w = stays h w
passes_keeps h true k w = keeps_same h w (passes true h k w) refl (omega arith)

released_keeps : (h : ℕ) (b : Bool) (k : ℕ) (w : World) → Keeps h w (passes_or_releases b h k w)
released_keeps h true k w = passes_keeps h true k w
released_keeps h false k w = release_keeps h release_at.Creation (k ∷ []) w

-- ---- preconditions

waits_again_keeps : (h : ℕ) (f : Frame) (below : List Frame) (w : World) → Keeps h w (waits_again h f below w)
waits_again_keeps h f below w = keeps_trans (stack_keeps h _ w)
    (release_keeps h release_at.FalseWaitCondition f.reserved _)

counted_grows : (b : Bool) (x : Handler) (stack : List Frame) → Kept x
    (counted_refusal b (record x { stack = stack }))
counted_grows true x stack = same_queue x (record x { stack = stack }) refl refl
counted_grows false x stack = same_queue x (counted_refusal false (record x { stack = stack })) refl refl

refuses_keeps : (s : System) (h : ℕ) (r : Request) (f : Frame) (below : List Frame) (w : World) → Keeps h w
    (refuses s h r f below w)
refuses_keeps s h r f below w =
    if_keeps h w (is_creation r.errand && not
    (object_meets s (object_numbered f.current.number (w.handlers h).objects))) (fail h cause.Invariant w) _
    (fail_keeps h cause.Invariant w)
    (keeps_trans (keeps_trans (put_own h (counted_refusal r.is_waited (record (w.handlers h) { stack = below })) w
    (counted_grows r.is_waited (w.handlers h) below)) (release_keeps h release_at.Refusal f.reserved _))
    (finish_keeps h r Refused _))

correctness_keeps : (s : System) (h : ℕ) (o : Origin) (f : Frame) (below : List Frame) (w : World) → Keeps h w
    (correctness_fails s h o f below w)
correctness_keeps s h (Called c) f below w = fail_keeps h cause.Precondition w
correctness_keeps s h (Requested r) f below w = refuses_keeps s h r f below w

pub clause_keeps : (v : EntryVerdict) (s : System) (h : ℕ) (f : Frame) (below : List Frame) (w : World) → Keeps h w
    (false_clause v s h f below w)
clause_keeps verdict.Wait s h f below w = waits_again_keeps h f below w
clause_keeps verdict.Refuse s h f below w = correctness_keeps s h f.origin f below w
clause_keeps verdict.Start s h f below w = fail_keeps h cause.BadCode w

-- ---- exits

leaves_to_keeps : (h : ℕ) (o : Origin) (ks : List ℕ) (v : Option Value) (below : List Frame) (w : World) → Keeps h w
    (leaves_to h o ks v below w)
leaves_to_keeps h (Called c) ks v below w = keeps_trans (stack_keeps h (handed v below) w)
    (release_keeps h release_at.Exit ks _)
leaves_to_keeps h (Requested r) ks v below w = keeps_trans
    (keeps_trans (stack_keeps h below w) (release_keeps h release_at.Exit ks _)) (finish_keeps h r (Reply v) _)

pub exits_keeps : (s : System) (h : ℕ) (f : Frame) (below : List Frame) (w : World) → Keeps h w (exits s h f below w)
exits_keeps s h f below w =
    if_keeps h w (is_unset f.result) (fail h cause.UnsetEntity w) _ (fail_keeps h cause.UnsetEntity w)
    (if_keeps h w (is_untested f.origin || object_meets s (object_numbered f.current.number (w.handlers h).objects)) _
    (fail h cause.Invariant w)
    (leaves_to_keeps h f.origin f.reserved (option_map (λ (u : Operand). u.value) f.result) below w)
    (fail_keeps h cause.Invariant w))

pub block_keeps : (h : ℕ) (kss : List (List ℕ)) (f : Frame) (below : List Frame) (w : World) → Keeps h w
    (leaves_block h kss f below w)
block_keeps h [] f below w = fail_keeps h cause.BadCode w
block_keeps h (ks ∷ kss) f below w = keeps_trans (stack_keeps h (record f { blocks = kss } ∷ below) w)
    (release_keeps h release_at.Leave ks _)

-- ---- taking

replies_keeps : (h : ℕ) (r : Request) (t : Option EntityType) (b : Option Binding) (w : World) → Keeps h w
    (replies h r t b w)
replies_keeps h r (Some t) (Some b) w =
    if_keeps h w (is_unset_value b.value t) (fails_with h cause.UnsetEntity (r ∷ []) w)
    (finish r (Reply (Some b.value)) w) (fails_keeps h cause.UnsetEntity (r ∷ []) w)
    (finish_keeps h r (Reply (Some b.value)) w)
replies_keeps h r (Some t) None w = fails_keeps h cause.BadCode (r ∷ []) w
replies_keeps h r None b w = fails_keeps h cause.BadCode (r ∷ []) w

kind_keeps : (s : System) (h : ℕ) (r : Request) (x : List ℕ) (below : List Frame) (o : Object) (f : DeclaredFeature)
    (k : FeatureKind) (w : World) → Keeps h w (takes_kind s h r x below o f k w)
kind_keeps s h r x below o f (tree.Attribute d) w = replies_keeps h r (declared_type s [] d)
    (binding_named x o.attributes) w
kind_keeps s h r x below o f (tree.Routine c) w = enters_keeps s h r.target (routine_of s f)
    (Requested r) below (r ∷ []) r.actuals w

version_keeps : (s : System) (h : ℕ) (r : Request) (x : List ℕ) (below : List Frame) (o : Option Object)
    (f : Option DeclaredFeature) (w : World) → Keeps h w (takes_version s h r x below o f w)
version_keeps s h r x below (Some o) (Some f) w = kind_keeps s h r x below o f f.feature.kind w
version_keeps s h r x below (Some o) None w = fails_keeps h cause.BadCode (r ∷ []) w
version_keeps s h r x below None f w = fails_keeps h cause.BadCode (r ∷ []) w

creation_keeps : (s : System) (h : ℕ) (r : Request) (k : Option (List ℕ)) (below : List Frame) (w : World) → Keeps h w
    (takes_creation s h r k below w)
creation_keeps s h r (Some x) below w = enters_keeps s h r.target (routine_named s r.target.class x)
    (Requested r) below (r ∷ []) r.actuals w
creation_keeps s h r None below w =
    if_keeps h w (meets_invariant s (fresh_object s r.target.class)) (finish r (Reply None) w)
    (fails_with h cause.Invariant (r ∷ []) w) (finish_keeps h r (Reply None) w)
    (fails_keeps h cause.Invariant (r ∷ []) w)

pub errand_keeps : (s : System) (h : ℕ) (r : Request) (e : Errand) (below : List Frame) (w : World) → Keeps h w
    (takes_errand s h r e below w)
errand_keeps s h r (Makes k) below w =
    keeps_trans (put_own h (record
    (w.handlers h) { objects = (w.handlers h).objects ++ fresh_object s r.target.class ∷ [] }) w
    (same_queue (w.handlers h) _ refl refl))
    (creation_keeps s h r k below (with_new_object s h r.target.class w))
errand_keeps s h r (Calls x) below w =
    if_keeps h w (r.target.handler == h) _ (fails_with h cause.ForeignObject (r ∷ []) w)
    (version_keeps s h r x below (object_numbered r.target.number (w.handlers h).objects)
    (version_of s r.target.class x) w) (fails_keeps h cause.ForeignObject (r ∷ []) w)

pub callback_keeps : (s : System) (h : ℕ) (r : Request) (stack : List Frame) (w : World) → Keeps h w
    (takes_callback s h r stack w)
callback_keeps s h r stack w =
    keeps_trans (put_own h (record (w.handlers h) { callback = None }) w (same_queue (w.handlers h) _ refl refl))
    (errand_keeps s h r r.errand stack (put h (record (w.handlers h) { callback = None }) w))

released_if_keeps : (h : ℕ) (b : Bool) (k : ℕ) (w : World) → Keeps h w (released_if b k w)
released_if_keeps h false k w = stays h w
released_if_keeps h true k w = release_keeps h release_at.Creation (k ∷ []) w

pub answer_keeps : (h : ℕ) (a : Answer) (k : ℕ) (g : Option EntityType) (b : Bool) (f : Frame) (below : List Frame)
    (w : World) → Keeps h w (takes_answer h a k g b f below w)
answer_keeps h (Reply v) k g b f below w =
    keeps_trans (put_own h (record (w.handlers h) { stack = handed_as g v f ∷ below; answer = None }) w
    (same_queue (w.handlers h) _ refl refl)) (released_if_keeps h b k _)
answer_keeps h Failed k g b f below w = fail_keeps h cause.SupplierFailed w
answer_keeps h Refused k g b f below w = fail_keeps h cause.Precondition w
