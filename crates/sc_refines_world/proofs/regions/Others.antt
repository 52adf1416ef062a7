-- In a turn of a handler all others keep what a region sees of them, and one that is created is new.
use Rattle.std.proofs.Common.{◌≡◌, ◌⊎◌, inl, inr, ◌==◌, ℕ, ◌<◌, ◌≤◌, Bool, true, false, List, [], ◌∷◌, ◌++◌, Option, Some, None, refl, sym, ap, subst, ◌∙◌, arith}
use Rattle.std.proofs.lemmas.Bool.{cases_lt, le-ltb, eq-eqb, ne_eqb}
use Rattle.std.specs.Prelude.{◌&&◌, ◌||◌, not, if◌then◌else◌, is_some, length, nat_lt}
use Rattle.std.specs.Option.{option_map, option_map_or}
use Rattle.sc_tree.specs.Plain as tree
use Rattle.sc_tree.specs.Plain.{System, FeatureKind}
use Rattle.sc_class.specs.Tables.Features.{DeclaredFeature}
use Rattle.sc_rules.specs.declared.entity_types.entity_type.EntityType.{EntityType}
use Rattle.sc_rules.specs.Types.{declared_type}
use Rattle.sc_lockpass.specs.Rights.{held}
use Rattle.sc_lockpass.specs.wait_conditions.Reservations.{reserve_fails}
use Rattle.sc_lockpass.specs.declared.wait_conditions.condition.EntryVerdict.{EntryVerdict}
use Rattle.sc_lockpass.specs.declared.wait_conditions.condition.EntryVerdict.TheVariants as verdict
use Rattle.sc_lockpass.specs.declared.wait_conditions.session.Release.{Release}
use Rattle.sc_lockpass.specs.declared.wait_conditions.session.Release.TheVariants as release_at
use Rattle.sc_model.specs.declared.cause.Cause.{Cause}
use Rattle.sc_model.specs.declared.cause.Cause.TheVariants as cause
use Rattle.sc_model.specs.Values.{Reference, Value, Operand, values_of}
use Rattle.sc_model.specs.Environments.{Binding, binding_named, formals_bound}
use Rattle.sc_model.specs.Objects.{Object, object_numbered, fresh_object}
use Rattle.sc_model.specs.Invariants.{meets_invariant}
use Rattle.sc_model.specs.Routines.{Routine, version_of, routine_named, routine_of}
use Rattle.sc_model.specs.Limits.{max_frames, max_queue}
use Rattle.sc_model.specs.Steps.{Act, Prints, Until, Creates, CreatesHandler, Enters, Requests, Starts, Refuses, Opens, Leaves, Exits, Fails, Step, Goes, Does}
use Rattle.sc_model.specs.Moves.{moves}
use Rattle.sc_model.specs.Handlers.{Errand, Calls, Makes, Request, Answer, Reply, Failed, Refused, Origin, Called, Requested, Stage, Runs, Reserves, ReservesBlock, InCall, Awaits, Frame, Handler, World, new_handler, put, with_stack, point_of, frame_at}
use Rattle.sc_model.specs.Sessions.{standing_in, reserve, release}
use Rattle.sc_model.specs.Answers.{answer_to, return_rights, finish}
use Rattle.sc_lockpass.specs.Passing.{Passed}
use Rattle.sc_model.specs.Failures.{fail, fails_with}
use Rattle.sc_model.specs.Entries.{entry, enters_bound, enters, reserves_if, may_reserve, entry_needs, block_needs}
use Rattle.sc_model.specs.Asking.{passes, send, awaits_if, request_by, is_callback, asks, request, with_handler, posts_creation, passes_or_releases, created, creates_handler}
use Rattle.sc_model.specs.Preconditions.{verdict_on, waits_again, is_creation, object_meets, counted_refusal, refuses, correctness_fails, false_clause}
use Rattle.sc_model.specs.Exits.{is_unset, is_unset_value, is_untested, handed, handed_as, leaves_to, exits, leaves_block}
use Rattle.sc_model.specs.Takes.{replies, takes_kind, takes_version, takes_creation, with_new_object, takes_errand, takes_next, takes_callback, released_if, takes_answer}
use Rattle.sc_model.specs.Turns.{turn, turn_with, goes_on, settles, effect, waits}
use Rattle.sc_class.specs.ClassNames.{number_of}
use Rattle.sc_model.specs.Runs.{root_request}
use Rattle.sc_refines_world.specs.regions.RegionTurns.{new_half}
use Rattle.sc_refines_world.specs.regions.RegionHalves.{IsRegionHalf}
use Rattle.sc_refines_world.specs.regions.Joined.{CreatedAreNew, OpensAsNew}
use Rattle.sc_refines_world.proofs.regions.Halves.{half_alike}
use Rattle.sc_refines_world.proofs.regions.Alike.{IsAlike, alike, alike_then, other, release_alike, passes_alike, send_alike, finish_alike, others_stay}

-- a turn of the handler of the number leads from one world to the other
pub record Leads (h : ℕ) (w v : World) : Type 0 where
  pub others : (k : ℕ) → k < w.count → (k ≡ h → ⊥) → IsAlike (w.handlers k) (v.handlers k)
  pub counts : w.count ≤ v.count
  pub created : h < w.count → (k : ℕ) → w.count ≤ k → k < v.count → IsAlike new_handler (v.handlers k)

-- ---- worlds

-- as many handlers, of which each is seen alike
leads_each : (h : ℕ) (w v : World) → ((k : ℕ) → (k ≡ h → ⊥) → IsAlike (w.handlers k) (v.handlers k)) → v.count ≡ w.count → Leads h w v
leads_each h w v f same = record {
  others = λ k l apart. f k apart;
  counts = omega (arith, same);
  created = λ mine k few less. absurd (omega (arith, same, few, less));
}

leads_trans : {h : ℕ} {u v w : World} → Leads h u v → Leads h v w → Leads h u w
leads_trans {h} {u} {v} {w} p q =
    let first = p.counts in
    let second = q.counts in
    record {
      others = λ k l apart. alike_then (p.others k l apart) (q.others k (omega (arith, l, first)) apart);
      counts = omega (arith, first, second);
      created = λ mine k few less. elim (cases_lt k v.count) [
        | inl small ↦ alike_then (p.created mine k few small) (q.others k small (λ e. absurd (omega (arith, e, mine, few))))
        | inr many ↦ q.created (omega (arith, mine, first)) k many less
      ];
    }

stays : (h : ℕ) (w : World) → Leads h w w
stays h w = leads_each h w w (λ k apart. alike (w.handlers k)) refl

-- the handler itself changes
put_own : (h : ℕ) (x : Handler) (w : World) → Leads h w (put h x w)
put_own h x w = leads_each h w (put h x w) (λ k apart. subst (λ (y : Handler). IsAlike (w.handlers k) y) (sym (other h x w k apart)) (alike (w.handlers k))) refl

stack_leads : (h : ℕ) (stack : List Frame) (w : World) → Leads h w (with_stack h stack w)
stack_leads h stack w = put_own h _ w

reserve_leads : (h : ℕ) (ks : List ℕ) (w : World) → Leads h w (reserve h ks w)
reserve_leads h ks w = leads_each h w (reserve h ks w) (λ k apart. alike (w.handlers k)) refl

release_leads : (h : ℕ) (how : Release) (ks : List ℕ) (w : World) → Leads h w (release how ks w)
release_leads h how ks w = leads_each h w (release how ks w) (λ k apart. release_alike how ks w k) refl

finish_count : (r : Request) (a : Answer) (w : World) → (finish r a w).count ≡ w.count
finish_count r a w = answer r.is_waited r.poster (return_rights r.passed w) ∙ returned r.passed
  where
    returned : (p : Option Passed) → (return_rights p w).count ≡ w.count
    returned None = refl
    returned (Some p) = refl

    answer : (b : Bool) (p : Option ℕ) (v : World) → (answer_to b p a v).count ≡ v.count
    answer true (Some p) v = refl
    answer true None v = refl
    answer false p v = refl

finish_leads : (h : ℕ) (r : Request) (a : Answer) (w : World) → Leads h w (finish r a w)
finish_leads h r a w = leads_each h w (finish r a w) (λ k apart. finish_alike r a w k) (finish_count r a w)

fails_leads : (h : ℕ) (why : Cause) (taken : List Request) (w : World) → Leads h w (fails_with h why taken w)
fails_leads h why taken w = leads_each h w (fails_with h why taken w) (λ k apart. others_stay h why taken w k apart) refl

fail_leads : (h : ℕ) (why : Cause) (w : World) → Leads h w (fail h why w)
fail_leads h why w = fails_leads h why [] w

if_leads : (h : ℕ) (w : World) (b : Bool) (x y : World) → Leads h w x → Leads h w y → Leads h w (if b then x else y)
if_leads h w true x y p q = p
if_leads h w false x y p q = q

send_leads : (h : ℕ) (b : Bool) (k : ℕ) (r : Request) (w : World) → Leads h w (send b k r w)
send_leads h b k r w = leads_each h w (send b k r w) (λ j apart. send_alike b k r w j) refl

passes_count : (b : Bool) (h k : ℕ) (w : World) → (passes b h k w).count ≡ w.count
passes_count false h k w = refl
passes_count true h k w = refl

passes_leads : (h : ℕ) (b : Bool) (k : ℕ) (w : World) → Leads h w (passes b h k w)
passes_leads h b k w = leads_each h w (passes b h k w) (λ j apart. passes_alike b h k w j) (passes_count b h k w)

-- ---- entries

bound_leads : (h : ℕ) (me : Reference) (r : Routine) (o : Origin) (below : List Frame) (taken : List Request) (bs : Option (List Binding)) (w : World) → Leads h w (enters_bound h me r o below taken bs w)
bound_leads h me r o below taken None w = fails_leads h cause.BadCode taken w
bound_leads h me r o below taken (Some bs) w =
    if_leads h w (nat_lt (length below) max_frames) _ (fails_with h cause.StackFull taken w) (stack_leads h (entry me r o bs ∷ below) w) (fails_leads h cause.StackFull taken w)

enters_leads : (s : System) (h : ℕ) (me : Reference) (r : Option Routine) (o : Origin) (below : List Frame) (taken : List Request) (vs : List Value) (w : World) → Leads h w (enters s h me r o below taken vs w)
enters_leads s h me None o below taken vs w = fails_leads h cause.BadCode taken w
enters_leads s h me (Some r) o below taken vs w = bound_leads h me r o below taken (formals_bound s r.text.formals 0 r.text.formals vs) w

reserves_leads : (b : Bool) (h : ℕ) (ks : List ℕ) (f : Frame) (below : List Frame) (w : World) → Leads h w (reserves_if b h ks f below w)
reserves_leads false h ks f below w = stays h w
reserves_leads true h ks f below w =
    if_leads h w (reserve_fails (standing_in w) w.rights ks) (fail h cause.SupplierFailed w) _
    (fail_leads h cause.SupplierFailed w)
    (leads_trans (stack_leads h (f ∷ below) w) (reserve_leads h ks (with_stack h (f ∷ below) w)))

-- ---- posting and asking

asks_leads : (h : ℕ) (r : Reference) (x : List ℕ) (us : List Operand) (g : Option EntityType) (passing waiting : Bool) (f : Frame) (below : List Frame) (w : World) →
    Leads h w (asks h r x us g passing waiting f below w)
asks_leads h r x us g passing waiting f below w =
    let w1 : World = with_stack h (awaits_if waiting r.handler g false f ∷ below) w in
    let q : Request = request_by h r (Calls x) us waiting passing w in
    let b : Bool = is_callback h r.handler w in
    leads_trans (leads_trans (stack_leads h (awaits_if waiting r.handler g false f ∷ below) w) (send_leads h b r.handler q w1))
    (passes_leads h passing r.handler (send b r.handler q w1))

request_leads : (h : ℕ) (r : Reference) (x : List ℕ) (us : List Operand) (g : Option EntityType) (passing : Bool) (f : Frame) (below : List Frame) (w : World) →
    Leads h w (request h r x us g passing f below w)
request_leads h r x us g passing f below w =
    if_leads h w (not (held w.rights h r.handler)) (fail h cause.NotHeld w) _ (fail_leads h cause.NotHeld w)
    (if_leads h w (is_some (w.handlers r.handler).failure) (fail h cause.SupplierFailed w) _ (fail_leads h cause.SupplierFailed w)
    (if_leads h w (not (is_callback h r.handler w) && not (nat_lt (length (w.handlers r.handler).queue) max_queue)) (fail h cause.QueueFull w) _ (fail_leads h cause.QueueFull w)
    (asks_leads h r x us g passing (passing || is_some g || is_callback h r.handler w) f below w)))

-- ---- creations of handlers

with_handler_leads : (h holder : ℕ) (w : World) → Leads h w (with_handler w.count holder w)
with_handler_leads h holder w = record {
  others = λ j n apart. subst (λ (b : Bool). IsAlike (w.handlers j) (if b then new_handler else w.handlers j)) (sym (ne_eqb j w.count (λ e. absurd (omega (arith, e, n))))) (alike (w.handlers j));
  counts = omega arith;
  created = λ mine j few less. subst (λ (b : Bool). IsAlike new_handler (if b then new_handler else w.handlers j)) (sym (eq-eqb j w.count (omega (arith, few, less)))) (alike new_handler);
}

released_leads : (h : ℕ) (b : Bool) (k : ℕ) (w : World) → Leads h w (passes_or_releases b h k w)
released_leads h true k w = passes_leads h true k w
released_leads h false k w = release_leads h release_at.Creation (k ∷ []) w

created_leads : (h class : ℕ) (procedure : Option (List ℕ)) (us : List Operand) (t : EntityType) (passing : Bool) (f : Frame) (below : List Frame) (w : World) →
    Leads h w (created h (record { handler = w.count; number = 1; class = class }) procedure us t passing f below w)
created_leads h class procedure us t passing f below w =
    let r : Reference = record { handler = w.count; number = 1; class = class } in
    let w1 : World = with_handler w.count h w in
    leads_trans (leads_trans (leads_trans (with_handler_leads h h w) (stack_leads h _ w1)) (send_leads h false w.count _ _))
    (released_leads h passing w.count (posts_creation h r procedure us t passing f below w1))

creates_leads : (most h class : ℕ) (procedure : Option (List ℕ)) (us : List Operand) (t : EntityType) (passing : Bool) (f : Frame) (below : List Frame) (w : World)
    → Leads h w (creates_handler most h class procedure us t passing f below w)
creates_leads most h class procedure us t passing f below w =
    if_leads h w (nat_lt w.count most) _ (fail h cause.TooManyHandlers w) (created_leads h class procedure us t passing f below w) (fail_leads h cause.TooManyHandlers w)

-- ---- preconditions

waits_again_leads : (h : ℕ) (f : Frame) (below : List Frame) (w : World) → Leads h w (waits_again h f below w)
waits_again_leads h f below w = leads_trans (stack_leads h _ w) (release_leads h release_at.FalseWaitCondition f.reserved _)

refuses_leads : (s : System) (h : ℕ) (r : Request) (f : Frame) (below : List Frame) (w : World) → Leads h w (refuses s h r f below w)
refuses_leads s h r f below w =
    if_leads h w (is_creation r.errand && not (object_meets s (object_numbered f.current.number (w.handlers h).objects))) (fail h cause.Invariant w) _ (fail_leads h cause.Invariant w)
    (leads_trans (leads_trans (put_own h (counted_refusal r.is_waited (record (w.handlers h) { stack = below })) w) (release_leads h release_at.Refusal f.reserved _)) (finish_leads h r Refused _))

correctness_leads : (s : System) (h : ℕ) (o : Origin) (f : Frame) (below : List Frame) (w : World) → Leads h w (correctness_fails s h o f below w)
correctness_leads s h (Called c) f below w = fail_leads h cause.Precondition w
correctness_leads s h (Requested r) f below w = refuses_leads s h r f below w

clause_leads : (v : EntryVerdict) (s : System) (h : ℕ) (f : Frame) (below : List Frame) (w : World) → Leads h w (false_clause v s h f below w)
clause_leads verdict.Wait s h f below w = waits_again_leads h f below w
clause_leads verdict.Refuse s h f below w = correctness_leads s h f.origin f below w
clause_leads verdict.Start s h f below w = fail_leads h cause.BadCode w

-- ---- exits

leaves_to_leads : (h : ℕ) (o : Origin) (ks : List ℕ) (v : Option Value) (below : List Frame) (w : World) → Leads h w (leaves_to h o ks v below w)
leaves_to_leads h (Called c) ks v below w = leads_trans (stack_leads h (handed v below) w) (release_leads h release_at.Exit ks _)
leaves_to_leads h (Requested r) ks v below w = leads_trans (leads_trans (stack_leads h below w) (release_leads h release_at.Exit ks _)) (finish_leads h r (Reply v) _)

exits_leads : (s : System) (h : ℕ) (f : Frame) (below : List Frame) (w : World) → Leads h w (exits s h f below w)
exits_leads s h f below w =
    if_leads h w (is_unset f.result) (fail h cause.UnsetEntity w) _ (fail_leads h cause.UnsetEntity w)
    (if_leads h w (is_untested f.origin || object_meets s (object_numbered f.current.number (w.handlers h).objects)) _ (fail h cause.Invariant w)
    (leaves_to_leads h f.origin f.reserved (option_map (λ (u : Operand). u.value) f.result) below w) (fail_leads h cause.Invariant w))

block_leads : (h : ℕ) (kss : List (List ℕ)) (f : Frame) (below : List Frame) (w : World) → Leads h w (leaves_block h kss f below w)
block_leads h [] f below w = fail_leads h cause.BadCode w
block_leads h (ks ∷ kss) f below w = leads_trans (stack_leads h (record f { blocks = kss } ∷ below) w) (release_leads h release_at.Leave ks _)

-- ---- taking

replies_leads : (h : ℕ) (r : Request) (t : Option EntityType) (b : Option Binding) (w : World) → Leads h w (replies h r t b w)
replies_leads h r (Some t) (Some b) w =
    if_leads h w (is_unset_value b.value t) (fails_with h cause.UnsetEntity (r ∷ []) w) (finish r (Reply (Some b.value)) w) (fails_leads h cause.UnsetEntity (r ∷ []) w) (finish_leads h r (Reply (Some b.value)) w)
replies_leads h r (Some t) None w = fails_leads h cause.BadCode (r ∷ []) w
replies_leads h r None b w = fails_leads h cause.BadCode (r ∷ []) w

kind_leads : (s : System) (h : ℕ) (r : Request) (x : List ℕ) (below : List Frame) (o : Object) (f : DeclaredFeature) (k : FeatureKind) (w : World) → Leads h w (takes_kind s h r x below o f k w)
kind_leads s h r x below o f (tree.Attribute d) w = replies_leads h r (declared_type s [] d) (binding_named x o.attributes) w
kind_leads s h r x below o f (tree.Routine c) w = enters_leads s h r.target (routine_of s f) (Requested r) below (r ∷ []) r.actuals w

version_leads : (s : System) (h : ℕ) (r : Request) (x : List ℕ) (below : List Frame) (o : Option Object) (f : Option DeclaredFeature) (w : World) → Leads h w (takes_version s h r x below o f w)
version_leads s h r x below (Some o) (Some f) w = kind_leads s h r x below o f f.feature.kind w
version_leads s h r x below (Some o) None w = fails_leads h cause.BadCode (r ∷ []) w
version_leads s h r x below None f w = fails_leads h cause.BadCode (r ∷ []) w

creation_leads : (s : System) (h : ℕ) (r : Request) (k : Option (List ℕ)) (below : List Frame) (w : World) → Leads h w (takes_creation s h r k below w)
creation_leads s h r (Some x) below w = enters_leads s h r.target (routine_named s r.target.class x) (Requested r) below (r ∷ []) r.actuals w
creation_leads s h r None below w =
    if_leads h w (meets_invariant s (fresh_object s r.target.class)) (finish r (Reply None) w) (fails_with h cause.Invariant (r ∷ []) w) (finish_leads h r (Reply None) w) (fails_leads h cause.Invariant (r ∷ []) w)

errand_leads : (s : System) (h : ℕ) (r : Request) (e : Errand) (below : List Frame) (w : World) → Leads h w (takes_errand s h r e below w)
errand_leads s h r (Makes k) below w =
    leads_trans (put_own h (record (w.handlers h) { objects = (w.handlers h).objects ++ fresh_object s r.target.class ∷ [] }) w)
    (creation_leads s h r k below (with_new_object s h r.target.class w))
errand_leads s h r (Calls x) below w =
    if_leads h w (r.target.handler == h) _ (fails_with h cause.ForeignObject (r ∷ []) w)
    (version_leads s h r x below (object_numbered r.target.number (w.handlers h).objects) (version_of s r.target.class x) w) (fails_leads h cause.ForeignObject (r ∷ []) w)

next_leads : (s : System) (h : ℕ) (rs : List Request) (w : World) → Leads h w (takes_next s h rs w)
next_leads s h [] w = stays h w
next_leads s h (r ∷ rs) w =
    leads_trans (put_own h (record (w.handlers h) { queue = rs }) w) (errand_leads s h r r.errand [] (put h (record (w.handlers h) { queue = rs }) w))

callback_leads : (s : System) (h : ℕ) (r : Request) (stack : List Frame) (w : World) → Leads h w (takes_callback s h r stack w)
callback_leads s h r stack w =
    leads_trans (put_own h (record (w.handlers h) { callback = None }) w) (errand_leads s h r r.errand stack (put h (record (w.handlers h) { callback = None }) w))

released_if_leads : (h : ℕ) (b : Bool) (k : ℕ) (w : World) → Leads h w (released_if b k w)
released_if_leads h false k w = stays h w
released_if_leads h true k w = release_leads h release_at.Creation (k ∷ []) w

answer_leads : (h : ℕ) (a : Answer) (k : ℕ) (g : Option EntityType) (b : Bool) (f : Frame) (below : List Frame) (w : World) → Leads h w (takes_answer h a k g b f below w)
answer_leads h (Reply v) k g b f below w =
    leads_trans (put_own h (record (w.handlers h) { stack = handed_as g v f ∷ below; answer = None }) w) (released_if_leads h b k _)
answer_leads h Failed k g b f below w = fail_leads h cause.SupplierFailed w
answer_leads h Refused k g b f below w = fail_leads h cause.Precondition w

-- ---- turns

effect_leads : (most : ℕ) (s : System) (h : ℕ) (a : Act) (f : Frame) (below : List Frame) (w : World) → Leads h w (effect most s h a f below w)
effect_leads most s h (Prints text) f below w =
    put_own h (record (w.handlers h) { output = (w.handlers h).output ++ text }) w
effect_leads most s h Until f below w = stays h w
effect_leads most s h Creates f below w = stays h w
effect_leads most s h Starts f below w = stays h w
effect_leads most s h (CreatesHandler class procedure us t passing) f below w = creates_leads most h class procedure us t passing f below w
effect_leads most s h (Enters c me x us g) f below w = enters_leads s h me (routine_named s me.class x) (Called c) (record f { stage = InCall g } ∷ below) [] (values_of us) w
effect_leads most s h (Requests r x us g passing) f below w = request_leads h r x us g passing f below w
effect_leads most s h (Refuses k) f below w = clause_leads (verdict_on f k) s h f below w
effect_leads most s h Opens f below w = stack_leads h (record f { stage = ReservesBlock } ∷ below) w
effect_leads most s h Leaves f below w = block_leads h f.blocks f below w
effect_leads most s h Exits f below w = exits_leads s h f below w
effect_leads most s h (Fails why) f below w = fail_leads h why w

settles_leads : (most : ℕ) (s : System) (h : ℕ) (st : Step) (f : Frame) (below : List Frame) (w : World) → Leads h w (settles most s h st f below w)
settles_leads most s h (Goes p) f below w = stays h w
settles_leads most s h (Does a p) f below w =
    leads_trans (put_own h (record (w.handlers h) { objects = p.objects; stack = frame_at f p ∷ below }) w)
    (effect_leads most s h a (frame_at f p) below (put h (record (w.handlers h) { objects = p.objects; stack = frame_at f p ∷ below }) w))

waits_leads : (s : System) (h : ℕ) (c : Option Request) (a : Option Answer) (k : ℕ) (g : Option EntityType) (b : Bool) (f : Frame) (below : List Frame) (w : World) → Leads h w (waits s h c a k g b f below w)
waits_leads s h (Some r) a k g b f below w = callback_leads s h r (f ∷ below) w
waits_leads s h None (Some a) k g b f below w = answer_leads h a k g b f below w
waits_leads s h None None k g b f below w = stays h w

on_leads : (most : ℕ) (s : System) (h : ℕ) (stage : Stage) (f : Frame) (below : List Frame) (w : World) → Leads h w (goes_on most s h stage f below w)
on_leads most s h Runs f below w = settles_leads most s h (moves s f.current (point_of f (w.handlers h).objects)) f below w
on_leads most s h Reserves f below w = reserves_leads (may_reserve (entry_needs h f w) f.mark w) h (entry_needs h f w) _ below w
on_leads most s h ReservesBlock f below w = reserves_leads (may_reserve (block_needs h f w) [] w) h (block_needs h f w) _ below w
on_leads most s h (InCall g) f below w = fail_leads h cause.BadCode w
on_leads most s h (Awaits k g b) f below w = waits_leads s h (w.handlers h).callback (w.handlers h).answer k g b f below w

with_leads : (most : ℕ) (s : System) (h : ℕ) (why : Option Cause) (stack : List Frame) (w : World) → Leads h w (turn_with most s h why stack w)
with_leads most s h (Some why) stack w = stays h w
with_leads most s h None [] w = next_leads s h (w.handlers h).queue w
with_leads most s h None (f ∷ below) w = on_leads most s h f.stage f below w

pub turn_leads : (most : ℕ) (s : System) (h : ℕ) (w : World) → Leads h w (turn most s h w)
turn_leads most s h w =
    if_leads h w (nat_lt h w.count) (turn_with most s h (w.handlers h).failure (w.handlers h).stack w) w
    (with_leads most s h (w.handlers h).failure (w.handlers h).stack w) (stays h w)

-- No handler goes.
pub turn_counts : (most : ℕ) (s : System) (h : ℕ) (w : World) → w.count ≤ (turn most s h w).count
turn_counts most s h w = (turn_leads most s h w).counts

-- a handler that has no number has no turn
pub idle_turn : (most : ℕ) (s : System) (h : ℕ) (w : World) → w.count ≤ h → turn most s h w ≡ w
idle_turn most s h w beyond =
    ap (λ (b : Bool). if b then turn_with most s h (w.handlers h).failure (w.handlers h).stack w else w) (le-ltb h w.count beyond)

-- ---- halves

-- The half of a handler that is created is new.
pub created_are_new : CreatedAreNew
created_are_new most s h k w stage few less = by (cases_lt h w.count)
  where
    fresh : IsRegionHalf k new_handler stage new_half
    fresh = record { objects = refl; output = refl; stands = λ e. (refl, tt); failure = λ why e. e }

    by : (h < w.count) ⊎ (w.count ≤ h) → IsRegionHalf k ((turn most s h w).handlers k) stage new_half
    by (inl mine) = half_alike k stage new_handler _ new_half ((turn_leads most s h w).created mine k few less) fresh
    by (inr beyond) = absurd (omega (arith, few, subst (λ (v : World). k < v.count) (idle_turn most s h w beyond) less))

-- At the opening each half is new.
pub openings_are_new : OpensAsNew
openings_are_new s root k stage = by (nat_lt k 1)
  where
    by : (b : Bool) →
        IsRegionHalf k (if b then record new_handler { queue = root_request (option_map_or (λ k. k) (number_of s root.class) 0) root.procedure ∷ [] } else new_handler) stage new_half
    by true = record { objects = refl; output = refl; stands = λ e. (refl, tt); failure = λ why e. e }
    by false = record { objects = refl; output = refl; stands = λ e. (refl, tt); failure = λ why e. e }
