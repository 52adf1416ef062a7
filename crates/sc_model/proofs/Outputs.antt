-- Each turn lets output grow, and leaves handlers that have failed as they are.
use Rattle.std.proofs.Common.{◌≡◌, ◌≢◌, ◌⊎◌, inl, inr, ℕ, ◌<◌, ◌≤◌, List, [], ◌∷◌, ◌++◌, Option, Some, None, Bool, true, false, ◌==◌, refl, sym, ap, subst, ◌∙◌, arith}
use Rattle.std.proofs.lemmas.Bool.{ltb-true, eqb-true, eq-eqb}
use Rattle.std.specs.Prelude.{◌&&◌, ◌||◌, not, if◌then◌else◌, is_some, length, nat_lt}
use Rattle.std.specs.Option.{option_map}
use Rattle.sc_tree.specs.Plain as tree
use Rattle.sc_tree.specs.Plain.{System, Clause, FeatureKind}
use Rattle.sc_class.specs.Tables.Features.{DeclaredFeature}
use Rattle.sc_rules.specs.declared.entity_types.entity_type.EntityType.{EntityType}
use Rattle.sc_rules.specs.Types.{declared_type}
use Rattle.sc_lockpass.specs.Rights.{held}
use Rattle.sc_lockpass.specs.wait_conditions.Reservations.{reserve_fails}
use Rattle.sc_lockpass.specs.declared.wait_conditions.condition.EntryVerdict.{EntryVerdict}
use Rattle.sc_lockpass.specs.declared.wait_conditions.condition.EntryVerdict.TheVariants as verdict
use Rattle.sc_lockpass.specs.declared.wait_conditions.session.Release.TheVariants as release_at
use Rattle.sc_model.specs.declared.cause.Cause.{Cause}
use Rattle.sc_model.specs.declared.cause.Cause.TheVariants as cause
use Rattle.sc_model.specs.Values.{Reference, Value, Operand, values_of}
use Rattle.sc_model.specs.Environments.{Binding, binding_named, formals_bound}
use Rattle.sc_model.specs.Objects.{Object, object_numbered, fresh_object}
use Rattle.sc_model.specs.Invariants.{meets_invariant}
use Rattle.sc_model.specs.Routines.{Routine, version_of, routine_named, routine_of}
use Rattle.sc_model.specs.Limits.{max_frames, max_queue}
use Rattle.sc_model.specs.Steps.{Act, Prints, Until, Creates, CreatesHandler, Enters, Requests, Starts, Refuses, Opens, Leaves, Exits, Fails, Step, Goes, Does}
use Rattle.sc_model.specs.Moves.{moves}
use Rattle.sc_model.specs.Handlers.{Errand, Calls, Makes, Request, Answer, Reply, Failed, Refused, Origin, Called, Requested, Stage, Runs, Reserves, ReservesBlock, InCall, Awaits, Frame, Handler, World, new_handler, put, with_stack, point_of, frame_at}
use Rattle.sc_model.specs.Sessions.{standing_in}
use Rattle.sc_model.specs.Answers.{finish}
use Rattle.sc_model.specs.Failures.{fail, fails_with}
use Rattle.sc_model.specs.Entries.{entry, enters_bound, enters, reserves_if, may_reserve, entry_needs, block_needs}
use Rattle.sc_model.specs.Asking.{passes, placed, send, awaits_if, request_by, is_callback, asks, request, with_handler, posts_creation, passes_or_releases, created, creates_handler}
use Rattle.sc_model.specs.Preconditions.{verdict_on, waits_again, is_creation, object_meets, counted_refusal, refuses, correctness_fails, false_clause}
use Rattle.sc_model.specs.Exits.{is_unset, is_unset_value, is_untested, handed, handed_as, leaves_to, exits, leaves_block}
use Rattle.sc_model.specs.Takes.{replies, takes_kind, takes_version, takes_creation, with_new_object, takes_errand, takes_next, takes_callback, released_if, takes_answer}
use Rattle.sc_model.specs.Turns.{turn, turn_with, goes_on, settles, effect, waits}
use Rattle.sc_model.proofs.Follows.{Grows, Follows, Leads, same_output, follows_same, leads_same, leads_trans, put_own, put_any, stack_leads, reserve_leads, release_leads, finish_leads, fails_leads, fail_leads, if_leads, differs}

stays : (h : ℕ) (w : World) → Leads h w w
stays h w = leads_same h w w refl (omega arith)

-- ---- entries

bound_leads : (h : ℕ) (me : Reference) (r : Routine) (o : Origin) (below : List Frame) (taken : List Request) (bs : Option (List Binding)) (w : World) → Leads h w (enters_bound h me r o below taken bs w)
bound_leads h me r o below taken None w = fails_leads h cause.BadCode taken w
bound_leads h me r o below taken (Some bs) w =
    if_leads h w (nat_lt (length below) max_frames) _ (fails_with h cause.StackFull taken w) (stack_leads h (entry me r o bs ∷ below) w) (fails_leads h cause.StackFull taken w)

enters_leads : (s : System) (h : ℕ) (me : Reference) (r : Option Routine) (o : Origin) (below : List Frame) (taken : List Request) (vs : List Value) (w : World) → Leads h w (enters s h me r o below taken vs w)
enters_leads s h me None o below taken vs w = fails_leads h cause.BadCode taken w
enters_leads s h me (Some r) o below taken vs w = bound_leads h me r o below taken (formals_bound s r.text.formals 0 r.text.formals vs) w

reserves_leads : (b : Bool) (h : ℕ) (ks : List ℕ) (f : Frame) (below : List Frame) (w : World) → Leads h w (reserves_if b h ks f below w)
reserves_leads false h ks f below w = stays h w
reserves_leads true h ks f below w =
    if_leads h w (reserve_fails (standing_in w) w.rights ks) (fail h cause.SupplierFailed w) _
    (fail_leads h cause.SupplierFailed w)
    (leads_trans (stack_leads h (f ∷ below) w) (reserve_leads h ks (with_stack h (f ∷ below) w)))

-- ---- posting and asking

passes_leads : (h : ℕ) (b : Bool) (k : ℕ) (w : World) → Leads h w (passes b h k w)
passes_leads h false k w = stays h w
passes_leads h true k w = leads_same h w (passes true h k w) refl (omega arith)

-- a request stands at a handler that has not failed
placed_follows : (b : Bool) (r : Request) (x : Handler) → x.failure ≡ None → Follows x (placed b r x)
placed_follows true r x e = record { grows = same_output x (placed true r x) refl; stays = λ why f. let no : None ≡ Some why = sym e ∙ f in cc }
placed_follows false r x e = record { grows = same_output x (placed false r x) refl; stays = λ why f. let no : None ≡ Some why = sym e ∙ f in cc }

stack_failure : (h k : ℕ) (stack : List Frame) (w : World) (b : Bool) → (k == h) ≡ b
    → (if b then record (w.handlers h) { stack = stack } else w.handlers k).failure ≡ (w.handlers k).failure
stack_failure h k stack w true e = ap (λ i. (w.handlers i).failure) (sym (eqb-true k h e))
stack_failure h k stack w false e = refl

asks_leads : (h : ℕ) (r : Reference) (x : List ℕ) (us : List Operand) (g : Option EntityType) (passing waiting : Bool) (f : Frame) (below : List Frame) (w : World) → (w.handlers r.handler).failure ≡ None
    → Leads h w (asks h r x us g passing waiting f below w)
asks_leads h r x us g passing waiting f below w e =
    let stack : List Frame = awaits_if waiting r.handler g false f ∷ below in
    let w1 : World = with_stack h stack w in
    let q : Request = request_by h r (Calls x) us waiting passing w in
    let b : Bool = is_callback h r.handler w in
    let live : (w1.handlers r.handler).failure ≡ None = stack_failure h r.handler stack w (r.handler == h) refl ∙ e in
    leads_trans (leads_trans (stack_leads h stack w) (put_any h r.handler (placed b q (w1.handlers r.handler)) w1 (placed_follows b q (w1.handlers r.handler) live)))
    (passes_leads h passing r.handler (send b r.handler q w1))

if_leads_where : (h : ℕ) (w : World) (b : Bool) (x y : World) → (b ≡ true → Leads h w x) → (b ≡ false → Leads h w y) → Leads h w (if b then x else y)
if_leads_where h w true x y p q = p refl
if_leads_where h w false x y p q = q refl

none_left : (o : Option Cause) → is_some o ≡ false → o ≡ None
none_left None e = refl
none_left (Some why) e = cc

request_leads : (h : ℕ) (r : Reference) (x : List ℕ) (us : List Operand) (g : Option EntityType) (passing : Bool) (f : Frame) (below : List Frame) (w : World) → Leads h w (request h r x us g passing f below w)
request_leads h r x us g passing f below w =
    if_leads h w (not (held w.rights h r.handler)) (fail h cause.NotHeld w) _ (fail_leads h cause.NotHeld w)
    (if_leads_where h w (is_some (w.handlers r.handler).failure) (fail h cause.SupplierFailed w) _ (λ e. fail_leads h cause.SupplierFailed w)
    (λ e. if_leads h w (not (is_callback h r.handler w) && not (nat_lt (length (w.handlers r.handler).queue) max_queue)) (fail h cause.QueueFull w) _ (fail_leads h cause.QueueFull w)
    (asks_leads h r x us g passing (passing || is_some g || is_callback h r.handler w) f below w (none_left (w.handlers r.handler).failure e))))

-- ---- creations of handlers

-- a handler beyond the count changes
put_beyond : (h k : ℕ) (x : Handler) (u w : World) → Leads h u w → h < u.count → u.count ≤ k → Leads h u (put k x w)
put_beyond h k x u w p l m = record {
  own = subst (λ (b : Bool). Grows (u.handlers h) (if b then x else w.handlers h)) (sym (differs h k (λ e. absurd (omega (arith, e, l, m))))) p.own;
  others = λ j n ne. subst (λ (b : Bool). Follows (u.handlers j) (if b then x else w.handlers j)) (sym (differs j k (λ e. absurd (omega (arith, e, n, m))))) (p.others j n ne);
  counts = p.counts;
}

with_handler_leads : (h holder : ℕ) (w : World) → h < w.count → Leads h w (with_handler w.count holder w)
with_handler_leads h holder w l = record {
  own = subst (λ (b : Bool). Grows (w.handlers h) (if b then new_handler else w.handlers h)) (sym (differs h w.count (λ e. absurd (omega (arith, e, l))))) (same_output (w.handlers h) (w.handlers h) refl);
  others = λ j n ne. subst (λ (b : Bool). Follows (w.handlers j) (if b then new_handler else w.handlers j)) (sym (differs j w.count (λ e. absurd (omega (arith, e, n))))) (follows_same (w.handlers j));
  counts = omega arith;
}

released_leads : (h : ℕ) (b : Bool) (k : ℕ) (w : World) → Leads h w (passes_or_releases b h k w)
released_leads h true k w = passes_leads h true k w
released_leads h false k w = release_leads h release_at.Creation (k ∷ []) w

created_leads : (h class : ℕ) (procedure : Option (List ℕ)) (us : List Operand) (t : EntityType) (passing : Bool) (f : Frame) (below : List Frame) (w : World) → h < w.count
    → Leads h w (created h (record { handler = w.count; number = 1; class = class }) procedure us t passing f below w)
created_leads h class procedure us t passing f below w l =
    let r : Reference = record { handler = w.count; number = 1; class = class } in
    let w1 : World = with_handler w.count h w in
    let first : Leads h w w1 = with_handler_leads h h w l in
    let p : Leads h w (posts_creation h r procedure us t passing f below w1) = put_beyond h w.count _ w _ (leads_trans first (stack_leads h _ w1)) l (omega arith) in
    leads_trans p (released_leads h passing w.count (posts_creation h r procedure us t passing f below w1))

creates_leads : (most h class : ℕ) (procedure : Option (List ℕ)) (us : List Operand) (t : EntityType) (passing : Bool) (f : Frame) (below : List Frame) (w : World) → h < w.count
    → Leads h w (creates_handler most h class procedure us t passing f below w)
creates_leads most h class procedure us t passing f below w l =
    if_leads h w (nat_lt w.count most) _ (fail h cause.TooManyHandlers w) (created_leads h class procedure us t passing f below w l) (fail_leads h cause.TooManyHandlers w)

-- ---- preconditions

waits_again_leads : (h : ℕ) (f : Frame) (below : List Frame) (w : World) → Leads h w (waits_again h f below w)
waits_again_leads h f below w = leads_trans (stack_leads h _ w) (release_leads h release_at.FalseWaitCondition f.reserved _)

counted_grows : (b : Bool) (x : Handler) (stack : List Frame) → Grows x (counted_refusal b (record x { stack = stack }))
counted_grows true x stack = same_output x (record x { stack = stack }) refl
counted_grows false x stack = same_output x (counted_refusal false (record x { stack = stack })) refl

refuses_leads : (s : System) (h : ℕ) (r : Request) (f : Frame) (below : List Frame) (w : World) → Leads h w (refuses s h r f below w)
refuses_leads s h r f below w =
    if_leads h w (is_creation r.errand && not (object_meets s (object_numbered f.current.number (w.handlers h).objects))) (fail h cause.Invariant w) _ (fail_leads h cause.Invariant w)
    (leads_trans (leads_trans (put_own h (counted_refusal r.is_waited (record (w.handlers h) { stack = below })) w (counted_grows r.is_waited (w.handlers h) below)) (release_leads h release_at.Refusal f.reserved _)) (finish_leads h r Refused _))

correctness_leads : (s : System) (h : ℕ) (o : Origin) (f : Frame) (below : List Frame) (w : World) → Leads h w (correctness_fails s h o f below w)
correctness_leads s h (Called c) f below w = fail_leads h cause.Precondition w
correctness_leads s h (Requested r) f below w = refuses_leads s h r f below w

clause_leads : (v : EntryVerdict) (s : System) (h : ℕ) (f : Frame) (below : List Frame) (w : World) → Leads h w (false_clause v s h f below w)
clause_leads verdict.Wait s h f below w = waits_again_leads h f below w
clause_leads verdict.Refuse s h f below w = correctness_leads s h f.origin f below w
clause_leads verdict.Start s h f below w = fail_leads h cause.BadCode w

-- ---- exits

leaves_to_leads : (h : ℕ) (o : Origin) (ks : List ℕ) (v : Option Value) (below : List Frame) (w : World) → Leads h w (leaves_to h o ks v below w)
leaves_to_leads h (Called c) ks v below w = leads_trans (stack_leads h (handed v below) w) (release_leads h release_at.Exit ks _)
leaves_to_leads h (Requested r) ks v below w = leads_trans (leads_trans (stack_leads h below w) (release_leads h release_at.Exit ks _)) (finish_leads h r (Reply v) _)

exits_leads : (s : System) (h : ℕ) (f : Frame) (below : List Frame) (w : World) → Leads h w (exits s h f below w)
exits_leads s h f below w =
    if_leads h w (is_unset f.result) (fail h cause.UnsetEntity w) _ (fail_leads h cause.UnsetEntity w)
    (if_leads h w (is_untested f.origin || object_meets s (object_numbered f.current.number (w.handlers h).objects)) _ (fail h cause.Invariant w)
    (leaves_to_leads h f.origin f.reserved (option_map (λ (u : Operand). u.value) f.result) below w) (fail_leads h cause.Invariant w))

block_leads : (h : ℕ) (kss : List (List ℕ)) (f : Frame) (below : List Frame) (w : World) → Leads h w (leaves_block h kss f below w)
block_leads h [] f below w = fail_leads h cause.BadCode w
block_leads h (ks ∷ kss) f below w = leads_trans (stack_leads h (record f { blocks = kss } ∷ below) w) (release_leads h release_at.Leave ks _)

-- ---- taking

replies_leads : (h : ℕ) (r : Request) (t : Option EntityType) (b : Option Binding) (w : World) → Leads h w (replies h r t b w)
replies_leads h r (Some t) (Some b) w =
    if_leads h w (is_unset_value b.value t) (fails_with h cause.UnsetEntity (r ∷ []) w) (finish r (Reply (Some b.value)) w) (fails_leads h cause.UnsetEntity (r ∷ []) w) (finish_leads h r (Reply (Some b.value)) w)
replies_leads h r (Some t) None w = fails_leads h cause.BadCode (r ∷ []) w
replies_leads h r None b w = fails_leads h cause.BadCode (r ∷ []) w

kind_leads : (s : System) (h : ℕ) (r : Request) (x : List ℕ) (below : List Frame) (o : Object) (f : DeclaredFeature) (k : FeatureKind) (w : World) → Leads h w (takes_kind s h r x below o f k w)
kind_leads s h r x below o f (tree.Attribute d) w = replies_leads h r (declared_type s [] d) (binding_named x o.attributes) w
kind_leads s h r x below o f (tree.Routine c) w = enters_leads s h r.target (routine_of s f) (Requested r) below (r ∷ []) r.actuals w

version_leads : (s : System) (h : ℕ) (r : Request) (x : List ℕ) (below : List Frame) (o : Option Object) (f : Option DeclaredFeature) (w : World) → Leads h w (takes_version s h r x below o f w)
version_leads s h r x below (Some o) (Some f) w = kind_leads s h r x below o f f.feature.kind w
version_leads s h r x below (Some o) None w = fails_leads h cause.BadCode (r ∷ []) w
version_leads s h r x below None f w = fails_leads h cause.BadCode (r ∷ []) w

creation_leads : (s : System) (h : ℕ) (r : Request) (k : Option (List ℕ)) (below : List Frame) (w : World) → Leads h w (takes_creation s h r k below w)
creation_leads s h r (Some x) below w = enters_leads s h r.target (routine_named s r.target.class x) (Requested r) below (r ∷ []) r.actuals w
creation_leads s h r None below w =
    if_leads h w (meets_invariant s (fresh_object s r.target.class)) (finish r (Reply None) w) (fails_with h cause.Invariant (r ∷ []) w) (finish_leads h r (Reply None) w) (fails_leads h cause.Invariant (r ∷ []) w)

errand_leads : (s : System) (h : ℕ) (r : Request) (e : Errand) (below : List Frame) (w : World) → Leads h w (takes_errand s h r e below w)
errand_leads s h r (Makes k) below w =
    leads_trans (put_own h (record (w.handlers h) { objects = (w.handlers h).objects ++ fresh_object s r.target.class ∷ [] }) w (same_output (w.handlers h) _ refl))
    (creation_leads s h r k below (with_new_object s h r.target.class w))
errand_leads s h r (Calls x) below w =
    if_leads h w (r.target.handler == h) _ (fails_with h cause.ForeignObject (r ∷ []) w)
    (version_leads s h r x below (object_numbered r.target.number (w.handlers h).objects) (version_of s r.target.class x) w) (fails_leads h cause.ForeignObject (r ∷ []) w)

next_leads : (s : System) (h : ℕ) (rs : List Request) (w : World) → Leads h w (takes_next s h rs w)
next_leads s h [] w = stays h w
next_leads s h (r ∷ rs) w =
    leads_trans (put_own h (record (w.handlers h) { queue = rs }) w (same_output (w.handlers h) _ refl)) (errand_leads s h r r.errand [] (put h (record (w.handlers h) { queue = rs }) w))

callback_leads : (s : System) (h : ℕ) (r : Request) (stack : List Frame) (w : World) → Leads h w (takes_callback s h r stack w)
callback_leads s h r stack w =
    leads_trans (put_own h (record (w.handlers h) { callback = None }) w (same_output (w.handlers h) _ refl)) (errand_leads s h r r.errand stack (put h (record (w.handlers h) { callback = None }) w))

released_if_leads : (h : ℕ) (b : Bool) (k : ℕ) (w : World) → Leads h w (released_if b k w)
released_if_leads h false k w = stays h w
released_if_leads h true k w = release_leads h release_at.Creation (k ∷ []) w

answer_leads : (h : ℕ) (a : Answer) (k : ℕ) (g : Option EntityType) (b : Bool) (f : Frame) (below : List Frame) (w : World) → Leads h w (takes_answer h a k g b f below w)
answer_leads h (Reply v) k g b f below w =
    leads_trans (put_own h (record (w.handlers h) { stack = handed_as g v f ∷ below; answer = None }) w (same_output (w.handlers h) _ refl)) (released_if_leads h b k _)
answer_leads h Failed k g b f below w = fail_leads h cause.SupplierFailed w
answer_leads h Refused k g b f below w = fail_leads h cause.Precondition w

-- ---- turns

effect_leads : (most : ℕ) (s : System) (h : ℕ) (a : Act) (f : Frame) (below : List Frame) (w : World) → h < w.count → Leads h w (effect most s h a f below w)
effect_leads most s h (Prints text) f below w l =
    put_own h (record (w.handlers h) { output = (w.handlers h).output ++ text }) w (record { added = text; output_is = refl })
effect_leads most s h Until f below w l = stays h w
effect_leads most s h Creates f below w l = stays h w
effect_leads most s h Starts f below w l = stays h w
effect_leads most s h (CreatesHandler class procedure us t passing) f below w l = creates_leads most h class procedure us t passing f below w l
effect_leads most s h (Enters c me x us g) f below w l = enters_leads s h me (routine_named s me.class x) (Called c) (record f { stage = InCall g } ∷ below) [] (values_of us) w
effect_leads most s h (Requests r x us g passing) f below w l = request_leads h r x us g passing f below w
effect_leads most s h (Refuses k) f below w l = clause_leads (verdict_on f k) s h f below w
effect_leads most s h Opens f below w l = stack_leads h (record f { stage = ReservesBlock } ∷ below) w
effect_leads most s h Leaves f below w l = block_leads h f.blocks f below w
effect_leads most s h Exits f below w l = exits_leads s h f below w
effect_leads most s h (Fails why) f below w l = fail_leads h why w

settles_leads : (most : ℕ) (s : System) (h : ℕ) (st : Step) (f : Frame) (below : List Frame) (w : World) → h < w.count → Leads h w (settles most s h st f below w)
settles_leads most s h (Goes p) f below w l = stays h w
settles_leads most s h (Does a p) f below w l =
    leads_trans (put_own h (record (w.handlers h) { objects = p.objects; stack = frame_at f p ∷ below }) w (same_output (w.handlers h) _ refl))
    (effect_leads most s h a (frame_at f p) below (put h (record (w.handlers h) { objects = p.objects; stack = frame_at f p ∷ below }) w) l)

waits_leads : (s : System) (h : ℕ) (c : Option Request) (a : Option Answer) (k : ℕ) (g : Option EntityType) (b : Bool) (f : Frame) (below : List Frame) (w : World) → Leads h w (waits s h c a k g b f below w)
waits_leads s h (Some r) a k g b f below w = callback_leads s h r (f ∷ below) w
waits_leads s h None (Some a) k g b f below w = answer_leads h a k g b f below w
waits_leads s h None None k g b f below w = stays h w

on_leads : (most : ℕ) (s : System) (h : ℕ) (stage : Stage) (f : Frame) (below : List Frame) (w : World) → h < w.count → Leads h w (goes_on most s h stage f below w)
on_leads most s h Runs f below w l = settles_leads most s h (moves s f.current (point_of f (w.handlers h).objects)) f below w l
on_leads most s h Reserves f below w l = reserves_leads (may_reserve (entry_needs h f w) f.mark w) h (entry_needs h f w) _ below w
on_leads most s h ReservesBlock f below w l = reserves_leads (may_reserve (block_needs h f w) [] w) h (block_needs h f w) _ below w
on_leads most s h (InCall g) f below w l = fail_leads h cause.BadCode w
on_leads most s h (Awaits k g b) f below w l = waits_leads s h (w.handlers h).callback (w.handlers h).answer k g b f below w

with_leads : (most : ℕ) (s : System) (h : ℕ) (why : Option Cause) (stack : List Frame) (w : World) → h < w.count → Leads h w (turn_with most s h why stack w)
with_leads most s h (Some why) stack w l = stays h w
with_leads most s h None [] w l = next_leads s h (w.handlers h).queue w
with_leads most s h None (f ∷ below) w l = on_leads most s h f.stage f below w l

turn_leads : (most : ℕ) (s : System) (h : ℕ) (w : World) → Leads h w (turn most s h w)
turn_leads most s h w =
    if_leads_where h w (nat_lt h w.count) (turn_with most s h (w.handlers h).failure (w.handlers h).stack w) w
    (λ e. with_leads most s h (w.handlers h).failure (w.handlers h).stack w (ltb-true h w.count e)) (λ e. stays h w)

-- ---- what follows

-- the handler is the one of the turn, or another
same_or_not : (k h : ℕ) (b : Bool) → (k == h) ≡ b → (k ≡ h) ⊎ (k ≢ h)
same_or_not k h true e = inl (eqb-true k h e)
same_or_not k h false e = inr (λ f. let yes : (k == h) ≡ true = eq-eqb k h f in let no : true ≡ false = sym yes ∙ e in cc)

pub output_grows : (most : ℕ) (s : System) (h : ℕ) (w : World) (k : ℕ) → k < w.count → (added : List ℕ) × (((turn most s h w).handlers k).output ≡ (w.handlers k).output ++ added)
output_grows most s h w k l = by (same_or_not k h (k == h) refl)
  where
    by : (k ≡ h) ⊎ (k ≢ h) → (added : List ℕ) × (((turn most s h w).handlers k).output ≡ (w.handlers k).output ++ added)
    by (inl e) =
        let g : Grows (w.handlers k) ((turn most s h w).handlers k) = subst (λ j. Grows (w.handlers j) ((turn most s h w).handlers j)) (sym e) (turn_leads most s h w).own in
        (g.added, g.output_is)
    by (inr ne) = let g : Grows (w.handlers k) ((turn most s h w).handlers k) = ((turn_leads most s h w).others k l ne).grows in (g.added, g.output_is)

-- a handler that has failed makes no turn
failed_turn : (most : ℕ) (s : System) (h : ℕ) (w : World) (why : Cause) (b : Bool) → (w.handlers h).failure ≡ Some why
    → (if b then turn_with most s h (w.handlers h).failure (w.handlers h).stack w else w) ≡ w
failed_turn most s h w why true e = ap (λ o. turn_with most s h o (w.handlers h).stack w) e
failed_turn most s h w why false e = refl

pub failed_stays : (most : ℕ) (s : System) (h : ℕ) (w : World) (k : ℕ) (why : Cause) → k < w.count → (w.handlers k).failure ≡ Some why
    → record ((turn most s h w).handlers k) { sessions = (w.handlers k).sessions } ≡ w.handlers k
failed_stays most s h w k why l e = by (same_or_not k h (k == h) refl)
  where
    by : (k ≡ h) ⊎ (k ≢ h) → record ((turn most s h w).handlers k) { sessions = (w.handlers k).sessions } ≡ w.handlers k
    by (inl f) =
        let same : turn most s h w ≡ w = failed_turn most s h w why (nat_lt h w.count) (ap (λ j. (w.handlers j).failure) (sym f) ∙ e) in
        ap (λ (v : World). record (v.handlers k) { sessions = (w.handlers k).sessions }) same
    by (inr ne) = ((turn_leads most s h w).others k l ne).stays why e
