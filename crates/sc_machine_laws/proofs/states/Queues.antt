-- Queues give their first and take at their end.
use Rattle.std.proofs.Common.{◌≡◌, ◌⊎◌, ⊎_elim, inl, inr, ℕ, ◌<◌, ◌≤◌, List, [], ◌∷◌, ◌++◌, Option, Some, None, Bool, true, false, ◌==◌, refl, sym, ap, subst, ◌∙◌, arith}
use Rattle.std.proofs.lemmas.Bool.{eqb-true, eq-eqb, cases_eq}
use Rattle.std.specs.Prelude.{◌&&◌, ◌||◌, not, if◌then◌else◌, is_some, length, nat_lt}
use Rattle.sc_tree.specs.Plain.{System}
use Rattle.sc_rules.specs.declared.entity_types.entity_type.EntityType.{EntityType}
use Rattle.sc_lockpass.specs.Rights.{held}
use Rattle.sc_model.specs.declared.cause.Cause.{Cause}
use Rattle.sc_model.specs.declared.cause.Cause.TheVariants as cause
use Rattle.sc_model.specs.Values.{Reference, Attached, Operand, operand, values_of}
use Rattle.sc_model.specs.Routines.{routine_named}
use Rattle.sc_model.specs.Limits.{max_queue}
use Rattle.sc_model.specs.Steps.{Act, Prints, Until, Creates, CreatesHandler, Enters, Requests, Starts, Refuses, Opens, Leaves, Exits, Fails, Step, Goes, Does}
use Rattle.sc_model.specs.Moves.{moves}
use Rattle.sc_model.specs.Handlers.{Calls, Makes, Request, Answer, Called, Stage, Runs, Reserves, ReservesBlock, InCall, Awaits, Frame, Handler, World, new_handler, put, with_stack, point_of, frame_at}
use Rattle.sc_model.specs.Failures.{fail}
use Rattle.sc_model.specs.Entries.{may_reserve, entry_needs, block_needs}
use Rattle.sc_model.specs.Asking.{passes, placed, send, awaits_if, request_by, is_callback, asks, request, with_handler, passes_or_releases, created, creates_handler}
use Rattle.sc_model.specs.Preconditions.{verdict_on}
use Rattle.sc_model.specs.Takes.{takes_next}
use Rattle.sc_model.specs.Turns.{turn_with, goes_on, settles, effect, waits}
use Rattle.sc_model.specs.Sessions.{session_ended}
use Rattle.sc_machine_laws.specs.states.Headline as headline
use Rattle.sc_machine_laws.specs.states.Headline.{QueueMoves, QueuesAreInOrder}
use Rattle.sc_machine_laws.proofs.states.Rights.{differs}
use Rattle.sc_machine_laws.proofs.states.KeptQueues.{Keeps, Kept, answer_keeps, block_keeps, callback_keeps, clause_keeps, enters_keeps, errand_keeps, exits_keeps, fail_keeps, kept_trans, put_own, reserves_keeps, same_queue, stack_keeps, stays}

-- ---- a request comes

-- each queue stays, or falls with its handler, or a request of h comes after its last; of the handlers that are
-- there
record Moves (h : ℕ) (w v : World) : Type 0 where
  each : (k : ℕ) → k < w.count → Kept (w.handlers k) (v.handlers k) ⊎
      ((r : Request) × (r.poster ≡ Some h) × ((v.handlers k).queue ≡ (w.handlers k).queue ++ r ∷ []))

keeps_moves : {h : ℕ} {w v : World} → Keeps h w v → Moves h w v
keeps_moves p = record { each = λ k l. inl (p.each k) }

if_moves : (h : ℕ) (w : World) (b : Bool) (x y : World) → Moves h w x → Moves h w y → Moves h w (if b then x else y)
if_moves h w true x y p q = p
if_moves h w false x y p q = q

-- a world in which each queue is the same
record Rests (w v : World) : Type 0 where
  queue : (k : ℕ) → k < w.count → (v.handlers k).queue ≡ (w.handlers k).queue
  failure : (k : ℕ) → k < w.count → (v.handlers k).failure ≡ (w.handlers k).failure
  counts : w.count ≤ v.count

rests_move : {h : ℕ} {u w v : World} → Rests u w → Moves h w v → Moves h u v
rests_move {h} {u} {w} {v} p q = record {
  each = λ k l. ⊎_elim
      (λ a. inl (kept_trans (same_queue (u.handlers k) (w.handlers k) (p.queue k l) (p.failure k l)) a))
      (λ (a : (r : Request) × (r.poster ≡ Some h) × ((v.handlers k).queue ≡ (w.handlers k).queue ++ r ∷ [])). inr
      (a.0, a.1, a.2 ∙ ap (λ qs. qs ++ a.0 ∷ []) (p.queue k l)))
      (q.each k (let c = p.counts in omega (arith, l, c)));
}

moves_rest : {h : ℕ} {u w v : World} → Moves h u w → ((k : ℕ) → (v.handlers k).queue ≡ (w.handlers k).queue)
    → ((k : ℕ) → (v.handlers k).failure ≡ (w.handlers k).failure) → Moves h u v
moves_rest {h} {u} {w} {v} p e f = record {
  each = λ k l. ⊎_elim
      (λ a. inl (kept_trans a (same_queue (w.handlers k) (v.handlers k) (e k) (f k))))
      (λ (a : (r : Request) × (r.poster ≡ Some h) × ((w.handlers k).queue ≡ (u.handlers k).queue ++ r ∷ [])). inr
      (a.0, a.1, e k ∙ a.2))
      (p.each k l);
}

put_rests : (h : ℕ) (x : Handler) (w : World) → x.queue ≡ (w.handlers h).queue → x.failure ≡ (w.handlers h).failure
    → Rests w (put h x w)
put_rests h x w e f = record {
  queue = λ k l. at k (k == h) refl (λ (y : Handler). y.queue) e;
  failure = λ k l. by k (k == h) refl;
  counts = omega arith;
}
  where
    at : (k : ℕ) (b : Bool) → (k == h) ≡ b → (g : Handler → List Request) → g x ≡ g (w.handlers h) → g
        (if b then x else w.handlers k) ≡ g (w.handlers k)
    at k true i g same = same ∙ ap (λ j. g (w.handlers j)) (sym (eqb-true k h i))
    at k false i g same = refl

    by : (k : ℕ) (b : Bool) → (k == h) ≡ b → (if b then x else w.handlers k).failure ≡ (w.handlers k).failure
    by k true i = f ∙ ap (λ j. (w.handlers j).failure) (sym (eqb-true k h i))
    by k false i = refl

send_moves : (h : ℕ) (b : Bool) (k : ℕ) (q : Request) (w : World) → q.poster ≡ Some h → Moves h w (send b k q w)
send_moves h b k q w mine = record { each = λ j l. by j (j == k) refl b }
  where
    by : (j : ℕ) (c : Bool) → (j == k) ≡ c → (b : Bool) → Kept (w.handlers j)
        (if c then placed b q (w.handlers k) else w.handlers j)
        ⊎ ((r : Request) × (r.poster ≡ Some h) ×
        ((if c then placed b q (w.handlers k) else w.handlers j).queue ≡ (w.handlers j).queue ++ r ∷ []))
    by j false e b = inl (same_queue (w.handlers j) (w.handlers j) refl refl)
    by j true e true = inl (subst (λ y. Kept (w.handlers y) (placed true q (w.handlers k))) (sym (eqb-true j k e))
        (same_queue (w.handlers k) (placed true q (w.handlers k)) refl refl))
    by j true e false = inr (q, mine, ap (λ y. (w.handlers y).queue ++ q ∷ []) (sym (eqb-true j k e)))

passed_same : (b : Bool) (h k : ℕ) (w : World) → (passes b h k w).handlers ≡ w.handlers
passed_same true h k w = refl
passed_same false h k w = refl

asks_moves : (h : ℕ) (r : Reference) (x : List ℕ) (us : List Operand) (g : Option EntityType) (passing waiting : Bool)
    (f : Frame) (below : List Frame) (w : World) → Moves h w (asks h r x us g passing waiting f below w)
asks_moves h r x us g passing waiting f below w =
    let u = with_stack h (awaits_if waiting r.handler g false f ∷ below) w in
    let q = request_by h r (Calls x) us waiting passing w in
    let v = send (is_callback h r.handler w) r.handler q u in
    let same = passed_same passing h r.handler v in
    moves_rest (rests_move (put_rests h
    (record (w.handlers h) { stack = awaits_if waiting r.handler g false f ∷ below }) w refl refl)
    (send_moves h (is_callback h r.handler w) r.handler q u refl))
    (λ k. ap (λ (fs : ℕ → Handler). (fs k).queue) same) (λ k. ap (λ (fs : ℕ → Handler). (fs k).failure) same)

request_moves : (h : ℕ) (r : Reference) (x : List ℕ) (us : List Operand) (g : Option EntityType) (passing : Bool)
    (f : Frame) (below : List Frame) (w : World) → Moves h w (request h r x us g passing f below w)
request_moves h r x us g passing f below w =
    if_moves h w (not (held w.rights h r.handler)) (fail h cause.NotHeld w) _
    (keeps_moves (fail_keeps h cause.NotHeld w))
    (if_moves h w (is_some (w.handlers r.handler).failure) (fail h cause.SupplierFailed w) _
    (keeps_moves (fail_keeps h cause.SupplierFailed w))
    (if_moves h w (not (is_callback h r.handler w) && not (nat_lt (length (w.handlers r.handler).queue) max_queue))
    (fail h cause.QueueFull w) _ (keeps_moves (fail_keeps h cause.QueueFull w))
    (asks_moves h r x us g passing (passing || is_some g || is_callback h r.handler w) f below w)))

-- the others are as they were when a handler is new
with_handler_rests : (h : ℕ) (w : World) → Rests w (with_handler w.count h w)
with_handler_rests h w = record {
  queue = λ k l. ap (λ (b : Bool). (if b then new_handler else w.handlers k).queue)
      (differs k w.count (λ e. absurd (omega (arith, e, l))));
  failure = λ k l. ap (λ (b : Bool). (if b then new_handler else w.handlers k).failure)
      (differs k w.count (λ e. absurd (omega (arith, e, l))));
  counts = omega arith;
}

released_same : (h : ℕ) (b : Bool) (k : ℕ) (w : World) (j : ℕ)
    → (((passes_or_releases b h k w).handlers j).queue ≡ (w.handlers j).queue) ×
    (((passes_or_releases b h k w).handlers j).failure ≡ (w.handlers j).failure)
released_same h true k w j = (refl, refl)
released_same h false k w j = by _ (w.handlers j)
  where
    by : (b : Bool) (x : Handler) → ((session_ended b x).queue ≡ x.queue) × ((session_ended b x).failure ≡ x.failure)
    by true x = (refl, refl)
    by false x = (refl, refl)

created_moves : (h : ℕ) (class : ℕ) (procedure : Option (List ℕ)) (us : List Operand) (t : EntityType)
    (passing : Bool) (f : Frame) (below : List Frame) (w : World)
    → Moves h w (created h (record { handler = w.count; number = 1; class = class }) procedure us t passing f below w)
created_moves h class procedure us t passing f below w =
    let r : Reference = record { handler = w.count; number = 1; class = class } in
    let u = with_handler w.count h w in
    let stack : List Frame = awaits_if passing r.handler None true
    (record f { values = operand (Attached r) t ∷ f.values }) ∷ below in
    let z = with_stack h (awaits_if passing w.count None true
    (record f { values = operand (Attached r) t ∷ f.values }) ∷ below) u in
    let q = request_by h r (Makes procedure) us passing passing u in
    let v = send false w.count q z in
    moves_rest (rests_move (with_handler_rests h w)
    (rests_move (put_rests h (record (u.handlers h) { stack = stack }) u refl refl)
    (send_moves h false w.count q z refl)))
    (λ k. (released_same h passing w.count v k).0) (λ k. (released_same h passing w.count v k).1)

creates_moves : (most h class : ℕ) (procedure : Option (List ℕ)) (us : List Operand) (t : EntityType) (passing : Bool)
    (f : Frame) (below : List Frame) (w : World) → Moves h w
    (creates_handler most h class procedure us t passing f below w)
creates_moves most h class procedure us t passing f below w =
    if_moves h w (nat_lt w.count most) _ (fail h cause.TooManyHandlers w)
    (created_moves h class procedure us t passing f below w) (keeps_moves (fail_keeps h cause.TooManyHandlers w))

-- ---- turns

effect_moves : (most : ℕ) (s : System) (h : ℕ) (a : Act) (f : Frame) (below : List Frame) (w : World) → Moves h w
    (effect most s h a f below w)
effect_moves most s h (Prints text) f below w = keeps_moves
    (put_own h (record (w.handlers h) { output = (w.handlers h).output ++ text }) w
    (same_queue (w.handlers h) _ refl refl))
effect_moves most s h Until f below w = keeps_moves (stays h w)
effect_moves most s h Creates f below w = keeps_moves (stays h w)
effect_moves most s h Starts f below w = keeps_moves (stays h w)
effect_moves most s h (CreatesHandler class procedure us t passing) f below w =
    creates_moves most h class procedure us t passing f below w
effect_moves most s h (Enters c me x us g) f below w = keeps_moves
    (enters_keeps s h me (routine_named s me.class x) (Called c) (record f { stage = InCall g } ∷ below) []
    (values_of us) w)
effect_moves most s h (Requests r x us g passing) f below w = request_moves h r x us g passing f below w
effect_moves most s h (Refuses k) f below w = keeps_moves (clause_keeps (verdict_on f k) s h f below w)
effect_moves most s h Opens f below w = keeps_moves (stack_keeps h (record f { stage = ReservesBlock } ∷ below) w)
effect_moves most s h Leaves f below w = keeps_moves (block_keeps h f.blocks f below w)
effect_moves most s h Exits f below w = keeps_moves (exits_keeps s h f below w)
effect_moves most s h (Fails why) f below w = keeps_moves (fail_keeps h why w)

settles_moves : (most : ℕ) (s : System) (h : ℕ) (st : Step) (f : Frame) (below : List Frame) (w : World) → Moves h w
    (settles most s h st f below w)
settles_moves most s h (Goes p) f below w = keeps_moves (stays h w)
settles_moves most s h (Does a p) f below w =
    rests_move (put_rests h (record (w.handlers h) { objects = p.objects; stack = frame_at f p ∷ below }) w refl refl)
    (effect_moves most s h a (frame_at f p) below
    (put h (record (w.handlers h) { objects = p.objects; stack = frame_at f p ∷ below }) w))

waits_keeps : (s : System) (h : ℕ) (c : Option Request) (a : Option Answer) (k : ℕ) (g : Option EntityType) (b : Bool)
    (f : Frame) (below : List Frame) (w : World) → Keeps h w (waits s h c a k g b f below w)
waits_keeps s h (Some r) a k g b f below w = callback_keeps s h r (f ∷ below) w
waits_keeps s h None (Some a) k g b f below w = answer_keeps h a k g b f below w
waits_keeps s h None None k g b f below w = stays h w

on_moves : (most : ℕ) (s : System) (h : ℕ) (stage : Stage) (f : Frame) (below : List Frame) (w : World) → Moves h w
    (goes_on most s h stage f below w)
on_moves most s h Runs f below w = settles_moves most s h
    (moves s f.current (point_of f (w.handlers h).objects)) f below w
on_moves most s h Reserves f below w = keeps_moves
    (reserves_keeps (may_reserve (entry_needs h f w) f.mark w) h (entry_needs h f w) _ below w)
on_moves most s h ReservesBlock f below w = keeps_moves
    (reserves_keeps (may_reserve (block_needs h f w) [] w) h (block_needs h f w) _ below w)
on_moves most s h (InCall g) f below w = keeps_moves (fail_keeps h cause.BadCode w)
on_moves most s h (Awaits k g b) f below w = keeps_moves
    (waits_keeps s h (w.handlers h).callback (w.handlers h).answer k g b f below w)

-- what a handler's queue does
moved : (h k : ℕ) (x y : Handler) → Kept x y ⊎ ((r : Request) × (r.poster ≡ Some h) × (y.queue ≡ x.queue ++ r ∷ []))
    → QueueMoves h k x y
moved h k x y o = ⊎_elim
    (λ a. ⊎_elim (λ e. headline.stays e) (λ f. headline.falls f.0 f.1) a.queue)
    (λ (a : (r : Request) × (r.poster ≡ Some h) × (y.queue ≡ x.queue ++ r ∷ [])). headline.comes a.0 a.1 a.2)
    o

next_moves : (s : System) (h : ℕ) (rs : List Request) (w : World) (k : ℕ) → (w.handlers h).queue ≡ rs → QueueMoves h k
    (w.handlers k) ((takes_next s h rs w).handlers k)
next_moves s h [] w k at = headline.stays refl
next_moves s h (r ∷ rs) w k at =
    let u = put h (record (w.handlers h) { queue = rs }) w in
    let v = takes_next s h (r ∷ rs) w in
    let e = (errand_keeps s h r r.errand [] (put h (record (w.handlers h) { queue = rs }) w)).each k in
    ⊎_elim
    (λ kh.
    let here : (u.handlers k).queue ≡ rs = ap (λ j. (u.handlers j).queue) kh ∙ ap
    (λ (b : Bool). (if b then record (w.handlers h) { queue = rs } else w.handlers h).queue)
    (eq-eqb h h refl) in
    ⊎_elim
    (λ same. headline.takes r kh (ap (λ j. (w.handlers j).queue) kh ∙ at ∙ ap (λ qs. r ∷ qs) (sym (same ∙ here))))
    (λ f. headline.falls f.0 f.1)
    e.queue)
    (λ ne.
    let off : (u.handlers k).queue ≡ (w.handlers k).queue = ap
    (λ (b : Bool). (if b then record (w.handlers h) { queue = rs } else w.handlers k).queue)
    (differs k h ne) in
    ⊎_elim (λ same. headline.stays (same ∙ off)) (λ f. headline.falls f.0 f.1) e.queue)
    (cases_eq k h)

with_moves : (most : ℕ) (s : System) (h : ℕ) (why : Option Cause) (stack : List Frame) (w : World) (k : ℕ)
    → k < w.count → QueueMoves h k (w.handlers k) ((turn_with most s h why stack w).handlers k)
with_moves most s h (Some why) stack w k l = headline.stays refl
with_moves most s h None [] w k l = next_moves s h (w.handlers h).queue w k refl
with_moves most s h None (f ∷ below) w k l = moved h k (w.handlers k)
    ((goes_on most s h f.stage f below w).handlers k) ((on_moves most s h f.stage f below w).each k l)

pub queues_are_in_order : QueuesAreInOrder
queues_are_in_order most s h w k l = by (nat_lt h w.count)
  where
    by : (b : Bool) → QueueMoves h k (w.handlers k)
        ((if b then turn_with most s h (w.handlers h).failure (w.handlers h).stack w else w).handlers k)
    by true = with_moves most s h (w.handlers h).failure (w.handlers h).stack w k l
    by false = headline.stays refl
