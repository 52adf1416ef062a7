-- What visible operations leave of the requests that a store serves.
use Rattle.std.proofs.Common.{◌≡◌, ◌<◌, ◌-◌, ℕ, Bool, true, false, List, [], ◌∷◌, Option, Some, None, length, refl, sym, arith}
use Rattle.std.specs.Prelude.{◌&&◌, ◌||◌, nat_lt, if◌then◌else◌}
use Rattle.std.specs.Fmt.{signed_decimal}
use Rattle.sc_model.specs.declared.cause.Cause.TheVariants as cause
use Rattle.sc_model.specs.Instructions.{boolean_text}
use Rattle.sc_code.specs.declared.program.Image.{Image}
use Rattle.sc_code.specs.declared.program.RoutineCode.{RoutineCode}
use Rattle.sc_code.specs.Programs.{pool_of}
use Rattle.sc_region.specs.declared.frame.Origin.{Origin}
use Rattle.sc_region.specs.declared.frame.Origin.TheVariants as origin
use Rattle.sc_region.specs.declared.frame.Stage.{Stage}
use Rattle.sc_region.specs.declared.frame.Stage.TheVariants as stage
use Rattle.sc_region.specs.declared.job.Request.{Request}
use Rattle.sc_region.specs.declared.job.Want.{Want}
use Rattle.sc_region.specs.declared.job.Want.TheVariants as want
use Rattle.sc_region.specs.declared.value.Reference.{Reference}
use Rattle.sc_region.specs.declared.value.Value.{Value}
use Rattle.sc_region.specs.Classes.{object_meets, routine_at}
use Rattle.sc_region.specs.Frames.{PlainActivation, PlainFrame, top_activation, top_current}
use Rattle.sc_region.specs.Objects.{object_numbered}
use Rattle.sc_region.specs.Stores.{PlainStore, born, born_for, failed, left, made, made_for, max_objects, next_reference, printed}
use Rattle.sc_acts.specs.declared.act.Act.{Act}
use Rattle.sc_acts.specs.declared.act.Act.TheVariants as act
use Rattle.sc_acts.specs.declared.act.Calling.{Calling}
use Rattle.sc_acts.specs.declared.act.Calling.TheVariants as calling
use Rattle.sc_acts.specs.Creating.{created_at, given, has_room, has_room_in, made_if, with_reference, without_last}
use Rattle.sc_region.specs.Calls.{in_call, last_values, on_top, past}
use Rattle.sc_acts.specs.Entering.{asks_beginning, asks_reserving, asks_with, called_at, entered_if, has_operands, operands_of, origin_of, routine_in}
use Rattle.sc_acts.specs.Exiting.{asks_exiting, asks_releasing, asks_returning, exited_at, handed, handed_as, handed_at, handed_value, is_unset, is_untested, returned}
use Rattle.sc_acts.specs.Refusing.{asks_refusing, is_waited_for, refused_as, refused_at, waiting}
use Rattle.sc_acts.specs.Tables.{version_in, formals_at, listed}
use Rattle.sc_acts.specs.Turning.{round_ended}
use Rattle.sc_acts.specs.Acting.{acted, asks_acted}
use Rattle.sc_acts.specs.Leaving.{asks_left, closing, innermost_in, left_with}
use Rattle.sc_acts.specs.Blocks.{asks_opened, heads_in, opened_with, opening}
use Rattle.sc_acts.specs.CreatingHandlers as remote
use Rattle.sc_acts.specs.CreatingHandlers.{created_as, creating, creation_by, creation_in, creation_with, first_object, may_create}
use Rattle.sc_acts.specs.CreatingObjects.{asks_created, created_with}
use Rattle.sc_acts.specs.Requesting.{asks_sending, asks_sent, awaiting_if, call_of, request_in, sending, sent}
use Rattle.sc_world.specs.Requests.Serving.{served}
use Rattle.sc_world.specs.Requests.Turns.{left_after}
use Rattle.sc_world.proofs.StoreChanges.{Serving, born_for_serves, born_serves, entered_serves, failed_serves, if_serves, left_serves, on_top_serves, so_many, some_served}

-- ---- wants by which no request ends

pub left_if : (b : Bool) (v w : Want) (n : ℕ) → left_after v n ≡ n → left_after w n ≡ n → left_after (if b then v else w) n ≡ n
left_if true v w n e f = e
left_if false v w n e f = f

reserving_left : (ks : List ℕ) (slots : List Value) (n : ℕ) → left_after (asks_reserving ks slots) n ≡ n
reserving_left [] slots n = refl
reserving_left (k ∷ ks) slots n = refl

with_left : (slots : List Value) (r : Option RoutineCode) (n : ℕ) → left_after (asks_with slots r) n ≡ n
with_left slots None n = refl
with_left slots (Some r) n = reserving_left r.separate_formals.items slots n

pub beginning_left : (p : Image) (o : Option PlainActivation) (n : ℕ) → left_after (asks_beginning p o) n ≡ n
beginning_left p None n = refl
beginning_left p (Some a) n = with_left a.slots (routine_at p a.routine) n

releasing_left : (ks : List ℕ) (n : ℕ) → left_after (asks_releasing ks) n ≡ n
releasing_left [] n = refl
releasing_left (k ∷ ks) n = refl

-- ---- calls

pub none_less : (n : ℕ) → n - 0 ≡ n
none_less n = omega arith

calls_none : (c : Calling) (n : ℕ) → n - served (origin_of c) ≡ n
calls_none calling.Unqualified n = none_less n
calls_none calling.Qualified n = none_less n

entered_if_serves : (n : ℕ) (r : Option ℕ) (me : Reference) (o : Origin) (us : List Value) (x : PlainStore) → (x.failure ≡ None → 0 < n) →
    n - served o ≡ n → Serving n x → Serving n (entered_if r me o us x)
entered_if_serves n (Some routine) me o us x some less s = entered_serves n n me routine o us x some less s
entered_if_serves n None me o us x some less s = failed_serves n cause.BadCode x

called_serves : (n : ℕ) (c : Calling) (me : Reference) (name k : ℕ) (gives : Bool) (o : Option PlainActivation) (x : PlainStore) →
    top_activation x.frames ≡ o → Serving n x → Serving n (called_at c me name k gives o x)
called_serves n c me name k gives None x top s = failed_serves n cause.BadCode x
called_serves n c me name k gives (Some a) x top s =
    let y : PlainStore = on_top (in_call (operands_of c k) gives) x in
    let us : List Value = last_values k a.operands.values in
    let r : Option ℕ = routine_in (version_in x.program me.class name) in
    if_serves (nat_lt k 17 && has_operands (operands_of c k) a) n (entered_if r me (origin_of c) us y) (failed cause.BadCode x)
    (entered_if_serves n r me (origin_of c) us y (λ e. some_served x.frames a n top (s e)) (calls_none c n)
    (on_top_serves (in_call (operands_of c k) gives) n x (λ a. refl) s))
    (failed_serves n cause.BadCode x)

-- ---- requests

awaiting_same : (b : Bool) (k : ℕ) (gives is_creation : Bool) (a : PlainActivation) → (awaiting_if b k gives is_creation a).origin ≡ a.origin
awaiting_same true k gives is_creation a = refl
awaiting_same false k gives is_creation a = refl

sent_serves : (n : ℕ) (o : Option Request) (r : Reference) (name k : ℕ) (gives passes : Bool) (x : PlainStore) → Serving n x →
    Serving (left_after (asks_sending o passes) n) (sent o (call_of r name k gives passes) x)
sent_serves n None r name k gives passes x s = failed_serves n cause.BadCode x
sent_serves n (Some q) r name k gives passes x s =
    so_many n (left_after (asks_sent q passes) n) (on_top (sending (call_of r name k gives passes)) x)
    (sym (left_if q.is_waited (want.Ask q passes) (want.Post q) n refl refl))
    (on_top_serves (sending (call_of r name k gives passes)) n x (λ a. awaiting_same (passes || gives) r.handler gives false (without_last (past k a))) s)

-- ---- objects of the same handler

made_serves : (n class : ℕ) (x : PlainStore) → Serving n x → Serving n (made class x)
made_serves n class x s =
    if_serves (nat_lt (length x.objects) max_objects) n (born class x) (failed cause.TooManyObjects x) (born_serves n class x s)
    (failed_serves n cause.TooManyObjects x)

given_serves : (n k : ℕ) (r : Reference) (x : PlainStore) → Serving n x → Serving n (given k r x)
given_serves n k r x s =
    if_serves (has_room_in k (top_activation x.frames)) n (on_top (with_reference r) (on_top (past k) x)) (failed cause.BadCode x)
    (on_top_serves (with_reference r) n (on_top (past k) x) (λ a. refl) (on_top_serves (past k) n x (λ a. refl) s))
    (failed_serves n cause.BadCode x)

made_for_serves : (n handler class routine : ℕ) (us : List Value) (x : PlainStore) → (x.failure ≡ None → 0 < n) → Serving n x →
    Serving n (made_for handler class routine us x)
made_for_serves n handler class routine us x some s =
    if_serves (nat_lt (length x.objects) max_objects) n (born_for (next_reference handler class x) routine origin.Creation us x) (failed cause.TooManyObjects x)
    (born_for_serves n n (next_reference handler class x) routine origin.Creation us x some (none_less n) s)
    (failed_serves n cause.TooManyObjects x)

made_if_serves : (n : ℕ) (o : Option ℕ) (r : Reference) (us : List Value) (x : PlainStore) → (x.failure ≡ None → 0 < n) → Serving n x →
    Serving n (made_if o r us x)
made_if_serves n (Some routine) r us x some s = made_for_serves n r.handler r.class routine us x some s
made_if_serves n None r us x some s = failed_serves n cause.BadCode x

created_at_serves : (n : ℕ) (r : Reference) (name k : ℕ) (o : Option PlainActivation) (x : PlainStore) → top_activation x.frames ≡ o → Serving n x →
    Serving n (created_at r name k o x)
created_at_serves n r name k None x top s = failed_serves n cause.BadCode x
created_at_serves n r name k (Some a) x top s =
    let y : PlainStore = on_top (with_reference r) (on_top (in_call k false) x) in
    let us : List Value = last_values k a.operands.values in
    if_serves (has_room k a && has_operands k a) n (made_if (routine_in (version_in x.program r.class name)) r us y) (failed cause.BadCode x)
    (made_if_serves n (routine_in (version_in x.program r.class name)) r us y (λ e. some_served x.frames a n top (s e))
    (on_top_serves (with_reference r) n (on_top (in_call k false) x) (λ a. refl) (on_top_serves (in_call k false) n x (λ a. refl) s)))
    (failed_serves n cause.BadCode x)

created_with_serves : (n : ℕ) (procedure : Option ℕ) (r : Reference) (k : ℕ) (x : PlainStore) → Serving n x → Serving n (created_with procedure r k x)
created_with_serves n None r k x s = given_serves n k r (made r.class x) (made_serves n r.class x s)
created_with_serves n (Some name) r k x s =
    if_serves (nat_lt (length x.objects) max_objects) n (created_at r name k (top_activation x.frames) x) (failed cause.TooManyObjects x)
    (created_at_serves n r name k (top_activation x.frames) x refl s) (failed_serves n cause.TooManyObjects x)

created_left : (procedure : Option ℕ) (y : PlainStore) (n : ℕ) → left_after (asks_created procedure y) n ≡ n
created_left None y n = refl
created_left (Some name) y n = beginning_left y.program (top_activation y.frames) n

-- ---- handlers

module _ (class : ℕ) (procedure : Option ℕ) (k : ℕ) (passes : Bool) (n : ℕ) where
  may_left : (b : Bool) (a : PlainActivation) → left_after (remote.asks_created (if b then Some (creation_by (creation_with class procedure k passes) a) else None)) n ≡ n
  may_left true a = refl
  may_left false a = refl

  creation_left : (o : Option PlainActivation) → left_after (remote.asks_created (creation_in (creation_with class procedure k passes) o)) n ≡ n
  creation_left None = refl
  creation_left (Some a) = may_left (may_create k a) a

  created_as_serves : (o : Option Want) (r : Reference) (x : PlainStore) → Serving n x → Serving n (created_as o r (creation_with class procedure k passes) x)
  created_as_serves None r x s = failed_serves n cause.BadCode x
  created_as_serves (Some w) r x s =
      on_top_serves (creating r (creation_with class procedure k passes)) n x (λ a. awaiting_same passes r.handler false true (with_reference r (past k a))) s

  handler_serves : (h : ℕ) (x : PlainStore) → Serving n x →
      Serving (left_after (remote.asks_creating (creation_with class procedure k passes) (top_activation x.frames)) n) (remote.handler_created h (creation_with class procedure k passes) x)
  handler_serves h x s =
      let o : Option Want = creation_in (creation_with class procedure k passes) (top_activation x.frames) in
      so_many n (left_after (remote.asks_created o) n) (created_as o (first_object h class) (creation_with class procedure k passes) x)
      (sym (creation_left (top_activation x.frames)))
      (created_as_serves o (first_object h class) x s)

-- ---- refusals

refused_as_serves : (n : ℕ) (o : Origin) (me : Reference) (x : PlainStore) → Serving (n - served o) (left x) → Serving (n - 1) (refused_as o me x)
refused_as_serves n origin.Unqualified me x s = failed_serves (n - 1) cause.Precondition x
refused_as_serves n origin.Qualified me x s = failed_serves (n - 1) cause.Precondition x
refused_as_serves n origin.Creation me x s = failed_serves (n - 1) cause.Precondition x
refused_as_serves n origin.Requested me x s = s
refused_as_serves n origin.RequestedCreation me x s =
    if_serves (object_meets x.program (object_numbered me.number x.objects)) (n - 1) (left x) (failed cause.Invariant x) s (failed_serves (n - 1) cause.Invariant x)

either_refused : (b : Bool) (n : ℕ) (v : Want) (x y : PlainStore) → left_after v n ≡ n → Serving n x → Serving (n - 1) y → (w : Want) → left_after w n ≡ n - 1 →
    Serving (left_after (if b then v else w) n) (if b then x else y)
either_refused true n v x y e p q w f = so_many n (left_after v n) x (sym e) p
either_refused false n v x y e p q w f = so_many (n - 1) (left_after w n) y (sym f) q

refused_serves : (n : ℕ) (slots : List ℕ) (fs : List PlainFrame) (x : PlainStore) → x.frames ≡ fs → Serving n x →
    Serving (left_after (asks_refusing slots (top_activation fs)) n) (refused_at slots (top_current fs) (top_activation fs) x)
refused_serves n slots [] x e s = s
refused_serves n slots (f ∷ below) x e s =
    let a : PlainActivation = f.activation in
    either_refused (is_waited_for a slots) n (want.Wait (record { items = a.reserved })) (on_top waiting x) (refused_as a.origin f.current x) refl
    (on_top_serves waiting n x (λ a. refl) s) (refused_as_serves n a.origin f.current x (left_serves n f below x e s))
    (want.Done None (record { items = a.reserved }) true) refl

-- ---- blocks

opened_serves : (n first : ℕ) (o : Option (List Value)) (x : PlainStore) → Serving n x → Serving (left_after (asks_opened o) n) (opened_with first o x)
opened_serves n first None x s = failed_serves n cause.BadCode x
opened_serves n first (Some us) x s = on_top_serves (opening first us) n x (λ a. refl) s

block_left_serves : (n : ℕ) (o : Option (List ℕ)) (x : PlainStore) → Serving n x → Serving (left_after (asks_left o) n) (left_with o x)
block_left_serves n None x s = failed_serves n cause.BadCode x
block_left_serves n (Some ks) x s = on_top_serves closing n x (λ a. refl) s

-- ---- routines that end

if_same : (b : Bool) (o : Origin) (a c : PlainActivation) → a.origin ≡ o → c.origin ≡ o → (if b then a else c).origin ≡ o
if_same true o a c e f = e
if_same false o a c e f = f

handed_value_same : (v : Value) (a : PlainActivation) → (handed_value v a).origin ≡ a.origin
handed_value_same v a =
    if_same (nat_lt (length a.operands.values) a.operands.depth) a.origin (record a { operands = record a.operands { values = v ∷ a.operands.values } }) a refl refl

pub handed_as_same : (gives : Bool) (v : Option Value) (a : PlainActivation) → (handed_as gives v a).origin ≡ a.origin
handed_as_same true (Some v) a = handed_value_same v a
handed_as_same true None a = refl
handed_as_same false v a = refl

handed_at_same : (st : Stage) (v : Option Value) (a : PlainActivation) → (handed_at st v a).origin ≡ a.origin
handed_at_same (stage.InCall gives) v a = handed_as_same gives v (record a { stage = stage.Runs })
handed_at_same stage.Runs v a = refl
handed_at_same stage.Reserves v a = refl
handed_at_same stage.ReservesBlock v a = refl
handed_at_same (stage.Awaits k gives is_creation) v a = refl

handed_serves : (n : ℕ) (v : Option Value) (ks : List ℕ) (x : PlainStore) → Serving (n - 0) x → Serving (left_after (asks_releasing ks) n) (on_top (handed v) x)
handed_serves n v ks x s =
    so_many n (left_after (asks_releasing ks) n) (on_top (handed v) x) (sym (releasing_left ks n))
    (on_top_serves (handed v) n x (λ a. handed_at_same a.stage v a) (so_many (n - 0) n x (none_less n) s))

returned_serves : (n : ℕ) (o : Origin) (v : Option Value) (ks : List ℕ) (x : PlainStore) → Serving (n - served o) (left x) →
    Serving (left_after (asks_returning o v ks) n) (returned o v x)
returned_serves n origin.Unqualified v ks x s = handed_serves n v ks (left x) s
returned_serves n origin.Qualified v ks x s = handed_serves n v ks (left x) s
returned_serves n origin.Creation v ks x s = handed_serves n v ks (left x) s
returned_serves n origin.Requested v ks x s = s
returned_serves n origin.RequestedCreation v ks x s = s

exited_serves : (n : ℕ) (fs : List PlainFrame) (x : PlainStore) → x.frames ≡ fs → Serving n x →
    Serving (left_after (asks_exiting (top_activation fs)) n) (exited_at (top_current fs) (top_activation fs) x)
exited_serves n [] x e s = s
exited_serves n (f ∷ below) x e s =
    let a : PlainActivation = f.activation in
    let m : ℕ = left_after (asks_returning a.origin a.result a.reserved) n in
    if_serves (is_unset x.program a) m (failed cause.UnsetEntity x)
    (if is_untested a.origin || object_meets x.program (object_numbered f.current.number x.objects) then returned a.origin a.result x else failed cause.Invariant x)
    (failed_serves m cause.UnsetEntity x)
    (if_serves (is_untested a.origin || object_meets x.program (object_numbered f.current.number x.objects)) m (returned a.origin a.result x) (failed cause.Invariant x)
    (returned_serves n a.origin a.result a.reserved x (left_serves n f below x e s)) (failed_serves m cause.Invariant x))

-- ---- all of them

round_same : (b : Option ℕ) (a : PlainActivation) → (round_ended b a).origin ≡ a.origin
round_same None a = refl
round_same (Some n) a = refl

pub acted_serves : (n h : ℕ) (a : Act) (x : PlainStore) → Serving n x → Serving (left_after (asks_acted h a x (acted h a x)) n) (acted h a x)
acted_serves n h (act.PrintInteger z) x s = on_top_serves (past 1) n (printed (signed_decimal z) x) (λ a. refl) s
acted_serves n h (act.PrintBoolean b) x s = on_top_serves (past 1) n (printed (boolean_text b) x) (λ a. refl) s
acted_serves n h (act.PrintText k) x s = on_top_serves (past 0) n (printed (listed (pool_of x.program.pool).texts k) x) (λ a. refl) s
acted_serves n h (act.Until back) x s = on_top_serves (round_ended back) n x (λ a. round_same back a) s
acted_serves n h (act.Enter c me name k gives) x s =
    let y : PlainStore = acted h (act.Enter c me name k gives) x in
    so_many n (left_after (asks_beginning y.program (top_activation y.frames)) n) y (sym (beginning_left y.program (top_activation y.frames) n))
    (called_serves n c me name k gives (top_activation x.frames) x refl s)
acted_serves n h (act.Request q) x s =
    sent_serves n (request_in h q (top_activation x.frames)) q.object q.name q.count q.gives q.passes x s
acted_serves n h (act.Create class procedure k) x s =
    let y : PlainStore = acted h (act.Create class procedure k) x in
    so_many n (left_after (asks_created procedure y) n) y (sym (created_left procedure y n)) (created_with_serves n procedure (next_reference h class x) k x s)
acted_serves n h (act.CreateHandler q) x s = handler_serves q.class q.procedure q.count q.passes n h x s
acted_serves n h act.Start x s = on_top_serves (past 0) n x (λ a. refl) s
acted_serves n h (act.Refuse k) x s = refused_serves n (formals_at x.program k) x.frames x refl s
acted_serves n h (act.Open first k) x s = opened_serves n first (heads_in first k (top_activation x.frames)) x s
acted_serves n h act.Leave x s = block_left_serves n (innermost_in (top_activation x.frames)) x s
acted_serves n h act.Exit x s = exited_serves n x.frames x refl s
