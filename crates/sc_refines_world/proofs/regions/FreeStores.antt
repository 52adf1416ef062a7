-- Frames that create for nothing: operations of a store, and its turns, leave none.
use Rattle.std.proofs.Common.{◌≡◌, ℕ, ◌+◌, Bool, true, false, List, [], ◌∷◌, Option, Some, None, drop, length, refl, sym, subst}
use Rattle.std.specs.Prelude.{◌||◌, ◌&&◌, ◌==◌, nat_lt, if◌then◌else◌}
use Rattle.sc_code.specs.declared.program.RoutineCode.{RoutineCode}
use Rattle.sc_model.specs.declared.cause.Cause.TheVariants as cause
use Rattle.sc_region.specs.declared.frame.Origin.{Origin}
use Rattle.sc_region.specs.declared.frame.Origin.TheVariants as origin
use Rattle.sc_region.specs.declared.frame.Stage.{Stage}
use Rattle.sc_region.specs.declared.frame.Stage.TheVariants as stage
use Rattle.sc_region.specs.declared.job.Request.{Request}
use Rattle.sc_region.specs.declared.job.Want.{Want}
use Rattle.sc_region.specs.declared.value.Reference.{Reference}
use Rattle.sc_region.specs.declared.value.Value.{Value}
use Rattle.sc_region.specs.Classes.{object_meets, routine_at}
use Rattle.sc_region.specs.Frames.{PlainActivation, PlainFrame, top_activation, top_current}
use Rattle.sc_region.specs.Objects.{object_numbered}
use Rattle.sc_region.specs.Stores.{PlainStore, beginning, born, born_for, entered, entered_at, failed, left, left_to, made, made_for, max_frames, max_objects, next_reference, stage_of, with_new}
use Rattle.sc_acts.specs.declared.act.Act.{Act}
use Rattle.sc_acts.specs.declared.act.Act.TheVariants as act
use Rattle.sc_acts.specs.declared.act.Calling.{Calling}
use Rattle.sc_acts.specs.Creating.{created_at, given, has_room, has_room_in, made_if, with_reference, without_last}
use Rattle.sc_region.specs.Calls.{in_call, last_values, on_top, past, top_frame}
use Rattle.sc_acts.specs.Entering.{called_at, entered_if, has_operands, operands_of, origin_of, routine_in}
use Rattle.sc_acts.specs.Exiting.{exited_at, handed, handed_as, handed_at, handed_value, is_unset, is_untested, returned}
use Rattle.sc_acts.specs.Refusing.{is_waited_for, refused_as, refused_at, waiting}
use Rattle.sc_acts.specs.Tables.{version_in, formals_at}
use Rattle.sc_acts.specs.Turning.{round_ended}
use Rattle.sc_acts.proofs.Options.{none_some}
use Rattle.sc_acts.specs.Acting.{acted}
use Rattle.sc_acts.specs.Blocks as blocks
use Rattle.sc_acts.specs.Leaving.{closing, innermost_in, left_with}
use Rattle.sc_acts.specs.Blocks.{heads_in, opened_with}
use Rattle.sc_acts.specs.CreatingHandlers as handlers
use Rattle.sc_acts.specs.CreatingHandlers.{created_as, creation_in, creation_with}
use Rattle.sc_acts.specs.CreatingObjects as objects
use Rattle.sc_acts.specs.Requesting as requesting
use Rattle.sc_acts.specs.Requesting.{awaiting_if, call_of, request_in, sent}
use Rattle.sc_refines_world.specs.regions.Sound.{CreateForNothing, CreatesForNothing}
use Rattle.sc_refines_world.proofs.regions.ValueRoom.{settled_keeps}

-- ---- frames

pub top_free : (f : PlainActivation → PlainActivation) → ((a : PlainActivation) → CreatesForNothing a.stage → CreatesForNothing (f a).stage) → (fs : List PlainFrame) → CreateForNothing fs →
    CreateForNothing (top_frame f fs)
top_free f on [] free = tt
top_free f on (t ∷ below) free = (on t.activation free.0, free.1)

-- ---- stores

left_free : (x : PlainStore) → CreateForNothing x.frames → CreateForNothing (left x).frames
left_free x free = by x.frames free
  where
    by : (fs : List PlainFrame) → CreateForNothing fs → CreateForNothing (left_to fs x).frames
    by [] all = free
    by (f ∷ below) all = settled_keeps CreateForNothing f.current.number (record x { frames = below }) tt all.1

begins_free : (slots : List ℕ) → CreatesForNothing (stage_of slots)
begins_free [] = tt
begins_free (k ∷ ks) = tt

pub entered_free : (me : Reference) (routine : ℕ) (o : Origin) (us : List Value) (x : PlainStore) → CreateForNothing x.frames → CreateForNothing (entered me routine o us x).frames
entered_free me routine o us x free = by (routine_at x.program routine)
  where
    by_count : (r : RoutineCode) (b : Bool) →
        CreateForNothing (if b then record x { frames = record { current = me; activation = beginning routine r o us } ∷ x.frames } else failed cause.StackFull x).frames
    by_count r true = (begins_free r.separate_formals.items, free)
    by_count r false = tt

    by_many : (r : RoutineCode) (b : Bool) →
        CreateForNothing (if b then (if nat_lt (length x.frames) max_frames then record x { frames = record { current = me; activation = beginning routine r o us } ∷ x.frames } else failed cause.StackFull x) else failed cause.BadCode x).frames
    by_many r true = by_count r (nat_lt (length x.frames) max_frames)
    by_many r false = tt

    by : (q : Option RoutineCode) → CreateForNothing (entered_at (length x.frames) me routine q o us x).frames
    by None = tt
    by (Some r) = by_many r (length us == r.formals)

entered_if_free : (q : Option ℕ) (me : Reference) (o : Origin) (us : List Value) (x : PlainStore) → CreateForNothing x.frames → CreateForNothing (entered_if q me o us x).frames
entered_if_free None me o us x free = tt
entered_if_free (Some routine) me o us x free = entered_free me routine o us x free

-- one store or the other
either_free : (b : Bool) (x y : PlainStore) → CreateForNothing x.frames → CreateForNothing y.frames → CreateForNothing (if b then x else y).frames
either_free true x y p q = p
either_free false x y p q = q

-- ---- operations

called_free : (c : Calling) (r : Reference) (k n : ℕ) (gives : Bool) (z : PlainStore) (o : Option PlainActivation) → CreateForNothing z.frames →
    CreateForNothing (called_at c r k n gives o z).frames
called_free c r k n gives z None free = tt
called_free c r k n gives z (Some a) free =
    either_free (nat_lt n 17 && has_operands (operands_of c n) a) _ (failed cause.BadCode z)
    (entered_if_free (routine_in (version_in z.program r.class k)) r (origin_of c) (last_values n a.operands.values) (on_top (in_call (operands_of c n) gives) z)
    (top_free (in_call (operands_of c n) gives) (λ a h. tt) z.frames free)) tt

awaiting_free : (b : Bool) (k : ℕ) (gives is_creation : Bool) (a : PlainActivation) → CreatesForNothing a.stage → CreatesForNothing (stage.Awaits k gives is_creation) →
    CreatesForNothing (awaiting_if b k gives is_creation a).stage
awaiting_free true k gives is_creation a h w = w
awaiting_free false k gives is_creation a h w = h

sent_free : (q : Option Request) (r : Reference) (k n : ℕ) (gives passes : Bool) (z : PlainStore) → CreateForNothing z.frames → CreateForNothing (sent q (call_of r k n gives passes) z).frames
sent_free None r k n gives passes z free = tt
sent_free (Some q) r k n gives passes z free =
    top_free (requesting.sending (call_of r k n gives passes)) (λ a h. awaiting_free (passes || gives) r.handler gives false (without_last (past n a)) h tt) z.frames free

-- ---- creations

made_free : (class : ℕ) (z : PlainStore) → CreateForNothing z.frames → CreateForNothing (made class z).frames
made_free class z free =
    either_free (nat_lt (length z.objects) max_objects) (born class z) (failed cause.TooManyObjects z)
    (settled_keeps CreateForNothing (length z.objects + 1) (with_new class z) tt free) tt

given_free : (n : ℕ) (r : Reference) (x : PlainStore) → CreateForNothing x.frames → CreateForNothing (given n r x).frames
given_free n r x free =
    either_free (has_room_in n (top_activation x.frames)) (on_top (with_reference r) (on_top (past n) x)) (failed cause.BadCode x)
    (top_free (with_reference r) (λ a h. h) (top_frame (past n) x.frames) (top_free (past n) (λ a h. h) x.frames free)) tt

made_for_free : (handler class routine : ℕ) (us : List Value) (x : PlainStore) → CreateForNothing x.frames → CreateForNothing (made_for handler class routine us x).frames
made_for_free handler class routine us x free =
    either_free (nat_lt (length x.objects) max_objects) (born_for (next_reference handler class x) routine origin.Creation us x) (failed cause.TooManyObjects x)
    (settled_keeps CreateForNothing (length x.objects + 1) (entered (next_reference handler class x) routine origin.Creation us (with_new class x)) tt
    (entered_free (next_reference handler class x) routine origin.Creation us (with_new class x) free)) tt

made_if_free : (q : Option ℕ) (r : Reference) (us : List Value) (x : PlainStore) → CreateForNothing x.frames → CreateForNothing (made_if q r us x).frames
made_if_free None r us x free = tt
made_if_free (Some routine) r us x free = made_for_free r.handler r.class routine us x free

created_by_free : (r : Reference) (k n : ℕ) (z : PlainStore) (o : Option PlainActivation) → CreateForNothing z.frames → CreateForNothing (created_at r k n o z).frames
created_by_free r k n z None free = tt
created_by_free r k n z (Some a) free =
    either_free (has_room n a && has_operands n a) _ (failed cause.BadCode z)
    (made_if_free (routine_in (version_in z.program r.class k)) r (last_values n a.operands.values) (on_top (with_reference r) (on_top (in_call n false) z))
    (top_free (with_reference r) (λ a h. h) (top_frame (in_call n false) z.frames) (top_free (in_call n false) (λ a h. tt) z.frames free))) tt

created_free : (h class : ℕ) (k : Option ℕ) (n : ℕ) (z : PlainStore) → CreateForNothing z.frames → CreateForNothing (objects.object_created h class k n z).frames
created_free h class None n z free = given_free n (next_reference h class z) (made class z) (made_free class z free)
created_free h class (Some k) n z free =
    either_free (nat_lt (length z.objects) max_objects) (created_at (next_reference h class z) k n (top_activation z.frames) z) (failed cause.TooManyObjects z)
    (created_by_free (next_reference h class z) k n z (top_activation z.frames) free) tt

created_as_free : (w : Option Want) (r : Reference) (class : ℕ) (k : Option ℕ) (n : ℕ) (passes : Bool) (z : PlainStore) → CreateForNothing z.frames →
    CreateForNothing (created_as w r (creation_with class k n passes) z).frames
created_as_free None r class k n passes z free = tt
created_as_free (Some w) r class k n passes z free =
    top_free (handlers.creating r (creation_with class k n passes)) (λ a h. awaiting_free passes r.handler false true (with_reference r (past n a)) h refl) z.frames free

handler_free : (h class : ℕ) (k : Option ℕ) (n : ℕ) (passes : Bool) (z : PlainStore) → CreateForNothing z.frames →
    CreateForNothing (handlers.handler_created h (creation_with class k n passes) z).frames
handler_free h class k n passes z free =
    created_as_free (creation_in (creation_with class k n passes) (top_activation z.frames)) (handlers.first_object h class) class k n passes z free

-- ---- ends

refused_as_free : (o : Origin) (me : Reference) (z : PlainStore) → CreateForNothing z.frames → CreateForNothing (refused_as o me z).frames
refused_as_free origin.Unqualified me z free = tt
refused_as_free origin.Qualified me z free = tt
refused_as_free origin.Creation me z free = tt
refused_as_free origin.Requested me z free = left_free z free
refused_as_free origin.RequestedCreation me z free =
    either_free (object_meets z.program (object_numbered me.number z.objects)) (left z) (failed cause.Invariant z) (left_free z free) tt

refused_free : (slots : List ℕ) (me : Option Reference) (o : Option PlainActivation) (z : PlainStore) → CreateForNothing z.frames → CreateForNothing (refused_at slots me o z).frames
refused_free slots None o z free = free
refused_free slots (Some me) None z free = free
refused_free slots (Some me) (Some a) z free =
    either_free (is_waited_for a slots) (on_top waiting z) (refused_as a.origin me z) (top_free waiting (λ a h. tt) z.frames free) (refused_as_free a.origin me z free)

opened_free : (k : ℕ) (q : Option (List Value)) (z : PlainStore) → CreateForNothing z.frames → CreateForNothing (opened_with k q z).frames
opened_free k None z free = tt
opened_free k (Some us) z free = top_free (blocks.opening k us) (λ a h. tt) z.frames free

left_with_free : (q : Option (List ℕ)) (z : PlainStore) → CreateForNothing z.frames → CreateForNothing (left_with q z).frames
left_with_free None z free = tt
left_with_free (Some ks) z free = top_free closing (λ a h. h) z.frames free

handed_value_free : (v : Value) (a : PlainActivation) → CreatesForNothing a.stage → CreatesForNothing (handed_value v a).stage
handed_value_free v a free = by (nat_lt (length a.operands.values) a.operands.depth)
  where
    by : (b : Bool) → CreatesForNothing (if b then record a { operands = record a.operands { values = v ∷ a.operands.values } } else a).stage
    by true = free
    by false = free

handed_as_free : (gives : Bool) (v : Option Value) (a : PlainActivation) → CreatesForNothing a.stage → CreatesForNothing (handed_as gives v a).stage
handed_as_free true (Some v) a free = handed_value_free v a free
handed_as_free true None a free = free
handed_as_free false v a free = free

handed_free : (s : Stage) (v : Option Value) (a : PlainActivation) → CreatesForNothing a.stage → CreatesForNothing (handed_at s v a).stage
handed_free (stage.InCall gives) v a free = handed_as_free gives v (record a { stage = stage.Runs }) tt
handed_free stage.Runs v a free = free
handed_free stage.Reserves v a free = free
handed_free stage.ReservesBlock v a free = free
handed_free (stage.Awaits k gives is_creation) v a free = free

returned_free : (o : Origin) (v : Option Value) (z : PlainStore) → CreateForNothing z.frames → CreateForNothing (returned o v z).frames
returned_free origin.Unqualified v z free = top_free (handed v) (λ a h. handed_free a.stage v a h) (left z).frames (left_free z free)
returned_free origin.Qualified v z free = top_free (handed v) (λ a h. handed_free a.stage v a h) (left z).frames (left_free z free)
returned_free origin.Creation v z free = top_free (handed v) (λ a h. handed_free a.stage v a h) (left z).frames (left_free z free)
returned_free origin.Requested v z free = left_free z free
returned_free origin.RequestedCreation v z free = left_free z free

exited_free : (me : Option Reference) (o : Option PlainActivation) (z : PlainStore) → CreateForNothing z.frames → CreateForNothing (exited_at me o z).frames
exited_free None o z free = free
exited_free (Some me) None z free = free
exited_free (Some me) (Some a) z free =
    either_free (is_unset z.program a) (failed cause.UnsetEntity z)
    (if is_untested a.origin || object_meets z.program (object_numbered me.number z.objects) then returned a.origin a.result z else failed cause.Invariant z) tt
    (either_free (is_untested a.origin || object_meets z.program (object_numbered me.number z.objects)) (returned a.origin a.result z) (failed cause.Invariant z)
    (returned_free a.origin a.result z free) tt)

round_free : (back : Option ℕ) (fs : List PlainFrame) → CreateForNothing fs → CreateForNothing (top_frame (round_ended back) fs)
round_free None fs free = top_free (round_ended None) (λ a h. h) fs free
round_free (Some n) fs free = top_free (round_ended (Some n)) (λ a h. h) fs free

pub acted_free : (h : ℕ) (a : Act) (z : PlainStore) → CreateForNothing z.frames → CreateForNothing (acted h a z).frames
acted_free h (act.PrintInteger v) z free = top_free (past 1) (λ a h. h) z.frames free
acted_free h (act.PrintBoolean b) z free = top_free (past 1) (λ a h. h) z.frames free
acted_free h (act.PrintText k) z free = top_free (past 0) (λ a h. h) z.frames free
acted_free h (act.Until n) z free = round_free n z.frames free
acted_free h (act.Enter c r k n gives) z free = called_free c r k n gives z (top_activation z.frames) free
acted_free h (act.Request q) z free =
    sent_free (request_in h q (top_activation z.frames)) q.object q.name q.count q.gives q.passes z free
acted_free h (act.Create class k n) z free = created_free h class k n z free
acted_free h (act.CreateHandler q) z free = handler_free h q.class q.procedure q.count q.passes z free
acted_free h act.Start z free = top_free (past 0) (λ a h. h) z.frames free
acted_free h (act.Refuse k) z free = refused_free (formals_at z.program k) (top_current z.frames) (top_activation z.frames) z free
acted_free h (act.Open k n) z free = opened_free k (heads_in k n (top_activation z.frames)) z free
acted_free h act.Leave z free = left_with_free (innermost_in (top_activation z.frames)) z free
acted_free h act.Exit z free = exited_free (top_current z.frames) (top_activation z.frames) z free

-- silent operations leave stages
pub remains_free : (fs gs : List PlainFrame) → drop 1 gs ≡ drop 1 fs →
    ((a b : PlainActivation) → top_activation fs ≡ Some a → top_activation gs ≡ Some b → b.stage ≡ a.stage) → top_current gs ≡ top_current fs → CreateForNothing fs → CreateForNothing gs
remains_free fs [] below same current free = tt
remains_free [] (g ∷ gs) below same current free = none_some g.current (sym current)
remains_free (f ∷ fs) (g ∷ gs) below same current free =
    (subst CreatesForNothing (sym (same f.activation g.activation refl refl)) free.0, subst CreateForNothing (sym below) free.1)
