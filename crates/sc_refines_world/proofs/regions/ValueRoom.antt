-- Routines that are to be given a value have room for it.
use Rattle.std.proofs.Common.{◌≡◌, ◌<◌, ℕ, zero, suc, ◌+◌, Bool, true, false, List, [], ◌∷◌, Option, Some, None, length, drop, refl, sym, ap, ◌∙◌, subst, arith}
use Rattle.std.specs.Prelude.{◌||◌, ◌&&◌, ◌==◌, nat_lt, if◌then◌else◌}
use Rattle.std.specs.Option.{option_map}
use Rattle.sc_code.specs.declared.program.Image.{Image}
use Rattle.sc_code.specs.declared.program.RoutineCode.{RoutineCode}
use Rattle.sc_model.specs.declared.cause.Cause.TheVariants as cause
use Rattle.sc_region.specs.declared.frame.Origin.{Origin}
use Rattle.sc_region.specs.declared.frame.Origin.TheVariants as origin
use Rattle.sc_region.specs.declared.frame.Stage.{Stage}
use Rattle.sc_region.specs.declared.frame.Stage.TheVariants as stage
use Rattle.sc_region.specs.declared.job.Request.{Request}
use Rattle.sc_region.specs.declared.job.Want.{Want}
use Rattle.sc_region.specs.declared.value.Reference.{Reference}
use Rattle.sc_region.specs.declared.value.Value.{Value}
use Rattle.sc_region.specs.Classes.{routine_at, object_breaks, object_meets}
use Rattle.sc_region.specs.Frames.{PlainActivation, PlainFrame, top_activation, top_current}
use Rattle.sc_region.specs.Objects.{object_numbered}
use Rattle.sc_region.specs.Stores.{PlainStore, beginning, born, born_for, entered, entered_at, failed, is_settled, left, left_to, made, made_for, max_frames, max_objects, next_reference, settled, stage_of, with_new}
use Rattle.sc_acts.specs.declared.act.Act.{Act}
use Rattle.sc_acts.specs.declared.act.Act.TheVariants as act
use Rattle.sc_acts.specs.declared.act.Calling.{Calling}
use Rattle.sc_interp.specs.declared.hops.Hop.TheVariants as hop
use Rattle.sc_acts.specs.Creating.{created_at, given, has_room, has_room_in, made_if, with_reference, without_last}
use Rattle.sc_region.specs.Calls.{in_call, last_values, on_top, past, top_frame}
use Rattle.sc_acts.specs.Entering.{called_at, entered_if, has_operands, operands_of, origin_of, routine_in}
use Rattle.sc_acts.specs.Exiting.{exited_at, handed, handed_as, handed_at, handed_value, is_unset, is_untested, returned}
use Rattle.sc_refines_world.specs.regions.Laws.{ProgramsServe}
use Rattle.sc_interp.specs.Playing.{Remains}
use Rattle.sc_acts.specs.Refusing.{is_waited_for, refused_as, refused_at, waiting}
use Rattle.sc_acts.specs.Tables.{version_in, formals_at}
use Rattle.sc_interp.specs.Told.{IsReadyAt, IsTold}
use Rattle.sc_acts.specs.Turning.{round_ended}
use Rattle.sc_acts.proofs.Options.{none_some, some_same}
use Rattle.sc_acts.specs.Acting.{acted}
use Rattle.sc_acts.specs.Blocks as blocks
use Rattle.sc_acts.specs.Leaving.{closing, innermost_in, left_with}
use Rattle.sc_acts.specs.Blocks.{heads_in, opened_with}
use Rattle.sc_acts.specs.CreatingHandlers as handlers
use Rattle.sc_acts.specs.CreatingHandlers.{created_as, creation_in, creation_with}
use Rattle.sc_acts.specs.CreatingObjects as objects
use Rattle.sc_acts.specs.CreatingObjects.{created_with}
use Rattle.sc_acts.specs.Requesting as requesting
use Rattle.sc_acts.specs.Requesting.{awaiting_if, call_of, request_in, sent}
use Rattle.sc_refines_world.specs.regions.Acting.{TakesResult, TopRuns}
use Rattle.sc_refines_world.specs.regions.Jobs.{TakesAnswer}
use Rattle.sc_refines_world.specs.regions.Rooms.{AnswersHaveRoom, GetsAnswer, HasResult, HasRoom, HaveRoom, RoomIsKept, RoutinesEndWithRoom, takes_value}
use Rattle.sc_refines_world.proofs.regions.Exits.{routines_end}

-- ---- frames

false_true : {A : Type 0} → false ≡ true → A
false_true e = cc

-- The topmost of the frames goes on.
abbrev IsRunning : List PlainFrame → Type 0
IsRunning [] = Unit {0}
IsRunning (f ∷ below) = f.activation.stage ≡ stage.Runs

no_value : (a : PlainActivation) (s : Stage) → a.stage ≡ s → takes_value s ≡ false → HasRoom a
no_value a s e none = λ t. false_true (sym none ∙ ap takes_value (sym e) ∙ t)

-- the topmost routine is to be given no value afterwards
pub top_kept : (f : PlainActivation → PlainActivation) (s : Stage) → ((a : PlainActivation) → (f a).stage ≡ s) → takes_value s ≡ false → (fs : List PlainFrame) → HaveRoom fs → HaveRoom (top_frame f fs)
top_kept f s e none [] room = tt
top_kept f s e none (t ∷ below) room = (no_value (f t.activation) s (e t.activation) none, room.1)

-- it goes on, as before
top_runs : (f : PlainActivation → PlainActivation) → ((a : PlainActivation) → (f a).stage ≡ a.stage) → (fs : List PlainFrame) → IsRunning fs → HaveRoom fs → HaveRoom (top_frame f fs)
top_runs f e [] runs room = tt
top_runs f e (t ∷ below) runs room = (no_value (f t.activation) stage.Runs (e t.activation ∙ runs) refl, room.1)

still_runs : (f : PlainActivation → PlainActivation) → ((a : PlainActivation) → (f a).stage ≡ a.stage) → (fs : List PlainFrame) → IsRunning fs → IsRunning (top_frame f fs)
still_runs f e [] runs = tt
still_runs f e (t ∷ below) runs = e t.activation ∙ runs

below_room : (fs gs : List PlainFrame) → drop 1 gs ≡ drop 1 fs → HaveRoom fs → HaveRoom (drop 1 gs)
below_room [] gs e room = subst HaveRoom (sym e) tt
below_room (f ∷ fs) gs e room = subst HaveRoom (sym e) room.1

with_below : (gs : List PlainFrame) → IsRunning gs → HaveRoom (drop 1 gs) → HaveRoom gs
with_below [] runs room = tt
with_below (g ∷ gs) runs room = (no_value g.activation stage.Runs runs refl, room)

-- ---- stores

pub settled_keeps : (P : List PlainFrame → Type 0) (number : ℕ) (x : PlainStore) → P [] → P x.frames → P (settled number x).frames
settled_keeps P number x empty kept = by (is_settled number x && object_breaks x.program (object_numbered number x.objects))
  where
    by : (b : Bool) → P (if b then failed cause.Invariant x else x).frames
    by true = empty
    by false = kept

left_room : (x : PlainStore) → HaveRoom x.frames → HaveRoom (left x).frames
left_room x room = by x.frames room
  where
    by : (fs : List PlainFrame) → HaveRoom fs → HaveRoom (left_to fs x).frames
    by [] all = room
    by (f ∷ below) all = settled_keeps HaveRoom f.current.number (record x { frames = below }) tt all.1

begins_without : (slots : List ℕ) → takes_value (stage_of slots) ≡ false
begins_without [] = refl
begins_without (k ∷ ks) = refl

pub entered_room : (me : Reference) (routine : ℕ) (o : Origin) (us : List Value) (x : PlainStore) → HaveRoom x.frames → HaveRoom (entered me routine o us x).frames
entered_room me routine o us x room = by (routine_at x.program routine)
  where
    by_count : (r : RoutineCode) (b : Bool) → HaveRoom (if b then record x { frames = record { current = me; activation = beginning routine r o us } ∷ x.frames } else failed cause.StackFull x).frames
    by_count r true = (no_value (beginning routine r o us) (stage_of r.separate_formals.items) refl (begins_without r.separate_formals.items), room)
    by_count r false = tt

    by_many : (r : RoutineCode) (b : Bool) →
        HaveRoom (if b then (if nat_lt (length x.frames) max_frames then record x { frames = record { current = me; activation = beginning routine r o us } ∷ x.frames } else failed cause.StackFull x) else failed cause.BadCode x).frames
    by_many r true = by_count r (nat_lt (length x.frames) max_frames)
    by_many r false = tt

    by : (q : Option RoutineCode) → HaveRoom (entered_at (length x.frames) me routine q o us x).frames
    by None = tt
    by (Some r) = by_many r (length us == r.formals)

entered_if_room : (q : Option ℕ) (me : Reference) (o : Origin) (us : List Value) (x : PlainStore) → HaveRoom x.frames → HaveRoom (entered_if q me o us x).frames
entered_if_room None me o us x room = tt
entered_if_room (Some routine) me o us x room = entered_room me routine o us x room

-- ---- operations

called_room : (c : Calling) (r : Reference) (k n : ℕ) (gives : Bool) (z : PlainStore) (o : Option PlainActivation) → HaveRoom (on_top (in_call (operands_of c n) gives) z).frames →
    HaveRoom (called_at c r k n gives o z).frames
called_room c r k n gives z None room = tt
called_room c r k n gives z (Some a) room = by (nat_lt n 17 && has_operands (operands_of c n) a)
  where
    by : (b : Bool) →
        HaveRoom (if b then entered_if (routine_in (version_in z.program r.class k)) r (origin_of c) (last_values n a.operands.values) (on_top (in_call (operands_of c n) gives) z) else failed cause.BadCode z).frames
    by true = entered_if_room (routine_in (version_in z.program r.class k)) r (origin_of c) (last_values n a.operands.values) (on_top (in_call (operands_of c n) gives) z) room
    by false = tt

calling_room : (p : Image) (c : Calling) (r : Reference) (k n : ℕ) (gives : Bool) (fs : List PlainFrame) → IsReadyAt p (act.Enter c r k n gives) (top_activation fs) → HaveRoom fs →
    HaveRoom (top_frame (in_call (operands_of c n) gives) fs)
calling_room p c r k n gives [] t room = tt
calling_room p c r k n gives (f ∷ below) t room = (t.room, room.1)

drop_one : {A : Type 0} (n : ℕ) (vs : List A) → drop 1 (drop n vs) ≡ drop (suc n) vs
drop_one zero vs = refl
drop_one (suc n) [] = refl
drop_one (suc n) (v ∷ vs) = drop_one n vs

drop_more : {A : Type 0} (n : ℕ) (vs : List A) → drop 1 (drop n vs) ≡ drop (n + 1) vs
drop_more n vs =
    let same : suc n ≡ n + 1 = omega (arith) in
    drop_one n vs ∙ ap (λ (k : ℕ). drop k vs) same

sending_room : (p : Image) (r : Reference) (k n : ℕ) (gives passes : Bool) (fs : List PlainFrame) → IsReadyAt p (act.Request (call_of r k n gives passes)) (top_activation fs) → IsRunning fs →
    HaveRoom fs → HaveRoom (top_frame (requesting.sending (call_of r k n gives passes)) fs)
sending_room p r k n gives passes [] t runs room = tt
sending_room p r k n gives passes (f ∷ below) t runs room = (by (passes || gives), room.1)
  where
    by : (b : Bool) → HasRoom (awaiting_if b r.handler gives false (without_last (past n f.activation)))
    by true = λ g. subst (λ (vs : List Value). length vs < f.activation.operands.depth) (sym (drop_more n f.activation.operands.values)) (t.room g)
    by false = no_value (without_last (past n f.activation)) stage.Runs runs refl

sent_room : (q : Option Request) (r : Reference) (k n : ℕ) (gives passes : Bool) (z : PlainStore) → HaveRoom (on_top (requesting.sending (call_of r k n gives passes)) z).frames →
    HaveRoom (sent q (call_of r k n gives passes) z).frames
sent_room None r k n gives passes z room = tt
sent_room (Some q) r k n gives passes z room = room

-- ---- creations

abbrev RunsWithRoom : List PlainFrame → Type 0
RunsWithRoom fs = IsRunning fs × HaveRoom fs

made_keeps : (class : ℕ) (z : PlainStore) → RunsWithRoom z.frames → RunsWithRoom (made class z).frames
made_keeps class z kept = by (nat_lt (length z.objects) max_objects)
  where
    by : (b : Bool) → RunsWithRoom (if b then born class z else failed cause.TooManyObjects z).frames
    by true = settled_keeps RunsWithRoom (length z.objects + 1) (with_new class z) (tt, tt) kept
    by false = (tt, tt)

given_room : (n : ℕ) (r : Reference) (x : PlainStore) → RunsWithRoom x.frames → HaveRoom (given n r x).frames
given_room n r x kept = by (has_room_in n (top_activation x.frames))
  where
    passed : HaveRoom (top_frame (past n) x.frames)
    passed = top_runs (past n) (λ a. refl) x.frames kept.0 kept.1

    by : (b : Bool) → HaveRoom (if b then on_top (with_reference r) (on_top (past n) x) else failed cause.BadCode x).frames
    by true = top_runs (with_reference r) (λ a. refl) (top_frame (past n) x.frames) (still_runs (past n) (λ a. refl) x.frames kept.0) passed
    by false = tt

caller_room : (r : Reference) (n : ℕ) (fs : List PlainFrame) → HaveRoom fs → HaveRoom (top_frame (with_reference r) (top_frame (in_call n false) fs))
caller_room r n [] room = tt
caller_room r n (f ∷ below) room = (no_value (with_reference r (in_call n false f.activation)) (stage.InCall false) refl refl, room.1)

made_for_room : (handler class routine : ℕ) (us : List Value) (x : PlainStore) → HaveRoom x.frames → HaveRoom (made_for handler class routine us x).frames
made_for_room handler class routine us x room = by (nat_lt (length x.objects) max_objects)
  where
    by : (b : Bool) → HaveRoom (if b then born_for (next_reference handler class x) routine origin.Creation us x else failed cause.TooManyObjects x).frames
    by true =
        settled_keeps HaveRoom (length x.objects + 1) (entered (next_reference handler class x) routine origin.Creation us (with_new class x)) tt
        (entered_room (next_reference handler class x) routine origin.Creation us (with_new class x) room)
    by false = tt

made_if_room : (q : Option ℕ) (r : Reference) (us : List Value) (x : PlainStore) → HaveRoom x.frames → HaveRoom (made_if q r us x).frames
made_if_room None r us x room = tt
made_if_room (Some routine) r us x room = made_for_room r.handler r.class routine us x room

created_by_room : (r : Reference) (k n : ℕ) (z : PlainStore) (o : Option PlainActivation) → HaveRoom z.frames → HaveRoom (created_at r k n o z).frames
created_by_room r k n z None room = tt
created_by_room r k n z (Some a) room = by (has_room n a && has_operands n a)
  where
    by : (b : Bool) →
        HaveRoom (if b then made_if (routine_in (version_in z.program r.class k)) r (last_values n a.operands.values) (on_top (with_reference r) (on_top (in_call n false) z)) else failed cause.BadCode z).frames
    by true =
        made_if_room (routine_in (version_in z.program r.class k)) r (last_values n a.operands.values) (on_top (with_reference r) (on_top (in_call n false) z)) (caller_room r n z.frames room)
    by false = tt

created_room : (h class : ℕ) (k : Option ℕ) (n : ℕ) (z : PlainStore) → RunsWithRoom z.frames → HaveRoom (objects.object_created h class k n z).frames
created_room h class None n z kept = given_room n (next_reference h class z) (made class z) (made_keeps class z kept)
created_room h class (Some k) n z kept = by (nat_lt (length z.objects) max_objects)
  where
    by : (b : Bool) → HaveRoom (if b then created_at (next_reference h class z) k n (top_activation z.frames) z else failed cause.TooManyObjects z).frames
    by true = created_by_room (next_reference h class z) k n z (top_activation z.frames) kept.1
    by false = tt

creating_room : (r : Reference) (class : ℕ) (k : Option ℕ) (n : ℕ) (passes : Bool) (fs : List PlainFrame) → IsRunning fs → HaveRoom fs →
    HaveRoom (top_frame (handlers.creating r (creation_with class k n passes)) fs)
creating_room r class k n passes [] runs room = tt
creating_room r class k n passes (f ∷ below) runs room = (by passes, room.1)
  where
    by : (b : Bool) → HasRoom (awaiting_if b r.handler false true (with_reference r (past n f.activation)))
    by true = λ g. false_true g
    by false = no_value (with_reference r (past n f.activation)) stage.Runs runs refl

created_as_room : (w : Option Want) (r : Reference) (class : ℕ) (k : Option ℕ) (n : ℕ) (passes : Bool) (z : PlainStore) →
    HaveRoom (on_top (handlers.creating r (creation_with class k n passes)) z).frames → HaveRoom (created_as w r (creation_with class k n passes) z).frames
created_as_room None r class k n passes z room = tt
created_as_room (Some w) r class k n passes z room = room

handler_room : (h class : ℕ) (k : Option ℕ) (n : ℕ) (passes : Bool) (z : PlainStore) → RunsWithRoom z.frames →
    HaveRoom (handlers.handler_created h (creation_with class k n passes) z).frames
handler_room h class k n passes z kept =
    created_as_room (creation_in (creation_with class k n passes) (top_activation z.frames)) (handlers.first_object h class) class k n passes z
    (creating_room (handlers.first_object h class) class k n passes z.frames kept.0 kept.1)

-- ---- ends

refused_as_room : (o : Origin) (me : Reference) (z : PlainStore) → HaveRoom z.frames → HaveRoom (refused_as o me z).frames
refused_as_room origin.Unqualified me z room = tt
refused_as_room origin.Qualified me z room = tt
refused_as_room origin.Creation me z room = tt
refused_as_room origin.Requested me z room = left_room z room
refused_as_room origin.RequestedCreation me z room = by (object_meets z.program (object_numbered me.number z.objects))
  where
    by : (b : Bool) → HaveRoom (if b then left z else failed cause.Invariant z).frames
    by true = left_room z room
    by false = tt

refused_room : (slots : List ℕ) (me : Option Reference) (o : Option PlainActivation) (z : PlainStore) → HaveRoom z.frames → HaveRoom (refused_at slots me o z).frames
refused_room slots None o z room = room
refused_room slots (Some me) None z room = room
refused_room slots (Some me) (Some a) z room = by (is_waited_for a slots)
  where
    by : (b : Bool) → HaveRoom (if b then on_top waiting z else refused_as a.origin me z).frames
    by true = top_kept waiting stage.Reserves (λ a. refl) refl z.frames room
    by false = refused_as_room a.origin me z room

opened_room : (first : ℕ) (q : Option (List Value)) (z : PlainStore) → HaveRoom z.frames → HaveRoom (opened_with first q z).frames
opened_room first None z room = tt
opened_room first (Some us) z room = top_kept (blocks.opening first us) stage.ReservesBlock (λ a. refl) refl z.frames room

left_with_room : (q : Option (List ℕ)) (z : PlainStore) → RunsWithRoom z.frames → HaveRoom (left_with q z).frames
left_with_room None z kept = tt
left_with_room (Some ks) z kept = top_runs closing (λ a. refl) z.frames kept.0 kept.1

handed_value_runs : (v : Value) (a : PlainActivation) → a.stage ≡ stage.Runs → (handed_value v a).stage ≡ stage.Runs
handed_value_runs v a runs = by (nat_lt (length a.operands.values) a.operands.depth)
  where
    by : (b : Bool) → (if b then record a { operands = record a.operands { values = v ∷ a.operands.values } } else a).stage ≡ stage.Runs
    by true = runs
    by false = runs

pub handed_runs : (gives : Bool) (v : Option Value) (a : PlainActivation) → a.stage ≡ stage.Runs → (handed_as gives v a).stage ≡ stage.Runs
handed_runs true (Some v) a runs = handed_value_runs v a runs
handed_runs true None a runs = runs
handed_runs false v a runs = runs

handed_room : (s : Stage) (v : Option Value) (a : PlainActivation) → HasRoom a → HasRoom (handed_at s v a)
handed_room (stage.InCall gives) v a room = no_value (handed_at (stage.InCall gives) v a) stage.Runs (handed_runs gives v (record a { stage = stage.Runs }) refl) refl
handed_room stage.Runs v a room = room
handed_room stage.Reserves v a room = room
handed_room stage.ReservesBlock v a room = room
handed_room (stage.Awaits k gives is_creation) v a room = room

handed_frames : (v : Option Value) (fs : List PlainFrame) → HaveRoom fs → HaveRoom (top_frame (handed v) fs)
handed_frames v [] room = tt
handed_frames v (f ∷ below) room = (handed_room f.activation.stage v f.activation room.0, room.1)

returned_room : (o : Origin) (v : Option Value) (z : PlainStore) → HaveRoom z.frames → HaveRoom (returned o v z).frames
returned_room origin.Unqualified v z room = handed_frames v (left z).frames (left_room z room)
returned_room origin.Qualified v z room = handed_frames v (left z).frames (left_room z room)
returned_room origin.Creation v z room = handed_frames v (left z).frames (left_room z room)
returned_room origin.Requested v z room = left_room z room
returned_room origin.RequestedCreation v z room = left_room z room

exited_room : (me : Option Reference) (o : Option PlainActivation) (z : PlainStore) → HaveRoom z.frames → HaveRoom (exited_at me o z).frames
exited_room None o z room = room
exited_room (Some me) None z room = room
exited_room (Some me) (Some a) z room = by (is_unset z.program a) (is_untested a.origin || object_meets z.program (object_numbered me.number z.objects))
  where
    by : (b c : Bool) → HaveRoom (if b then failed cause.UnsetEntity z else if c then returned a.origin a.result z else failed cause.Invariant z).frames
    by true c = tt
    by false true = returned_room a.origin a.result z room
    by false false = tt

round_room : (back : Option ℕ) (fs : List PlainFrame) → IsRunning fs → HaveRoom fs → HaveRoom (top_frame (round_ended back) fs)
round_room None fs runs room = top_runs (round_ended None) (λ a. refl) fs runs room
round_room (Some n) fs runs room = top_runs (round_ended (Some n)) (λ a. refl) fs runs room

-- ---- the laws

runs_still : (fs gs : List PlainFrame) → option_map (λ (a : PlainActivation). a.stage) (top_activation fs) ≡ Some stage.Runs →
    ((a b : PlainActivation) → top_activation fs ≡ Some a → top_activation gs ≡ Some b → b.stage ≡ a.stage) → IsRunning gs
runs_still fs [] e same = tt
runs_still [] (g ∷ gs) e same = none_some stage.Runs e
runs_still (f ∷ fs) (g ∷ gs) e same = same f.activation g.activation refl refl ∙ some_same f.activation.stage stage.Runs e

acts_room : (h : ℕ) (a : Act) (z : PlainStore) → IsTold (hop.Comes a) z → RunsWithRoom z.frames → HaveRoom (acted h a z).frames
acts_room h (act.PrintInteger v) z t kept = top_runs (past 1) (λ a. refl) z.frames kept.0 kept.1
acts_room h (act.PrintBoolean b) z t kept = top_runs (past 1) (λ a. refl) z.frames kept.0 kept.1
acts_room h (act.PrintText k) z t kept = top_runs (past 0) (λ a. refl) z.frames kept.0 kept.1
acts_room h (act.Until n) z t kept = round_room n z.frames kept.0 kept.1
acts_room h (act.Enter c r k n gives) z t kept = called_room c r k n gives z (top_activation z.frames) (calling_room z.program c r k n gives z.frames t kept.1)
acts_room h (act.Request q) z t kept =
    sent_room (request_in h q (top_activation z.frames)) q.object q.name q.count q.gives q.passes z
    (sending_room z.program q.object q.name q.count q.gives q.passes z.frames t kept.0 kept.1)
acts_room h (act.Create class k n) z t kept = created_room h class k n z kept
acts_room h (act.CreateHandler q) z t kept = handler_room h q.class q.procedure q.count q.passes z kept
acts_room h act.Start z t kept = top_runs (past 0) (λ a. refl) z.frames kept.0 kept.1
acts_room h (act.Refuse k) z t kept = refused_room (formals_at z.program k) (top_current z.frames) (top_activation z.frames) z kept.1
acts_room h (act.Open first n) z t kept = opened_room first (heads_in first n (top_activation z.frames)) z kept.1
acts_room h act.Leave z t kept = left_with_room (innermost_in (top_activation z.frames)) z kept
acts_room h act.Exit z t kept = exited_room (top_current z.frames) (top_activation z.frames) z kept.1

-- silent operations leave room
pub room_remains : (y z : PlainStore) → TopRuns y → Remains y z → HaveRoom y.frames → HaveRoom z.frames
room_remains y z runs remains room =
    with_below z.frames (runs_still y.frames z.frames runs (λ a b ta tb. (remains.stays a b ta tb).stage)) (below_room y.frames z.frames remains.below room)

pub room_is_kept : RoomIsKept
room_is_kept h a y z runs remains t room =
    let running = runs_still y.frames z.frames runs (λ a b ta tb. (remains.stays a b ta tb).stage) in
    acts_room h a z t (running, with_below z.frames running (below_room y.frames z.frames remains.below room))

takes_result : (fs : List PlainFrame) → HaveRoom fs → HasResult fs → TakesResult fs
takes_result [] room result = tt
takes_result (f ∷ []) room result = λ c. tt
takes_result (f ∷ g ∷ gs) room result = λ c e. (result c e, room.1.0 (ap takes_value e))

takes_answer : (v : Option Value) (fs : List PlainFrame) → HaveRoom fs → GetsAnswer v fs → TakesAnswer v fs
takes_answer v [] room gets = tt
takes_answer v (g ∷ gs) room gets = λ k c e. (gets k c e, room.0 (ap takes_value e))

pub answers_have_room : AnswersHaveRoom
answers_have_room v y room gets = takes_answer v y.frames room gets

pub routines_end_with_room : ProgramsServe → RoutinesEndWithRoom
routines_end_with_room serve h y z comes whole room result s x is region = routines_end serve y z comes whole (takes_result z.frames room result) s h x is region
