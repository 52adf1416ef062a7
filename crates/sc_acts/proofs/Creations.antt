-- Room for the reference to a new object, and a creation that isn't made.
use Rattle.std.proofs.Common.{◌≡◌, ℕ, ◌<◌, List, [], ◌∷◌, Option, Some, None, Bool, true, false, length, refl, sym, ap, ◌∙◌, subst}
use Rattle.std.specs.Prelude.{◌&&◌, if◌then◌else◌}
use Rattle.std.proofs.lemmas.Bool.{ltb-true}
use Rattle.sc_model.specs.declared.cause.Cause.TheVariants as cause
use Rattle.sc_region.specs.declared.frame.Stage.{Stage}
use Rattle.sc_region.specs.declared.value.Reference.{Reference}
use Rattle.sc_region.specs.declared.value.Value.{Value}
use Rattle.sc_region.specs.Frames.{PlainActivation, PlainFrame, top_activation}
use Rattle.sc_region.specs.Stores.{PlainStore, failed, made_for}
use Rattle.sc_acts.specs.Creating.{created_at, created_by, has_room_in, made_if, with_reference, without_last}
use Rattle.sc_region.specs.Calls.{in_call, last_values, on_top, past, top_frame}
use Rattle.sc_acts.specs.Entering.{Calls, Has, has_operands, routine_in}
use Rattle.sc_acts.specs.Tables.{version_in}
use Rattle.sc_acts.proofs.Options.{none_some, some_same}

room_by : (a b : PlainActivation) (n : ℕ) → length a.operands.values < a.operands.depth → Some a ≡ Some b → length b.operands.values < b.operands.depth
room_by a b n l e = subst (λ (q : PlainActivation). length q.operands.values < q.operands.depth) (some_same a b e) l

past_room_in : (n : ℕ) (fs : List PlainFrame) (b : PlainActivation) → has_room_in n (top_activation fs) ≡ true → top_activation (top_frame (past n) fs) ≡ Some b →
    length b.operands.values < b.operands.depth
past_room_in n [] b h e = none_some b e
past_room_in n (f ∷ below) b h e = room_by (past n f.activation) b n (ltb-true _ _ h) e

pub past_room : (n : ℕ) (x y : PlainStore) → has_room_in n (top_activation x.frames) ≡ true → y ≡ on_top (past n) x → (b : PlainActivation) → top_activation y.frames ≡ Some b →
    length b.operands.values < b.operands.depth
past_room n x y h e b tb = past_room_in n x.frames b h (ap (λ (z : PlainStore). top_activation z.frames) (sym e) ∙ tb)

call_room_in : (n : ℕ) (gives : Bool) (fs : List PlainFrame) (b : PlainActivation) → has_room_in n (top_activation fs) ≡ true → top_activation (top_frame (in_call n gives) fs) ≡ Some b →
    length b.operands.values < b.operands.depth
call_room_in n gives [] b h e = none_some b e
call_room_in n gives (f ∷ below) b h e = room_by (in_call n gives f.activation) b n (ltb-true _ _ h) e

pub call_room : (n : ℕ) (gives : Bool) (x y : PlainStore) → has_room_in n (top_activation x.frames) ≡ true → y ≡ on_top (in_call n gives) x → (b : PlainActivation) →
    top_activation y.frames ≡ Some b → length b.operands.values < b.operands.depth
call_room n gives x y h e b tb = call_room_in n gives x.frames b h (ap (λ (z : PlainStore). top_activation z.frames) (sym e) ∙ tb)

dropped_frames : (n : ℕ) (gives : Bool) (r : Reference) (fs : List PlainFrame) → top_frame without_last (top_frame (with_reference r) (top_frame (in_call n gives) fs)) ≡ top_frame (in_call n gives) fs
dropped_frames n gives r [] = refl
dropped_frames n gives r (f ∷ below) = refl

-- without the reference the caller stands as in a call
pub dropped : (n : ℕ) (gives : Bool) (r : Reference) (x y z u : PlainStore) → y ≡ on_top (in_call n gives) x → z ≡ on_top (with_reference r) y → u ≡ on_top without_last z →
    u ≡ on_top (in_call n gives) x
dropped n gives r x y z u e k l =
    l ∙ ap (on_top without_last) (k ∙ ap (on_top (with_reference r)) e) ∙ ap (λ fs. record x { frames = fs }) (dropped_frames n gives r x.frames)

created_with : (r : Reference) (name n : ℕ) (x : PlainStore) (routine : ℕ) (us : List Value) (place : ℕ) (s : Stage) (o : Option PlainActivation) → Calls n us place s o → Has n o →
    has_room_in n o ≡ true → routine_in (version_in x.program r.class name) ≡ Some routine →
    made_for r.handler r.class routine us (on_top (with_reference r) (on_top (in_call n false) x)) ≡ created_at r name n o x
created_with r name n x routine us place s None calls has room is = absurd calls
created_with r name n x routine us place s (Some a) calls has room is =
    ap (λ ws. made_for r.handler r.class routine ws (on_top (with_reference r) (on_top (in_call n false) x))) calls.last
    ∙ ap (λ k. made_if k r (last_values n a.operands.values) (on_top (with_reference r) (on_top (in_call n false) x))) (sym is)
    ∙ ap (λ b. if b then made_if (routine_in (version_in x.program r.class name)) r (last_values n a.operands.values) (on_top (with_reference r) (on_top (in_call n false) x))
    else failed cause.BadCode x) (sym (ap (λ b. b && has_operands n a) room ∙ has))

pub created_is : (r : Reference) (name n : ℕ) (x y : PlainStore) (routine : ℕ) (us : List Value) (place : ℕ) (s : Stage) → y ≡ x → Calls n us place s (top_activation x.frames) →
    Has n (top_activation x.frames) → has_room_in n (top_activation x.frames) ≡ true → routine_in (version_in x.program r.class name) ≡ Some routine →
    made_for r.handler r.class routine us (on_top (with_reference r) (on_top (in_call n false) y)) ≡ created_by r name n x
created_is r name n x y routine us place s same calls has room is =
    ap (λ (z : PlainStore). made_for r.handler r.class routine us (on_top (with_reference r) (on_top (in_call n false) z))) same
    ∙ created_with r name n x routine us place s (top_activation x.frames) calls has room is
