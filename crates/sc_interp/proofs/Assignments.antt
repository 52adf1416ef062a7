-- An attribute of Current gets the last operand.
use Rattle.std.proofs.Common.{◌≡◌, ℕ, List, [], ◌∷◌, Option, Some, None, drop, refl, sym, ap, ◌∙◌}
use Rattle.std.specs.Prelude.{slice_get}
use Rattle.std.specs.Option.{option_map}
use Rattle.sc_code.specs.declared.operation.Operation.TheVariants as coded
use Rattle.sc_code.specs.Machine.{hop_of, hop_popped, goes_on}
use Rattle.sc_code.specs.Operations as plain
use Rattle.sc_code.specs.Programs.{pool_of}
use Rattle.sc_region.specs.declared.frame.Activation.{Activation}
use Rattle.sc_region.specs.declared.value.Reference as reference
use Rattle.sc_region.specs.declared.value.Value as code
use Rattle.sc_region.specs.Frames.{PlainActivation, PlainFrame, activation_of, top_current, top_activation}
use Rattle.sc_region.specs.Lending.{with_top}
use Rattle.sc_region.specs.Objects.{object_numbered, with_attribute}
use Rattle.sc_region.specs.Stores.{PlainStore, written_to}
use Rattle.sc_interp.specs.declared.hops.Hop as outcome
use Rattle.sc_interp.specs.Objects.{objects_in}
use Rattle.sc_interp.specs.Playing.{Plays, Remains, written_if}
use Rattle.sc_interp.specs.Standing.{state_of, hopped, Passes, Stays}
use Rattle.sc_interp.specs.Values.{values_of, reference_of}
use Rattle.sc_acts.proofs.Options.{some_same, none_some}
use Rattle.sc_interp.proofs.TopRoutines.{top_with, current_with, plays_at, remains_top}
use Rattle.sc_interp.proofs.Operands.{values_drop}
use Rattle.sc_interp.proofs.Shapes.{shapes_written}
use Rattle.sc_interp.proofs.Valued.{number_in, objects_with, attribute_written}

-- ---- what a write leaves

frames_written_to : (fs : List PlainFrame) (n : ℕ) (v : code.Value) (z : PlainStore) → (written_to fs n v z).frames ≡ z.frames
frames_written_to [] n v z = refl
frames_written_to (f ∷ below) n v z = refl

frames_written : (m : Option ℕ) (v : code.Value) (z : PlainStore) → (written_if m v z).frames ≡ z.frames
frames_written None v z = refl
frames_written (Some n) v z = frames_written_to z.frames n v z

objects_written_to : (fs : List PlainFrame) (n : ℕ) (v : code.Value) (z : PlainStore) (me : reference.Reference) → top_current fs ≡ Some me →
    (written_to fs n v z).objects ≡ with_attribute me.number n v z.objects
objects_written_to [] n v z me e = none_some me e
objects_written_to (f ∷ below) n v z me e = ap (λ (r : reference.Reference). with_attribute r.number n v z.objects) (some_same f.current me e)

objects_written : (m : Option ℕ) (v : code.Value) (z : PlainStore) (me : reference.Reference) → top_current z.frames ≡ Some me → (written_if m v z).objects ≡ objects_with me.number m v z.objects
objects_written None v z me e = refl
objects_written (Some n) v z me e = objects_written_to z.frames n v z me e

remains_written_to : (x : PlainStore) (fs : List PlainFrame) (n : ℕ) (v : code.Value) (z : PlainStore) → Remains x z → Remains x (written_to fs n v z)
remains_written_to x [] n v z k = k
remains_written_to x (f ∷ below) n v z k = record {
  program = k.program;
  output = k.output;
  failure = k.failure;
  current = k.current;
  below = k.below;
  stays = k.stays;
  shapes = shapes_written f.current.number n v z.objects ∙ k.shapes;
}

remains_written_if : (x : PlainStore) (m : Option ℕ) (v : code.Value) (z : PlainStore) → Remains x z → Remains x (written_if m v z)
remains_written_if x None v z k = k
remains_written_if x (Some n) v z k = remains_written_to x z.frames n v z k

pub remains_written : (x : PlainStore) (m : Option ℕ) (v : code.Value) (w : Activation) (a : PlainActivation) → top_activation x.frames ≡ Some a → Stays a (activation_of w) →
    Remains x (written_if m v (with_top x w))
remains_written x m v w a ta k = remains_written_if x m v (with_top x w) (remains_top x (with_top x w) w a ta refl k)

-- ---- the assignment

pub first_of : (vs : List code.Value) (v : code.Value) → slice_get vs 0 ≡ Some v → vs ≡ v ∷ drop 1 vs
first_of [] v e = none_some v e
first_of (u ∷ us) v e = ap (λ w. w ∷ us) (some_same u v e)

pub assigns : (me : reference.Reference) (count k : ℕ) (name : List ℕ) (h : outcome.Hop) (x : PlainStore) (w : Activation) (a : PlainActivation) (v : code.Value) →
    slice_get (pool_of x.program.pool).names k ≡ Some name → top_activation x.frames ≡ Some a → slice_get a.operands.values 0 ≡ Some v →
    Passes count (λ c f. goes_on c (record f { values = drop 1 f.values })) h a (activation_of w) →
    Plays me count (coded.StoreAttribute k) h x (written_if (number_in x k (object_numbered me.number x.objects)) v (with_top x w))
assigns me count k name h x w a v named ta last next =
    let m = number_in x k (object_numbered me.number x.objects) in
    let y = written_if m v (with_top x w) in
    plays_at me count (coded.StoreAttribute k) h x y a (activation_of w) ta
    (ap top_activation (frames_written m v (with_top x w)) ∙ top_with w x.frames a ta)
    (λ s c serves fits tc.
    let r = reference_of me in
    let f = state_of (objects_in s x.objects) a in
    let vs = a.operands.values in
    let os = objects_in s (objects_with me.number m v x.objects) in
    ap (λ q. hop_of s c r (option_map plain.StoreAttribute q) f) named
    ∙ ap (λ us. hop_popped s c r (plain.StoreAttribute name) (values_of us) (record f { values = values_of us })) (first_of vs v last)
    ∙ ap (λ o. goes_on c (record f { objects = o; values = values_of (drop 1 vs) })) (sym (attribute_written x s me.number k name v serves named))
    ∙ ap (λ us. goes_on c (record f { objects = os; values = us })) (values_drop 1 vs)
    ∙ next x.program s r c os fits
    ∙ ap (λ o. hopped x.program s c r h (state_of (objects_in s o) (activation_of w))) (sym (objects_written m v (with_top x w) me (current_with w x.frames ∙ tc))))
