-- What a request leaves of a store as it is taken: an attribute is answered alike, and objects stay whole.
use Rattle.std.proofs.Common.{◌≡◌, ◌≤◌, ◌⊎◌, inl, inr, ℕ, zero, suc, ◌-◌, Bool, true, false, List, [], ◌∷◌, ◌++◌, Option, Some, None, length, refl, sym, ap, ◌∙◌, subst, arith}
use Rattle.std.specs.Prelude.{◌==◌, ◌&&◌, nat_lt, slice_get, if◌then◌else◌}
use Rattle.std.specs.Option.{option_map}
use Rattle.sc_tree.specs.Plain.{System}
use Rattle.sc_rules.specs.declared.entity_types.entity_type.EntityType.{EntityType}
use Rattle.sc_model.specs.declared.cause.Cause.{Cause}
use Rattle.sc_model.specs.declared.cause.Cause.TheVariants as cause
use Rattle.sc_model.specs.Environments.{Binding}
use Rattle.sc_model.specs.Exits.{is_unset_value}
use Rattle.sc_model.specs.Values as values
use Rattle.sc_code.specs.declared.program.AttributeCode.{AttributeCode}
use Rattle.sc_code.specs.declared.program.RoutineCode.{RoutineCode}
use Rattle.sc_region.specs.declared.frame.Origin as code_origin
use Rattle.sc_region.specs.declared.job.Want.TheVariants as want
use Rattle.sc_region.specs.declared.value.Reference.{Reference}
use Rattle.sc_region.specs.declared.value.Value.{Value}
use Rattle.sc_region.specs.Classes as at
use Rattle.sc_region.specs.Classes.{class_at, defaults_of, routine_at}
use Rattle.sc_region.specs.Frames as frames
use Rattle.sc_region.specs.Objects.{PlainObject, object_numbered}
use Rattle.sc_region.specs.Stores as store
use Rattle.sc_region.specs.Stores.{PlainStore, entered, entered_at, is_settled, settled, with_new}
use Rattle.sc_request.specs.Asked as asked
use Rattle.sc_acts.specs.Exiting.{is_void}
use Rattle.sc_refines_world.specs.regions.RegionHalves.{IsRegionOf}
use Rattle.sc_refines_world.specs.regions.RegionTurns.{Half, replies}
use Rattle.sc_acts.specs.Turning.{unless_failed}
use Rattle.sc_interp.specs.Values.{value_of}
use Rattle.sc_acts.proofs.Options.{none_some, some_same}
use Rattle.sc_refines_world.proofs.regions.RegionSame.{still_fails}
use Rattle.sc_play.specs.Taking.{answered, asks_answering}
use Rattle.sc_refines_world.specs.regions.Acting.{AreWhole}
use Rattle.sc_refines_world.proofs.regions.Exits.{if_region, value_unset}
use Rattle.sc_refines_world.proofs.regions.TurnWants.{value_back}

-- ---- attributes

both_ways : (a b : Bool) → (a && b) ≡ (b && a)
both_ways true true = refl
both_ways true false = refl
both_ways false true = refl
both_ways false false = refl

module _ (s : System) (x : Half) (y : PlainStore) (region : IsRegionOf s x y) (a : AttributeCode) (t : EntityType) (coded : a.is_attached ≡ t.attached) where
  unset_same : (v : Value) (w : values.Value) → value_of v ≡ w → (a.is_attached && is_void (Some v)) ≡ is_unset_value w t
  unset_same v w e = ap (λ b. b && is_void (Some v)) coded ∙ both_ways t.attached (is_void (Some v)) ∙ value_unset v t ∙ ap (λ w. is_unset_value w t) e

  pub answered_same : (v : Option Value) (b : Option Binding) → option_map value_of v ≡ option_map (λ (b : Binding). b.value) b → IsRegionOf s (replies (Some t) b x) (answered (Some a) v y)
  answered_same None None e = still_fails s x y cause.BadCode region
  answered_same None (Some b) e = none_some b.value e
  answered_same (Some v) None e = none_some (value_of v) (sym e)
  answered_same (Some v) (Some b) e =
      if_region s _ _ _ _ _ _ (unset_same v b.value (some_same (value_of v) b.value e)) (still_fails s x y cause.UnsetEntity region) region

  pub answer_asks : (v : Option Value) (b : Option Binding) → option_map value_of v ≡ option_map (λ (b : Binding). b.value) b →
      unless_failed (answered (Some a) v y).failure (asked.asks_replying (Some t) b) ≡ unless_failed (answered (Some a) v y).failure (asks_answering v)
  answer_asks None None e = refl
  answer_asks None (Some b) e = none_some b.value e
  answer_asks (Some v) None e = none_some (value_of v) (sym e)
  answer_asks (Some v) (Some b) e = by _ _ (unset_same v b.value (some_same (value_of v) b.value e))
    where
      by : (c d : Bool) → c ≡ d →
          unless_failed (if c then store.failed cause.UnsetEntity y else y).failure (if d then want.Fail cause.UnsetEntity else asked.asks_done (Some b.value) [] false)
          ≡ unless_failed (if c then store.failed cause.UnsetEntity y else y).failure (asks_answering (Some v))
      by true true e = refl
      by true false e = cc
      by false true e = cc
      by false false h = ap (λ w. unless_failed y.failure (want.Done (Some w) (record { items = [] }) false)) (ap asked.value_of (sym (some_same (value_of v) b.value e)) ∙ value_back v)

-- ---- stores

kept : {A : Type 0} (f : PlainStore → A) (b : Bool) (p q : PlainStore) (a : A) → f p ≡ a → f q ≡ a → f (if b then p else q) ≡ a
kept f true p q a d e = d
kept f false p q a d e = e

pub settled_objects : (n : ℕ) (y : PlainStore) → (settled n y).objects ≡ y.objects
settled_objects n y = kept (λ z. z.objects) (is_settled n y && at.object_breaks y.program (object_numbered n y.objects)) (store.failed cause.Invariant y) y y.objects refl refl

pub settled_output : (n : ℕ) (y : PlainStore) → (settled n y).output ≡ y.output
settled_output n y = kept (λ z. z.output) (is_settled n y && at.object_breaks y.program (object_numbered n y.objects)) (store.failed cause.Invariant y) y y.output refl refl

settled_program : (n : ℕ) (y : PlainStore) → (settled n y).program ≡ y.program
settled_program n y = kept (λ z. z.program) (is_settled n y && at.object_breaks y.program (object_numbered n y.objects)) (store.failed cause.Invariant y) y y.program refl refl

module _ {A : Type 0} (f : PlainStore → A) (failed : (why : Cause) (y : PlainStore) → f (store.failed why y) ≡ f y)
    (on : (y : PlainStore) (fs : List frames.PlainFrame) → f (record y { frames = fs }) ≡ f y) where
  -- An entry leaves what frames and failures leave.
  pub entered_keeps : (r : Reference) (n : ℕ) (o : code_origin.Origin) (us : List Value) (y : PlainStore) → f (entered r n o us y) ≡ f y
  entered_keeps r n o us y = by (routine_at y.program n)
    where
      by : (q : Option RoutineCode) → f (entered_at (length y.frames) r n q o us y) ≡ f y
      by None = failed cause.BadCode y
      by (Some q) =
          kept f (length us == q.formals) _ _ (f y)
          (kept f (nat_lt (length y.frames) store.max_frames) _ _ (f y) (on y (store.entry r n q o us ∷ y.frames)) (failed cause.StackFull y)) (failed cause.BadCode y)

pub whole_same : (y z : PlainStore) → z.objects ≡ y.objects → z.program ≡ y.program → AreWhole y → AreWhole z
whole_same y z objects program whole number o e =
    subst (λ p. length (defaults_of (class_at p o.class)) ≤ length o.attributes) (sym program) (whole number o (ap (object_numbered number) (sym objects) ∙ e))

-- what stands in a longer list
get_more : (os : List PlainObject) (p o : PlainObject) (k : ℕ) → slice_get (os ++ p ∷ []) k ≡ Some o → (slice_get os k ≡ Some o) ⊎ (p ≡ o)
get_more [] p o k e = by k e
  where
    by : (k : ℕ) → slice_get (p ∷ []) k ≡ Some o → (slice_get [] k ≡ Some o) ⊎ (p ≡ o)
    by zero e = inr (some_same p o e)
    by (suc k) e = inl e
get_more (q ∷ os) p o zero e = inl e
get_more (q ∷ os) p o (suc k) e = get_more os p o k e

pub whole_more : (class : ℕ) (y : PlainStore) → AreWhole y → AreWhole (with_new class y)
whole_more class y whole number o e = by (number == 0) refl e
  where
    there : (number == 0) ≡ false → (slice_get y.objects (number - 1) ≡ Some o) ⊎ (at.fresh_object y.program class ≡ o) → length (defaults_of (class_at y.program o.class)) ≤ length o.attributes
    there some (inl e) = whole number o (ap (λ b. if b then None else slice_get y.objects (number - 1)) some ∙ e)
    there some (inr e) = subst (λ (q : PlainObject). length (defaults_of (class_at y.program q.class)) ≤ length q.attributes) e (omega arith)

    by : (b : Bool) → (number == 0) ≡ b → (if b then None else slice_get (y.objects ++ at.fresh_object y.program class ∷ []) (number - 1)) ≡ Some o →
        length (defaults_of (class_at y.program o.class)) ≤ length o.attributes
    by true some e = none_some o e
    by false some e = there some (get_more y.objects (at.fresh_object y.program class) o (number - 1) e)
