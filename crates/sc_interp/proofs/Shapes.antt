-- Objects of which attributes change keep their classes, and as many attributes.
use Rattle.std.proofs.Common.{◌≡◌, ℕ, zero, suc, List, [], ◌∷◌, Option, Some, None, map, length, refl, sym, ap, ◌∙◌}
use Rattle.std.specs.Prelude.{slice_get, slice_set}
use Rattle.sc_region.specs.declared.value.Value.{Value}
use Rattle.sc_region.specs.Lending.{with_object_there}
use Rattle.sc_region.specs.Objects.{PlainObject, object_numbered, with_attribute, with_object, with_slot}
use Rattle.sc_region.proofs.Numbered.{numbered_suc, with_suc}
use Rattle.sc_region.proofs.Placed.{there_suc}
use Rattle.sc_interp.specs.Objects.{shape_of}
use Rattle.sc_acts.proofs.Options.{none_some, some_same}

set_many : (vs : List Value) (k : ℕ) (v : Value) → length (slice_set vs k v) ≡ length vs
set_many [] k v = refl
set_many (u ∷ us) zero v = refl
set_many (u ∷ us) (suc k) v = ap suc (set_many us k v)

shapes_set : (os : List PlainObject) (i : ℕ) (o p : PlainObject) → slice_get os i ≡ Some p → shape_of o ≡ shape_of p → map shape_of (slice_set os i o) ≡ map shape_of os
shapes_set [] i o p e same = refl
shapes_set (q ∷ os) zero o p e same = ap (λ t. t ∷ map shape_of os) (same ∙ ap shape_of (sym (some_same q p e)))
shapes_set (q ∷ os) (suc i) o p e same = ap (λ l. shape_of q ∷ l) (shapes_set os i o p e same)

-- another object of the same shape in its place
pub shapes_there : (number : ℕ) (o p : PlainObject) (os : List PlainObject) → object_numbered number os ≡ Some p → shape_of o ≡ shape_of p →
    map shape_of (with_object_there number o os) ≡ map shape_of os
shapes_there zero o p os e same = none_some p e
shapes_there (suc i) o p os e same = ap (map shape_of) (there_suc i o os) ∙ shapes_set os i o p (sym (numbered_suc i os) ∙ e) same

shapes_with : (i m : ℕ) (v : Value) (os : List PlainObject) (o : Option PlainObject) → slice_get os i ≡ o → map shape_of (with_object i m v os o) ≡ map shape_of os
shapes_with i m v os None e = refl
shapes_with i m v os (Some o) e = shapes_set os i (with_slot m v o) o e (ap (λ n. (o.class, n)) (set_many o.attributes m v))

-- an attribute gets a value
pub shapes_written : (number m : ℕ) (v : Value) (os : List PlainObject) → map shape_of (with_attribute number m v os) ≡ map shape_of os
shapes_written zero m v os = refl
shapes_written (suc i) m v os = ap (map shape_of) (with_suc i m v os) ∙ shapes_with i m v os (slice_get os i) refl
