-- Fresh objects: each attribute has its default.
use Rattle.std.specs.List.{cons_option}
use Rattle.std.specs.Option.{option_map}
use Rattle.std.specs.Prelude.{◌==◌, if◌then◌else◌, length, slice_get}
use Rattle.std.proofs.Common.{◌+◌, ◌++◌, ◌-◌, ◌<◌, Bool, List, None, Option, Some, [], ap, arith, false, inl, inr, refl, true, ℕ, ◌∙◌, ◌∷◌, ◌≡◌}
use Rattle.std.proofs.lemmas.Bool.{eqb-true}
use Rattle.sc_tree.specs.Plain as tree
use Rattle.sc_tree.specs.Plain.{FeatureKind, System}
use Rattle.sc_class.specs.Tables.Conformance.{class_conforms, is_expanded}
use Rattle.sc_class.specs.Tables.Features.{DeclaredFeature, features}
use Rattle.sc_class.specs.declared.identity.ClassId.{ClassId}
use Rattle.sc_class.specs.declared.identity.ClassId.TheVariants as class
use Rattle.sc_rules.specs.declared.entity_types.entity_type.EntityType.{EntityType}
use Rattle.sc_rules.specs.Types.{declared_type}
use Rattle.sc_rules.specs.declared.position.Role.TheVariants as role
use Rattle.sc_model.specs.Environments.{Binding, bind}
use Rattle.sc_model.specs.Fits.{FitsOrUnset}
use Rattle.sc_model.specs.Objects.{Object, fresh_attribute, fresh_attributes, fresh_object, object_numbered}
use Rattle.sc_model.specs.Values.{Reference, default_of}
use Rattle.sc_machine_laws.specs.states.Places.{no_names}
use Rattle.sc_machine_laws.specs.states.Points.{AttributesFit, Each, IsAmong, StoreFits}
use Rattle.sc_machine_laws.proofs.states.Lists.{each_append, last_is, some_append}

-- what an entity of the type has by default fits it or is unset
pub default_fits : (s : System) (me : ℕ) (t : EntityType) → FitsOrUnset s me no_names (default_of t.class) t
default_fits s me t = by t.class refl
  where
    by : (c : ClassId) → t.class ≡ c → FitsOrUnset s me no_names (default_of c) t
    by class.Integer e = inl (ap (class_conforms s class.Integer) e)
    by class.Boolean e = inl (ap (class_conforms s class.Boolean) e)
    by class.Any e = inr (refl, ap is_expanded e)
    by class.None e = inr (refl, ap is_expanded e)
    by (class.Declared k) e = inr (refl, ap is_expanded e)

fresh_fit : (s : System) (me : ℕ) (fs : List DeclaredFeature) → Each (λ (b : Binding). FitsOrUnset s me no_names b.value b.type) (fresh_attributes s fs)
fresh_fit s me [] = tt
fresh_fit s me (f ∷ fs) = by f.feature.name.text f.feature.kind (fresh_fit s me fs)
  where
    of_type : (y : List ℕ) (o : Option EntityType) (bs : List Binding) → Each (λ (b : Binding). FitsOrUnset s me no_names b.value b.type) bs →
        Each (λ (b : Binding). FitsOrUnset s me no_names b.value b.type) (cons_option (option_map (λ (t : EntityType). bind y t role.Local (default_of t.class)) o) bs)
    of_type y None bs e = e
    of_type y (Some t) bs e = (default_fits s me t, e)

    by : (y : List ℕ) (k : FeatureKind) → Each (λ (b : Binding). FitsOrUnset s me no_names b.value b.type) (fresh_attributes s fs) →
        Each (λ (b : Binding). FitsOrUnset s me no_names b.value b.type) (cons_option (fresh_attribute s y k) (fresh_attributes s fs))
    by y (tree.Attribute d) e = of_type y (declared_type s [] d) (fresh_attributes s fs) e
    by y (tree.Routine c) e = e

pub fresh_fits : (s : System) (me k : ℕ) → k < length s.classes → AttributesFit s me (fresh_object s k)
fresh_fits s me k l = record { is_of_class = l; has_attributes = refl; fit = fresh_fit s me (features s k) }

-- what stands at a number stands there where there is one more
pub among_more : (objects : List Object) (o : Object) (r : Reference) → IsAmong objects r → IsAmong (objects ++ o ∷ []) r
among_more objects o r z = record { object = z.object; is_there = there (r.number == 0) z.is_there; of_class = z.of_class }
  where
    there : (b : Bool) → (if b then None else slice_get objects (r.number - 1)) ≡ Some z.object → (if b then None else slice_get (objects ++ o ∷ []) (r.number - 1)) ≡ Some z.object
    there true e = cc
    there false e = some_append objects (o ∷ []) (r.number - 1) z.object e

-- one more object that fits
pub store_more : (s : System) (me : Reference) (objects : List Object) (o : Object) → AttributesFit s me.handler o → StoreFits s me objects → StoreFits s me (objects ++ o ∷ [])
store_more s me objects o f store = record {
  fit = each_append (AttributesFit s me.handler) objects (o ∷ []) store.fit (f, tt);
  current = among_more objects o me store.current;
}

-- the last object has the number of all
pub last_there : (objects : List Object) (o : Object) → object_numbered (length objects + 1) (objects ++ o ∷ []) ≡ Some o
last_there objects o = ap (λ b. if b then None else slice_get (objects ++ o ∷ []) (length objects + 1 - 1)) (not_zero (length objects + 1 == 0) refl)
    ∙ ap (slice_get (objects ++ o ∷ [])) last ∙ last_is objects o
  where
    last : length objects + 1 - 1 ≡ length objects
    last = omega arith

    not_zero : (b : Bool) → (length objects + 1 == 0) ≡ b → (length objects + 1 == 0) ≡ false
    not_zero true e = let q : length objects + 1 ≡ 0 = eqb-true (length objects + 1) 0 e in absurd (omega (arith, q))
    not_zero false e = e
