-- What stands for the same values, objects and frames is the same.
use Rattle.std.proofs.Common.{◌≡◌, ◌≤◌, List, [], ◌∷◌, Option, Some, None, map, length, refl, sym, ap, ◌∙◌, arith}
use Rattle.std.specs.Option.{option_map}
use Rattle.sc_tree.specs.Plain.{System}
use Rattle.sc_class.specs.Tables.Features.{features}
use Rattle.sc_model.specs.Values as model
use Rattle.sc_model.specs.Environments.{Binding}
use Rattle.sc_model.specs.Objects.{Object, fresh_attributes}
use Rattle.sc_code.specs.declared.program.Image.{Image}
use Rattle.sc_region.specs.declared.value.Reference.{Reference}
use Rattle.sc_region.specs.declared.value.Value.{Value}
use Rattle.sc_region.specs.declared.value.Value.TheVariants.{Integer, Boolean, Void, Attached}
use Rattle.sc_region.specs.Objects.{PlainObject}
use Rattle.sc_interp.specs.Objects.{object_in, objects_in, valued}
use Rattle.sc_interp.specs.Values.{reference_of, value_of, values_of}
use Rattle.sc_refines_world.specs.regions.RegionSteps.{IsProgramFor}
use Rattle.sc_refines_world.proofs.regions.MetInvariants.{fresh_many}
use Rattle.sc_refines_world.specs.Functional.{AreExact, IsExact}

-- ---- values

abbrev reference_back : model.Reference → Reference
reference_back r = record { handler = r.handler; number = r.number; class = r.class }

pub reference_same : (r q : Reference) → reference_of r ≡ reference_of q → r ≡ q
reference_same r q e = ap reference_back e

abbrev value_back : model.Value → Value
value_back (model.Integer z) = Integer z
value_back (model.Boolean b) = Boolean b
value_back model.Void = Void
value_back (model.Attached r) = Attached (reference_back r)

back_value : (v : Value) → value_back (value_of v) ≡ v
back_value (Integer z) = refl
back_value (Boolean b) = refl
back_value Void = refl
back_value (Attached r) = refl

back_values : (vs : List Value) → map value_back (values_of vs) ≡ vs
back_values [] = refl
back_values (v ∷ vs) = ap (λ u. u ∷ map value_back (values_of vs)) (back_value v) ∙ ap (λ us. v ∷ us) (back_values vs)

pub values_same : (us vs : List Value) → values_of us ≡ values_of vs → us ≡ vs
values_same us vs e = sym (back_values us) ∙ ap (map value_back) e ∙ back_values vs

back_option : (o : Option Value) → option_map value_back (option_map value_of o) ≡ o
back_option None = refl
back_option (Some v) = ap (λ u. Some u) (back_value v)

pub option_same : (o q : Option Value) → option_map value_of o ≡ option_map value_of q → o ≡ q
option_same o q e = sym (back_option o) ∙ ap (option_map value_back) e ∙ back_option q

-- ---- objects

abbrev attributes_back : List Binding → List Value
attributes_back bs = map (λ (b : Binding). value_back b.value) bs

back_attributes : (bs : List Binding) (vs : List Value) → length vs ≤ length bs → attributes_back (valued bs (values_of vs)) ≡ vs
back_attributes [] [] l = refl
back_attributes [] (v ∷ vs) l = absurd (omega (arith, l))
back_attributes (b ∷ bs) [] l = refl
back_attributes (b ∷ bs) (v ∷ vs) l =
    ap (λ u. u ∷ attributes_back (valued bs (values_of vs))) (back_value v) ∙ ap (λ us. v ∷ us) (back_attributes bs vs (omega (arith, l)))

abbrev object_back : Object → PlainObject
object_back o = record { class = o.class; attributes = attributes_back o.attributes }

module _ (s : System) (p : Image) (is : IsProgramFor s p) where
  back_object : (o : PlainObject) → IsExact p o → object_back (object_in s o) ≡ o
  back_object o exact =
      let many = fresh_many s is.root p is.program o.class in
      ap (λ (us : List Value). record o { attributes = us }) (back_attributes (fresh_attributes s (features s o.class)) o.attributes (omega (arith, exact, many)))

  back_objects : (os : List PlainObject) → AreExact p os → map object_back (objects_in s os) ≡ os
  back_objects [] exact = refl
  back_objects (o ∷ os) exact = ap (λ q. q ∷ map object_back (objects_in s os)) (back_object o exact.0) ∙ ap (λ qs. o ∷ qs) (back_objects os exact.1)

  pub objects_same : (os qs : List PlainObject) → AreExact p os → AreExact p qs → objects_in s os ≡ objects_in s qs → os ≡ qs
  objects_same os qs exact too e = sym (back_objects os exact) ∙ ap (map object_back) e ∙ back_objects qs too
