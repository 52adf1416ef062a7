-- Objects (ECMA-367, 8.19): the attributes of each, in the order of its class's features.
use Rattle.std.specs.Prelude.{ℕ, ◌-◌, ◌==◌, List, [], Option, Some, None, slice_get, slice_set, if◌then◌else◌}
use Rattle.std.specs.List.{filter_map}
use Rattle.std.specs.Option.{option_map}
use Rattle.sc_tree.specs.Plain.{System, FeatureKind, Attribute, Routine}
use Rattle.sc_class.specs.Tables.Features.{DeclaredFeature, features}
use Rattle.sc_rules.specs.declared.entity_types.entity_type.EntityType.{EntityType}
use Rattle.sc_rules.specs.declared.position.Role.TheVariants as role
use Rattle.sc_rules.specs.Types.{declared_type}
use Rattle.sc_model.specs.Values.{default_of}
use Rattle.sc_model.specs.Environments.{Binding, bind}

-- an object: the number of its class, and its attributes
pub record Object : Type 0 where
  pub class : ℕ
  pub attributes : List Binding

-- an attribute with its default; a routine is none
abbrev pub fresh_attribute : System → List ℕ → FeatureKind → Option Binding
fresh_attribute s x (Attribute d) =
    option_map (λ (t : EntityType). bind x t role.Local (default_of t.class)) (declared_type s [] d)
fresh_attribute s x (Routine c) = None

abbrev pub fresh_attributes : System → List DeclaredFeature → List Binding
fresh_attributes s fs = filter_map (λ (f : DeclaredFeature). fresh_attribute s f.feature.name.text f.feature.kind) fs

-- a new object of the class at the number: each attribute has its default
abbrev pub fresh_object : System → ℕ → Object
fresh_object s k = record { class = k; attributes = fresh_attributes s (features s k) }

-- the object of the number, from 1
abbrev pub object_numbered : ℕ → List Object → Option Object
object_numbered number objects = if number == 0 then None else slice_get objects (number - 1)

abbrev pub attributes_in : Option Object → List Binding
attributes_in None = []
attributes_in (Some object) = object.attributes

-- the attributes of the object of the number; none, if there is no object
abbrev pub attributes_of : ℕ → List Object → List Binding
attributes_of number objects = attributes_in (object_numbered number objects)

abbrev pub with_object : ℕ → List Binding → List Object → Option Object → List Object
with_object place attributes objects None = objects
with_object place attributes objects (Some object) = slice_set objects place (record object { attributes = attributes })

-- the objects, with these attributes of the one of the number
abbrev pub with_attributes : ℕ → List Binding → List Object → List Object
with_attributes number attributes objects = with_object (number - 1) attributes objects (object_numbered number objects)
