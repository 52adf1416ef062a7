-- The objects of a store, as objects of a system.
use Rattle.std.specs.Prelude.{ℕ, List, [], ◌∷◌, map, length}
use Rattle.sc_tree.specs.Plain.{System}
use Rattle.sc_class.specs.Tables.Features.{features}
use Rattle.sc_model.specs.Values.{Value}
use Rattle.sc_model.specs.Environments.{Binding}
use Rattle.sc_model.specs.Objects.{Object, fresh_attributes}
use Rattle.sc_region.specs.Objects.{PlainObject}
use Rattle.sc_interp.specs.Values.{values_of}

-- the attributes with these values, one by one
abbrev pub valued : List Binding → List Value → List Binding
valued [] vs = []
valued (b ∷ bs) [] = []
valued (b ∷ bs) (v ∷ vs) = record b { value = v } ∷ valued bs vs

-- An object of a store has the attributes of its class, in the order of the features.
abbrev pub object_in : System → PlainObject → Object
object_in s o =
    record { class = o.class; attributes = valued (fresh_attributes s (features s o.class)) (values_of o.attributes) }

abbrev pub objects_in : System → List PlainObject → List Object
objects_in s os = map (object_in s) os

-- the object's class, and the number of its attributes
abbrev pub shape_of : PlainObject → ℕ × ℕ
shape_of o = (o.class, length o.attributes)
