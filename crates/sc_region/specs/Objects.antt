-- Objects (ECMA-367, 8.19): the attributes of each by number.
use Rattle.std.specs.Prelude.{ℕ, ◌-◌, ◌==◌, List, Option, Some, None, slice_get, slice_set, if◌then◌else◌}
use Rattle.std.specs.Option.{option_and_then}
use Rattle.sc_region.specs.declared.value.Value.{Value}
use Rattle.sc_region.specs.declared.object.Object as code

-- an object: the number of its class, and its attributes
pub record PlainObject : Type 0 where
  pub class : ℕ
  pub attributes : List Value

abbrev pub object_of : code.Object → PlainObject
object_of o = record { class = o.class; attributes = o.attributes.items }

-- the object of the number, from 1
abbrev pub object_numbered : ℕ → List PlainObject → Option PlainObject
object_numbered number objects = if number == 0 then None else slice_get objects (number - 1)

-- the attribute of the object at the numbers
abbrev pub attribute_of : ℕ → ℕ → List PlainObject → Option Value
attribute_of number slot objects =
    option_and_then (λ (o : PlainObject). slice_get o.attributes slot) (object_numbered number objects)

abbrev pub with_slot : ℕ → Value → PlainObject → PlainObject
with_slot slot v o = record o { attributes = slice_set o.attributes slot v }

abbrev pub with_object : ℕ → ℕ → Value → List PlainObject → Option PlainObject → List PlainObject
with_object place slot v objects None = objects
with_object place slot v objects (Some o) = slice_set objects place (with_slot slot v o)

-- the objects, of which the one of the number has the value as that attribute
abbrev pub with_attribute : ℕ → ℕ → Value → List PlainObject → List PlainObject
with_attribute number slot v objects = with_object (number - 1) slot v objects (object_numbered number objects)
