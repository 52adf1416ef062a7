-- Conformance of classes, and of types as they are declared (ECMA-367, 8.14).
use Rattle.std.specs.Prelude.{ℕ, Bool, true, false, List, ◌&&◌, ◌||◌, not, ◌==◌, Option, Some, None, bytes_eq, if◌then◌else◌}
use Rattle.std.specs.List.{list_any}
use Rattle.sc_tree.specs.Plain.{System, DeclaredType, HandlerTag, Own, Separate, HandlerOf}
use Rattle.sc_class.specs.declared.identity.ClassId.{ClassId}
use Rattle.sc_class.specs.declared.identity.ClassId.TheVariants as class
use Rattle.sc_class.specs.ClassNames.{is_none, class_named}
use Rattle.sc_class.specs.Tables.Ancestors.{ancestors}

-- the classes whose values aren't references
abbrev pub is_expanded : ClassId → Bool
is_expanded class.Integer = true
is_expanded class.Boolean = true
is_expanded class.Any = false
is_expanded class.None = false
is_expanded (class.Declared k) = false

-- one of the class's ancestors is at this number
abbrev pub is_ancestor : System → ℕ → ℕ → Bool
is_ancestor s k j = list_any (λ i. i == j) (ancestors s k)

-- Each class conforms to its ancestors, each class of references to ANY, and NONE to each of these. INTEGER and
-- BOOLEAN conform to themselves alone.
abbrev pub class_conforms : System → ClassId → ClassId → Bool
class_conforms s (class.Declared k) (class.Declared j) = is_ancestor s k j
class_conforms s (class.Declared k) class.Any = true
class_conforms s (class.Declared k) _ = false
class_conforms s class.Any class.Any = true
class_conforms s class.Any _ = false
class_conforms s class.None b = not (is_expanded b)
class_conforms s class.Integer class.Integer = true
class_conforms s class.Integer _ = false
class_conforms s class.Boolean class.Boolean = true
class_conforms s class.Boolean _ = false

-- the class of a type that is declared with this name; NONE is no such class
abbrev pub type_class : System → List ℕ → Option ClassId
type_class s x = if is_none x then None else class_named s x

abbrev pub is_same_tag : HandlerTag → HandlerTag → Bool
is_same_tag Own Own = true
is_same_tag Own _ = false
is_same_tag Separate Separate = true
is_same_tag Separate _ = false
is_same_tag (HandlerOf x) (HandlerOf y) = bytes_eq x.text y.text
is_same_tag (HandlerOf x) _ = false

-- a tag conforms to `separate`, and to an equal one
abbrev pub tag_conforms : HandlerTag → HandlerTag → Bool
tag_conforms t Separate = true
tag_conforms t Own = is_same_tag t Own
tag_conforms t (HandlerOf y) = is_same_tag t (HandlerOf y)

abbrev pub is_same_mark : Bool → Bool → Bool
is_same_mark true b = b
is_same_mark false b = not b

abbrev pub is_same_type : DeclaredType → DeclaredType → Bool
is_same_type t u =
    bytes_eq t.class.text u.class.text && is_same_mark t.is_detachable u.is_detachable && is_same_tag t.tag u.tag

abbrev pub known_conforms : System → Option ClassId → Option ClassId → Bool
known_conforms s (Some a) (Some b) = class_conforms s a b
known_conforms s (Some a) None = false
known_conforms s None b = false

-- A type conforms to an equal one; else its class does, it is attached where the other is, and its tag conforms.
abbrev pub type_conforms : System → DeclaredType → DeclaredType → Bool
type_conforms s t u =
    is_same_type t u || (known_conforms s (type_class s t.class.text) (type_class s u.class.text)
    && (not t.is_detachable || u.is_detachable) && tag_conforms t.tag u.tag)
