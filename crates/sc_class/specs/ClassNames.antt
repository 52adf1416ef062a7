-- Classes by name and by number (ECMA-367, 8.3). Names are in lower case, so equal texts are one name.
use Rattle.std.specs.Prelude.{◌≡◌, ℕ, Bool, true, List, [], ◌∷◌, ◌++◌, ◌||◌, Option, Some, None, codes, bytes_eq, map, slice_get, if◌then◌else◌}
use Rattle.std.specs.Option.{option_map}
use Rattle.sc_text.specs.declared.token.Span.{Span}
use Rattle.sc_tree.specs.Plain.{System, Class, Name}
use Rattle.sc_class.specs.Names.{is_listed, number_among}
use Rattle.sc_class.specs.declared.identity.ClassId.{ClassId}
use Rattle.sc_class.specs.declared.identity.ClassId.TheVariants as class

-- what a system is run from: a class, and the procedure that makes its first object
pub record Root : Type 0 where
  pub class : List ℕ
  pub procedure : List ℕ

abbrev pub is_any : List ℕ → Bool
is_any x = bytes_eq x (codes "any")

abbrev pub is_none : List ℕ → Bool
is_none x = bytes_eq x (codes "none")

abbrev pub is_integer : List ℕ → Bool
is_integer x = bytes_eq x (codes "integer")

abbrev pub is_boolean : List ℕ → Bool
is_boolean x = bytes_eq x (codes "boolean")

-- the names of the classes that every system has
abbrev pub is_built_in : List ℕ → Bool
is_built_in x = is_any x || is_none x || is_integer x || is_boolean x

abbrev pub class_names : List Class → List Name
class_names = map (λ c. c.name)

-- the number that a name has among those of the declared classes; that of a class that every system has has none
abbrev pub number_in : List Name → List ℕ → Option ℕ
number_in names x = if is_built_in x then None else number_among x names

-- the number of the class that is declared with this name: how many come before it in the text
abbrev pub number_of : System → List ℕ → Option ℕ
number_of s x = number_in (class_names s.classes) x

-- the class of a name: one that every system has, or the one that is declared with it
abbrev pub class_named : System → List ℕ → Option ClassId
class_named s x =
    if is_any x then Some class.Any
    else (if is_none x then Some class.None
    else (if is_integer x then Some class.Integer
    else (if is_boolean x then Some class.Boolean
    else option_map (λ k. class.Declared k) (number_among x (class_names s.classes)))))

-- the name of a class in the text, if there is such a class
abbrev pub name_of_class : System → ClassId → Option (List ℕ)
name_of_class s class.Any = Some (codes "any")
name_of_class s class.None = Some (codes "none")
name_of_class s class.Integer = Some (codes "integer")
name_of_class s class.Boolean = Some (codes "boolean")
name_of_class s (class.Declared k) = option_map (λ (c : Class). c.name.text) (slice_get s.classes k)

-- Of classes that follow those of the earlier names, the one at this place has the name of one of them, or of one that
-- every system has.
pub data RepeatedAt : List Name → List Class → Span → Type 0 where
  built_in : {earlier : List Name} {c : Class} {later : List Class} → is_built_in c.name.text ≡ true →
      RepeatedAt earlier (c ∷ later) c.name.span
  repeated : {earlier : List Name} {c : Class} {later : List Class} → is_listed c.name.text earlier ≡ true →
      RepeatedAt earlier (c ∷ later) c.name.span
  further : {earlier : List Name} {c : Class} {later : List Class} {p : Span} →
      RepeatedAt (earlier ++ c.name ∷ []) later p → RepeatedAt earlier (c ∷ later) p
