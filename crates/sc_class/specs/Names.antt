-- Names in a list, in lower case, so that equal texts are one name; and names that can't be beside each other.
use Rattle.std.specs.Prelude.{◌≡◌, ◌+◌, ℕ, Bool, true, List, [], ◌∷◌, ◌++◌, Option, Some, None, Any, bytes_eq, nat_lt, if◌then◌else◌}
use Rattle.std.specs.List.{list_any}
use Rattle.std.specs.Option.{option_map}
use Rattle.sc_text.specs.declared.token.Span.{Span}
use Rattle.sc_tree.specs.Plain.{Name}
use Rattle.sc_tree.specs.Properties.{is_print}

-- one of the names is this
abbrev pub is_listed : List ℕ → List Name → Bool
is_listed x names = list_any (λ n. bytes_eq n.text x) names

-- how many of the names come before the first that equals this, if one does
abbrev pub number_among : List ℕ → List Name → Option ℕ
number_among x [] = None
number_among x (n ∷ ns) = if bytes_eq n.text x then Some 0 else option_map (λ k. k + 1) (number_among x ns)

-- of two places, the later one in the text
abbrev pub last_place : Span → Span → Span
last_place a b = if nat_lt b.start a.start then a else b

-- One of these names is like this one, and the place is that of the later one of the two.
abbrev pub IsLikeOne : List Name → Name → Span → Type 0
IsLikeOne known n p = Any (λ m. (bytes_eq m.text n.text ≡ true) × (p ≡ last_place m.span n.span)) known

-- A name can't follow these: it is `print`, or equal to one of them.
pub data Clashes (known : List Name) (n : Name) : Span → Type 0 where
  is_print_itself : is_print n.text ≡ true → Clashes known n n.span
  is_like : {p : Span} → IsLikeOne known n p → Clashes known n p

-- One of these names clashes with those in scope or before it.
pub data OneClashes : List Name → List Name → Span → Type 0 where
  first : {known : List Name} {n : Name} {ns : List Name} {p : Span} → Clashes known n p → OneClashes known (n ∷ ns) p
  further : {known : List Name} {n : Name} {ns : List Name} {p : Span} → OneClashes (known ++ n ∷ []) ns p →
      OneClashes known (n ∷ ns) p
