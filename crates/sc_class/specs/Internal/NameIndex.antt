-- Names that are found by hash: for each text a map keeps the number of the first name that equals it, and the first
-- place in the text of such a name.
use Rattle.std.specs.Prelude.{◌≡◌, ℕ, List, [], ◌∷◌, Option, Some, None, map, take, bytes_eq, nat_lt, slice_get, if◌then◌else◌}
use Rattle.std.specs.Option.{option_map}
use Rattle.std.specs.Borrow.{Bor}
use Rattle.std.specs.HashMap.{HashMap, get_by}
use Rattle.sc_text.specs.declared.token.Span.{Span}
use Rattle.sc_tree.specs.Plain.{Name}
use Rattle.sc_tree.specs.View.{name_of}
use Rattle.sc_class.specs.declared.names.Added.{Added}
use Rattle.sc_class.specs.declared.names.Known.{Known}
use Rattle.sc_class.specs.Names.{number_among}
use Rattle.sc_class.specs.Internal.Found.{first_place}

-- the first place in the text of a name that equals this one
abbrev pub place_among : List ℕ → List Name → Option Span
place_among x [] = None
place_among x (n ∷ ns) = first_place (if bytes_eq n.text x then Some n.span else None) (place_among x ns)

-- the names, wherever they lie
abbrev pub names_in : List Added → List Name
names_in added = map (λ a. name_of a.name.now) added

-- what is known of a text behind one more name that is it, which has this number and place
abbrev pub known_then : Option Known → ℕ → Span → Known
known_then None k p = record { number = k; place = p }
known_then (Some o) k p = if nat_lt p.start o.place.start then record { number = o.number; place = p } else o

-- This is what is to be known of the text among the names.
abbrev pub IsKnown : List ℕ → List Name → Option Known → Type 0
IsKnown x ns o = (option_map (λ k. k.number) o ≡ number_among x ns) × (option_map (λ k. k.place) o ≡ place_among x ns)

-- of each text that is known, and of each name's text what was known before it
abbrev pub IsIndex : {S : Type 0} → HashMap (Bor (List ℕ)) Known S → List Added → Type 0
IsIndex {S} known names =
    ((x : List ℕ) → IsKnown x (names_in names) (get_by (λ k. bytes_eq x k.now) known))
    × ((i : ℕ) (a : Added) → slice_get names i ≡ Some a →
    IsKnown (name_of a.name.now).text (take i (names_in names)) a.before)
