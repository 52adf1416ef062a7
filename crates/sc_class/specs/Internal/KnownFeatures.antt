-- The features of each class, as the code holds them.
use Rattle.std.specs.Prelude.{ℕ, List, Option, map, slice_get}
use Rattle.std.specs.Option.{option_map, option_and_then}
use Rattle.sc_text.specs.declared.token.Span.{Span}
use Rattle.sc_tree.specs.Plain.{System}
use Rattle.sc_class.specs.declared.class_tables.known_features.KnownFeatures.{KnownFeatures}
use Rattle.sc_class.specs.Tables.Features.{DeclaredFeature, features, named_among}
use Rattle.sc_class.specs.Faults.Scopes.{feature_names}
use Rattle.sc_class.specs.View.{entry_of}
use Rattle.sc_class.specs.Internal.NameIndex.{place_among}

-- the features that are listed together
abbrev pub entries_of : KnownFeatures → List DeclaredFeature
entries_of t = map entry_of t.entries.items

abbrev pub class_of_first : List ℕ → List DeclaredFeature → Option ℕ
class_of_first x fs = option_map (λ (f : DeclaredFeature). f.class) (named_among x fs)

-- the number of the class that declares the feature of this name, by what is known of the class at a number
abbrev pub declarer_known : List KnownFeatures → ℕ → List ℕ → Option ℕ
declarer_known ts k x = option_and_then (λ t. class_of_first x (entries_of t)) (slice_get ts k)

-- the declarer, by the system
abbrev pub declarer : System → ℕ → List ℕ → Option ℕ
declarer s k x = class_of_first x (features s k)

abbrev pub place_of_name : List ℕ → List DeclaredFeature → Option Span
place_of_name x fs = place_among x (feature_names fs)
