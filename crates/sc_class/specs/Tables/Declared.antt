-- What classes declare themselves.
use Rattle.std.specs.Prelude.{ℕ, List, [], map, slice_get}
use Rattle.std.specs.Option.{option_map_or}
use Rattle.sc_tree.specs.Plain.{System, Class, Feature, Name}

-- the names of the features that a class declares
abbrev pub declared_feature_names : Class → List Name
declared_feature_names c = map (λ f. f.name) c.features

-- the names that the class at a number declares
abbrev pub declared_feature_names_at : System → ℕ → List Name
declared_feature_names_at s k = option_map_or declared_feature_names (slice_get s.classes k) []

-- the names that a class lists under `create`
abbrev pub created_by : Class → List Name
created_by c = c.creators

-- the creation procedures of the class at a number
abbrev pub creators_of : System → ℕ → List Name
creators_of s k = option_map_or created_by (slice_get s.classes k) []

-- the features that the class at a number declares
abbrev pub features_at : System → ℕ → List Feature
features_at s k = option_map_or (λ (c : Class). c.features) (slice_get s.classes k) []
