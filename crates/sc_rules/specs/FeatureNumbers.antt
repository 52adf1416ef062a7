-- The features of a system by number, in the order of the text.
use Rattle.std.specs.Prelude.{◌+◌, ℕ, zero, suc, List, [], ◌∷◌, ◌++◌, Option, length, map}
use Rattle.std.specs.Option.{option_map}
use Rattle.sc_tree.specs.Plain.{System, Class}
use Rattle.sc_class.specs.Names.{number_among}
use Rattle.sc_class.specs.Tables.Declared.{declared_feature_names_at}
use Rattle.sc_class.specs.Tables.Features.{DeclaredFeature, declared_in}
use Rattle.sc_rules.specs.Names.{RoutineName}

-- the features that these classes declare; the first is at the number
abbrev pub features_from : ℕ → List Class → List DeclaredFeature
features_from k [] = []
features_from k (c ∷ cs) = map (declared_in k) c.features ++ features_from (suc k) cs

-- all features, in the order of the text
abbrev pub all_features : System → List DeclaredFeature
all_features s = features_from 0 s.classes

-- how many features the classes before the one at the number declare
abbrev pub start : List Class → ℕ → ℕ
start [] k = 0
start (c ∷ cs) zero = 0
start (c ∷ cs) (suc k) = length c.features + start cs k

-- the number of the feature of this name that the class declares
abbrev pub feature_number : System → RoutineName → Option ℕ
feature_number s f =
    option_map (λ i. start s.classes f.class + i) (number_among f.name (declared_feature_names_at s f.class))
