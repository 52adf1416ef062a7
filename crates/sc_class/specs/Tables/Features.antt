-- The features of a class, its own and inherited ones (ECMA-367, 8.6.6 and 8.10), and its joined invariant (8.9.16).
use Rattle.std.specs.Prelude.{ℕ, List, [], ◌∷◌, ◌++◌, Option, None, bytes_eq, find, filter, map, not, drop, slice_get}
use Rattle.std.specs.Option.{option_map_or}
use Rattle.sc_tree.specs.Plain.{System, Class, Parent, Feature, Clause, Name}
use Rattle.sc_class.specs.declared.identity.ClassId.{ClassId}
use Rattle.sc_class.specs.declared.identity.ClassId.TheVariants as class
use Rattle.sc_class.specs.Names.{is_listed}
use Rattle.sc_class.specs.Tables.Ancestors.{first_parent, ancestors}

-- a feature, and the number of the class in whose text it is declared
pub record DeclaredFeature : Type 0 where
  pub class : ℕ
  pub feature : Feature

abbrev pub declared_in : ℕ → Feature → DeclaredFeature
declared_in k f = record { class = k; feature = f }

-- the features that a class declares itself
abbrev pub declared_features : System → ℕ → List DeclaredFeature
declared_features s k = option_map_or (λ (c : Class). map (declared_in k) c.features) (slice_get s.classes k) []

-- the names that a class lists under `redefine`, of its first parent
abbrev pub redefined_by : Class → List Name
redefined_by c = option_map_or (λ (p : Parent). p.redefined) (first_parent c.parents) []

abbrev pub redefined_names : System → ℕ → List Name
redefined_names s k = option_map_or redefined_by (slice_get s.classes k) []

-- those that the class doesn't redefine
abbrev pub not_redefined : List Name → List DeclaredFeature → List DeclaredFeature
not_redefined names fs = filter (λ f. not (is_listed f.feature.name.text names)) fs

-- the features of the first of these classes, each the parent of the one before it
abbrev pub features_along : System → List ℕ → List DeclaredFeature
features_along s [] = []
features_along s (k ∷ ks) = declared_features s k ++ not_redefined (redefined_names s k) (features_along s ks)

-- the features of a class: its own, then its parent's that it doesn't redefine
abbrev pub features : System → ℕ → List DeclaredFeature
features s k = features_along s (ancestors s k)

-- the features of its parent
abbrev pub inherited_features : System → ℕ → List DeclaredFeature
inherited_features s k = features_along s (drop 1 (ancestors s k))

-- the first of the features that has this name
abbrev pub named_among : List ℕ → List DeclaredFeature → Option DeclaredFeature
named_among x fs = find (λ f. bytes_eq f.feature.name.text x) fs

-- the feature of this name of a class; a class that every system has has none but `print`
abbrev pub feature_named : System → ClassId → List ℕ → Option DeclaredFeature
feature_named s (class.Declared k) x = named_among x (features s k)
feature_named s class.Any x = None
feature_named s class.None x = None
feature_named s class.Integer x = None
feature_named s class.Boolean x = None

abbrev pub declared_invariant : System → ℕ → List Clause
declared_invariant s k = option_map_or (λ (c : Class). c.invariant) (slice_get s.classes k) []

abbrev pub invariant_along : System → List ℕ → List Clause
invariant_along s [] = []
invariant_along s (k ∷ ks) = invariant_along s ks ++ declared_invariant s k

-- the joined invariant of a class: its parent's clauses, then its own
abbrev pub invariant_of : System → ℕ → List Clause
invariant_of s k = invariant_along s (ancestors s k)
