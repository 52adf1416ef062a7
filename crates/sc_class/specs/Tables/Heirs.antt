-- Laws of heirs: which version of a feature a class has, which text has that version, and whose contract it keeps
-- (ECMA-367, 8.10).
use Rattle.std.specs.Prelude.{◌≡◌, ◌<◌, ◌⊎◌, ◌↔◌, ℕ, Bool, true, List, [], ◌∷◌, ◌++◌, ◌&&◌, Option, Some, None, Contains, bytes_eq, length, map, slice_get}
use Rattle.std.specs.List.{IsDistinct}
use Rattle.std.specs.Option.{option_or}
use Rattle.sc_tree.specs.Plain.{System, Class, FeatureKind, Attribute, Routine, RoutineDeclaration, DeclaredType}
use Rattle.sc_class.specs.declared.identity.ClassId.TheVariants as class
use Rattle.sc_class.specs.ClassNames.{Root}
use Rattle.sc_class.specs.Faults.ClassRules.{IsFaultless}
use Rattle.sc_class.specs.Tables.Ancestors.{parent_number, ancestors, IsCyclic}
use Rattle.sc_class.specs.Tables.Conformance.{is_ancestor}
use Rattle.sc_class.specs.Tables.Features.{DeclaredFeature, declared_features, redefined_names, not_redefined, features, named_among, feature_named, declared_invariant, invariant_of}
use Rattle.sc_class.specs.Faults.Scopes.{feature_names}
use Rattle.sc_class.specs.Faults.Redefinition.{is_same_formals, is_empty_contract, can_redefine}

-- the law of each system without faults
abbrev pub WhereFaultless : (System → Type 0) → Type 0
WhereFaultless law = (s : System) (root : Root) → IsFaultless s root → law s

-- No class inherits from itself, whether it is the first in the text or not.
abbrev pub NoneIsCyclic : Type 0
NoneIsCyclic = WhereFaultless λ s. (k : ℕ) → IsCyclic s k → ⊥

-- The ancestors of a class are the class and its parent's: the list is never cut short.
abbrev pub AncestorsClimb : Type 0
AncestorsClimb = WhereFaultless λ s. (k i : ℕ) → parent_number s k ≡ Some i → ancestors s k ≡ k ∷ ancestors s i

-- The first class is reached from the second over parents: it is that class, or is reached from its parent.
pub data IsReached (s : System) (j : ℕ) : ℕ → Type 0 where
  is_itself : IsReached s j j
  over_parent : {k i : ℕ} → parent_number s k ≡ Some i → IsReached s j i → IsReached s j k

-- The ancestors of a class are those that are reached from it over parents, in every system.
abbrev pub AncestorsReached : Type 0
AncestorsReached = (s : System) (k j : ℕ) → k < length s.classes → (is_ancestor s k j ≡ true) ↔ IsReached s j k

-- The features of a class are its own, and then its parent's that it doesn't redefine.
abbrev pub FeaturesInherited : Type 0
FeaturesInherited =
    WhereFaultless λ s. (k i : ℕ) → parent_number s k ≡ Some i →
    features s k ≡ declared_features s k ++ not_redefined (redefined_names s k) (features s i)

-- Those of a class without a parent are its own.
abbrev pub FeaturesDeclared : Type 0
FeaturesDeclared = (s : System) (k : ℕ) → parent_number s k ≡ None → features s k ≡ declared_features s k

-- No two features of a class have one name.
abbrev pub FeaturesDiffer : Type 0
FeaturesDiffer = WhereFaultless λ s. (k : ℕ) → IsDistinct bytes_eq (map (λ n. n.text) (feature_names (features s k)))

-- The joined invariant of an heir is its parent's and then its own.
abbrev pub InvariantsJoined : Type 0
InvariantsJoined =
    WhereFaultless λ s. (k i : ℕ) → parent_number s k ≡ Some i →
    invariant_of s k ≡ invariant_of s i ++ declared_invariant s k

-- The feature that a class has of a name is in the text of one of its ancestors, under that name.
pub record StandsInText (s : System) (k : ℕ) (x : List ℕ) (f : DeclaredFeature) : Type 0 where
  pub class : Class
  pub is_class : slice_get s.classes f.class ≡ Some class
  pub declares : Contains class.features f.feature
  pub is_named : f.feature.name.text ≡ x
  pub is_above : is_ancestor s k f.class ≡ true
  pub is_declared : named_among x (declared_features s f.class) ≡ Some f

-- Each feature that is found does, in every system.
abbrev pub FoundStands : Type 0
FoundStands =
    (s : System) (k : ℕ) (x : List ℕ) (f : DeclaredFeature) → feature_named s (class.Declared k) x ≡ Some f →
    StandsInText s k x f

-- The first is the second, or redefines it, at once or over others.
pub data Redeclares (s : System) (f : DeclaredFeature) : DeclaredFeature → Type 0 where
  unchanged : Redeclares s f f
  redefines : {g h : DeclaredFeature} → can_redefine s h.feature.kind g.feature.kind ≡ true → Redeclares s f g →
      Redeclares s f h

-- what a class has of an ancestor's feature
pub record HeirsVersion (s : System) (k : ℕ) (x : List ℕ) (f : DeclaredFeature) : Type 0 where
  pub version : DeclaredFeature
  pub is_there : feature_named s (class.Declared k) x ≡ Some version
  pub redeclares : Redeclares s f version

-- An heir has a version of each feature.
abbrev pub HeirsRedeclare : Type 0
HeirsRedeclare =
    WhereFaultless λ s. (k j : ℕ) (x : List ℕ) (f : DeclaredFeature) → is_ancestor s k j ≡ true →
    feature_named s (class.Declared j) x ≡ Some f → HeirsVersion s k x f

-- ---- kept contracts

-- The version that the topmost of these classes declares, each the parent of the one before it.
abbrev pub topmost_along : System → List ℕ → List ℕ → Option DeclaredFeature
topmost_along s x [] = None
topmost_along s x (k ∷ ks) = option_or (topmost_along s x ks) (named_among x (declared_features s k))

-- The origin of a feature: the version in the topmost ancestor that declares it. Its contract is that of each version.
abbrev pub origin_of : System → DeclaredFeature → Option DeclaredFeature
origin_of s f = topmost_along s f.feature.name.text (ancestors s f.class)

-- its contract has no clause
abbrev pub has_no_contract : FeatureKind → Bool
has_no_contract (Attribute t) = true
has_no_contract (Routine r) = is_empty_contract r.precondition && is_empty_contract r.postcondition

-- The first takes the formals of the second: both are routines with equal ones.
pub data TakesSame : FeatureKind → FeatureKind → Type 0 where
  takes_same : {r q : RoutineDeclaration} → is_same_formals r.formals q.formals ≡ true →
      TakesSame (Routine r) (Routine q)

-- what is true of the origin of a feature that a class has
pub record HasOrigin (s : System) (k : ℕ) (x : List ℕ) (f : DeclaredFeature) : Type 0 where
  pub origin : DeclaredFeature
  pub is_origin : origin_of s f ≡ Some origin
  pub is_above : is_ancestor s k origin.class ≡ true
  pub is_above_declarer : is_ancestor s f.class origin.class ≡ true
  pub is_feature_there : feature_named s (class.Declared origin.class) x ≡ Some origin
  pub redeclares : Redeclares s origin f

-- Each feature has an origin, in an ancestor of each class that has the feature.
abbrev pub OriginsStand : Type 0
OriginsStand =
    WhereFaultless λ s. (k : ℕ) (x : List ℕ) (f : DeclaredFeature) → feature_named s (class.Declared k) x ≡ Some f →
    HasOrigin s k x f

-- The versions of a feature have one origin.
abbrev pub VersionsShareOrigin : Type 0
VersionsShareOrigin =
    WhereFaultless λ s. (k j : ℕ) (x : List ℕ) (f g : DeclaredFeature) → is_ancestor s k j ≡ true →
    feature_named s (class.Declared j) x ≡ Some f →
    feature_named s (class.Declared k) x ≡ Some g → origin_of s g ≡ origin_of s f

-- A version that isn't its origin has no contract of its own.
abbrev pub OneContract : Type 0
OneContract =
    (s : System) (f g : DeclaredFeature) → Redeclares s f g → (g ≡ f) ⊎ (has_no_contract g.feature.kind ≡ true)

-- The version of a routine is a routine with equal formals.
abbrev pub RoutinesTakeSame : Type 0
RoutinesTakeSame =
    (s : System) (f g : DeclaredFeature) (r : RoutineDeclaration) → Redeclares s f g → g.feature.kind ≡ Routine r →
    TakesSame g.feature.kind f.feature.kind

-- The version of an attribute is that attribute, and what a version that is an attribute redeclares is that attribute
-- too.
abbrev pub AttributesStay : Type 0
AttributesStay =
    (s : System) (f g : DeclaredFeature) (d : DeclaredType) → Redeclares s f g →
    (f.feature.kind ≡ Attribute d) ⊎ (g.feature.kind ≡ Attribute d) → g ≡ f
