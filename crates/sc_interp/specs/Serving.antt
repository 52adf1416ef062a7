-- What the tables of a program say of its system.
use Rattle.std.specs.Prelude.{◌≡◌, ℕ, Bool, true, false, ◌||◌, ◌==◌, List, Option, Some, None, slice_get}
use Rattle.std.specs.Option.{option_map, option_map_or}
use Rattle.sc_tree.specs.Plain as tree
use Rattle.sc_tree.specs.Plain.{System, FeatureKind}
use Rattle.sc_class.specs.declared.identity.ClassId.TheVariants as class
use Rattle.sc_class.specs.Tables.Conformance.{class_conforms}
use Rattle.sc_class.specs.Tables.Features.{DeclaredFeature, features}
use Rattle.sc_model.specs.Objects.{fresh_attributes}
use Rattle.sc_model.specs.Routines.{version_of}
use Rattle.sc_code.specs.Attributes.{attribute_number}
use Rattle.sc_code.specs.declared.program.Image.{Image}
use Rattle.sc_code.specs.declared.program.ClassCode.{ClassCode}
use Rattle.sc_code.specs.declared.program.FeatureCode.{FeatureCode}
use Rattle.sc_code.specs.declared.program.FeatureCode.TheVariants as version
use Rattle.sc_code.specs.Programs.{pool_of}
use Rattle.sc_acts.specs.Tables.{version_in}

-- the first class is the second one, or its table says that it conforms to the second one
abbrev pub conforms_in : Image → ℕ → ℕ → Bool
conforms_in p k j =
    k == j || option_map_or (λ (c : ClassCode). option_map_or (λ b. b) (slice_get c.conforms.items j) false)
    (slice_get p.classes.items k) false

-- the number of the attribute, if the feature is one
abbrev pub attribute_in : Option FeatureCode → Option ℕ
attribute_in (Some (version.Attribute n)) = Some n
attribute_in (Some (version.Routine n)) = None
attribute_in None = None

-- whether the feature is a routine, if there is one
abbrev pub is_routine_in : Option FeatureCode → Option Bool
is_routine_in (Some (version.Attribute n)) = Some false
is_routine_in (Some (version.Routine n)) = Some true
is_routine_in None = None

abbrev pub is_routine : FeatureKind → Bool
is_routine (tree.Attribute d) = false
is_routine (tree.Routine r) = true

-- The tables say which classes conform to each other.
abbrev pub TellsConformance : System → Image → Type 0
TellsConformance s p = (k j : ℕ) → conforms_in p k j ≡ class_conforms s (class.Declared k) (class.Declared j)

-- The tables say which classes conform to each other, which attribute of a class has a name, and whether the feature
-- of this name is a routine.
pub record Serves (s : System) (p : Image) : Type 0 where
  pub conforms : TellsConformance s p
  pub attributes : (k x : ℕ) (name : List ℕ) → slice_get (pool_of p.pool).names x ≡ Some name →
      attribute_in (version_in p k x) ≡ attribute_number name (fresh_attributes s (features s k))
  pub routines : (k x : ℕ) (name : List ℕ) → slice_get (pool_of p.pool).names x ≡ Some name →
      is_routine_in (version_in p k x) ≡ option_map (λ (f : DeclaredFeature). is_routine f.feature.kind)
      (version_of s k name)
