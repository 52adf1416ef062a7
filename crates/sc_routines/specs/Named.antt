-- What a name with no target is to the text that it stands in.
use Rattle.std.specs.Prelude.{ℕ, List, [], Option, Some, None}
use Rattle.sc_class.specs.Tables.Features.{feature_named}
use Rattle.sc_rules.specs.declared.entity_types.entity_type.EntityType.{EntityType}
use Rattle.sc_rules.specs.Names.{Entities, current}
use Rattle.sc_routines.specs.declared.own_feature.OwnFeature.{OwnFeature}
use Rattle.sc_routines.specs.declared.own_feature.OwnFeature.TheVariants as own
use Rattle.sc_code.specs.Operations.{Operation}
use Rattle.sc_code.specs.Places.{Setting, here, slot_named}
use Rattle.sc_code.specs.Emitted.{attribute_code}
use Rattle.sc_routines.specs.Parts.{own_feature, slot_code}

-- what the name is of Current's features
abbrev pub own_named : Setting → List ℕ → OwnFeature
own_named h x = own_feature h.system (current (here h)) (feature_named h.system (current (here h)).class x)

-- what the routine of Current gives that a name is of, if it is one
abbrev pub routine_given : Option (ℕ × Option EntityType) → OwnFeature → Option (Option EntityType)
routine_given (Some found) f = None
routine_given None own.Unknown = None
routine_given None (own.Attribute t) = None
routine_given None (own.Routine t) = Some t

-- a name that is no routine's is read
abbrev pub read_code : List ℕ → Option (ℕ × Option EntityType) → OwnFeature → List Operation
read_code x (Some (k, t)) f = slot_code k t
read_code x None own.Unknown = []
read_code x None (own.Attribute t) = attribute_code x t
read_code x None (own.Routine t) = []

abbrev pub read_type : Option (ℕ × Option EntityType) → OwnFeature → Option EntityType
read_type (Some found) f = found.1
read_type None own.Unknown = None
read_type None (own.Attribute t) = t
read_type None (own.Routine t) = None

-- the same of a name where these are known, in a text of this setting
abbrev pub code_named : Setting → Entities → List ℕ → List Operation
code_named h n x = read_code x (slot_named x n) (own_named h x)

abbrev pub type_named : Setting → Entities → List ℕ → Option EntityType
type_named h n x = read_type (slot_named x n) (own_named h x)
