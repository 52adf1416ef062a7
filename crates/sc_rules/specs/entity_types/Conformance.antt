-- Conformance: which values may be attached to what (ECMA-367, 8.14), with the tags of SCOOP.
use Rattle.std.specs.Prelude.{Bool, true, false, not, ◌&&◌, ◌||◌}
use Rattle.sc_class.specs.Plain.{System}
use Rattle.sc_class.specs.declared.identity.ClassId.TheVariants as class
use Rattle.sc_class.specs.Tables.Conformance.{class_conforms}
use Rattle.sc_rules.specs.declared.entity_types.tag.Tag.TheVariants as tag
use Rattle.sc_rules.specs.declared.entity_types.entity_type.EntityType.{EntityType}
use Rattle.sc_rules.specs.entity_types.Tags.{tag_conforms}

-- the type of Void
abbrev pub void : EntityType
void = record { attached = false; tag = tag.None; class = class.None }

-- the type of integers
abbrev pub integer : EntityType
integer = record { attached = true; tag = tag.Own; class = class.Integer }

-- the type of truth values
abbrev pub boolean : EntityType
boolean = record { attached = true; tag = tag.Own; class = class.Boolean }

-- Attached conforms to both marks, detachable to detachable.
abbrev pub mark_conforms : Bool → Bool → Bool
mark_conforms attached to_attached = attached || not to_attached

-- A type conforms to another where its class, its mark and its tag do.
abbrev pub conforms : System → EntityType → EntityType → Bool
conforms s t u = class_conforms s t.class u.class && mark_conforms t.attached u.attached && tag_conforms t.tag u.tag
