-- The type of a query's result, and the type that an actual must conform to, both seen by the caller.
use Rattle.std.specs.Prelude.{true, List, slice_get, if◌then◌else◌}
use Rattle.std.specs.Option.{option_map_or}
use Rattle.sc_class.specs.Tables.Conformance.{is_expanded}
use Rattle.sc_rules.specs.declared.entity_types.tag.Reserved.TheVariants.{Formal, BlockName}
use Rattle.sc_rules.specs.declared.entity_types.tag.Tag.{Tag}
use Rattle.sc_rules.specs.declared.entity_types.tag.Tag.TheVariants as tag
use Rattle.sc_rules.specs.declared.entity_types.entity_type.EntityType.{EntityType}
use Rattle.sc_rules.specs.declared.entity_types.known.Known.{Known}
use Rattle.sc_rules.specs.declared.entity_types.known.Known.TheVariants as known

-- For a target of tag `own` the result keeps its tag, and a result of tag `own` takes the target's; any other has the
-- tag `any`.
abbrev pub result_tag : Tag → Tag → Tag
result_tag tag.Own result = result
result_tag target tag.Own = target
result_tag _ _ = tag.Any

-- An expanded result is attached and `own`. Of any other the mark and the class stay.
abbrev pub combined_result : EntityType → EntityType → EntityType
combined_result target result =
    if is_expanded result.class
    then record { attached = true; tag = tag.Own; class = result.class }
    else record { attached = result.attached; tag = result_tag target.tag result.tag; class = result.class }

-- the handler that a tag names, if it names one
abbrev pub known_of : Tag → Known
known_of tag.Own = known.Own
known_of (tag.With x) = known.With x
known_of tag.Any = known.Neither
known_of tag.None = known.Neither

-- the tag of a known handler; if none is known, Void's
abbrev pub known_tag : Known → Tag
known_tag known.Own = tag.Own
known_tag (known.With x) = tag.With x
known_tag known.Neither = tag.None

-- For a formal of tag `any`, `any`; for one of tag `own`, that of the target's handler; for one of another formal's
-- handler, that of its actual's.
abbrev pub argument_tag : Tag → Tag → List Known → Tag
argument_tag target tag.Any actuals = tag.Any
argument_tag target tag.Own actuals = known_tag (known_of target)
argument_tag target (tag.With (Formal y)) actuals = option_map_or known_tag (slice_get actuals y) tag.None
argument_tag target (tag.With (BlockName y)) actuals = tag.None
argument_tag target tag.None actuals = tag.None

-- For an expanded formal the tag is `own`. Mark and class are the formal's.
abbrev pub combined_argument : EntityType → EntityType → List Known → EntityType
combined_argument target formal actuals =
    record {
      attached = formal.attached;
      tag = if is_expanded formal.class then tag.Own else argument_tag target.tag formal.tag actuals;
      class =
          formal.class;
    }
