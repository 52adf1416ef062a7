-- Tags of types, and which of them conforms to which.
use Rattle.std.specs.Prelude.{Bool, true, false, ◌==◌, ◌||◌}
use Rattle.sc_rules.specs.declared.entity_types.tag.Reserved.{Reserved}
use Rattle.sc_rules.specs.declared.entity_types.tag.Reserved.TheVariants.{Formal, BlockName}
use Rattle.sc_rules.specs.declared.entity_types.tag.Tag.{Tag}
use Rattle.sc_rules.specs.declared.entity_types.tag.Tag.TheVariants as tag

abbrev pub is_same_reserved : Reserved → Reserved → Bool
is_same_reserved (Formal i) (Formal j) = i == j
is_same_reserved (Formal i) (BlockName j) = false
is_same_reserved (BlockName i) (Formal j) = false
is_same_reserved (BlockName i) (BlockName j) = i == j

abbrev pub is_same_tag : Tag → Tag → Bool
is_same_tag tag.Own tag.Own = true
is_same_tag tag.Any tag.Any = true
is_same_tag tag.None tag.None = true
is_same_tag (tag.With x) (tag.With y) = is_same_reserved x y
is_same_tag _ _ = false

abbrev pub is_any : Tag → Bool
is_any tag.Any = true
is_any _ = false

abbrev pub is_none : Tag → Bool
is_none tag.None = true
is_none _ = false

-- Every tag conforms to `any`, `none` to every tag, and otherwise the tags are equal.
abbrev pub tag_conforms : Tag → Tag → Bool
tag_conforms t u = is_any u || is_none t || is_same_tag t u
