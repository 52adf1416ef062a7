-- Laws of the combiners.
use Rattle.std.specs.Prelude.{◌≡◌, true, false, List}
use Rattle.sc_tree.specs.Plain.{System}
use Rattle.sc_class.specs.Tables.Conformance.{is_expanded}
use Rattle.sc_rules.specs.declared.entity_types.tag.Tag.{Tag}
use Rattle.sc_rules.specs.declared.entity_types.tag.Tag.TheVariants as tag
use Rattle.sc_rules.specs.declared.entity_types.entity_type.EntityType.{EntityType}
use Rattle.sc_rules.specs.entity_types.Tags.{tag_conforms}
use Rattle.sc_rules.specs.entity_types.Conformance.{conforms}
use Rattle.sc_rules.specs.declared.entity_types.known.Known.{Known}
use Rattle.sc_rules.specs.entity_types.Combiners.{result_tag, combined_result, argument_tag, combined_argument}
use Rattle.sc_rules.specs.entity_types.Calls.{IsResultTag, IsActualTag}

-- A result that is a reference has the tag `own` only where the target has.
abbrev pub OwnResult : Type 0
OwnResult = (target result : EntityType) → is_expanded result.class ≡ false →
    (combined_result target result).tag ≡ tag.Own → target.tag ≡ tag.Own

-- No reference of tag `any` may be an actual for a formal of tag `own`.
abbrev pub NoTraitor : Type 0
NoTraitor =
    (s : System) (actual target formal : EntityType) (actuals : List Known) → is_expanded actual.class ≡ false →
    actual.tag ≡ tag.Any →
    formal.tag ≡ tag.Own → conforms s actual (combined_argument target formal actuals) ≡ false

-- A result may be taken for one of a tag exactly where the combined tag conforms to it. Void is neither a target nor a
-- result's declared type.
abbrev pub ExactResult : Type 0
ExactResult =
    (target result seen : Tag) → (target ≡ tag.None → ⊥) → (result ≡ tag.None → ⊥) →
    (tag_conforms (result_tag target result) seen ≡ true → IsResultTag target result seen) ×
    (IsResultTag target result seen → tag_conforms (result_tag target result) seen ≡ true)

-- An actual of a tag lies where the formal says exactly where its tag conforms to the combined one. Void is no target.
abbrev pub ExactArgument : Type 0
ExactArgument =
    (target formal seen : Tag) (actuals : List Known) → (target ≡ tag.None → ⊥) →
    (tag_conforms seen (argument_tag target formal actuals) ≡ true → IsActualTag target formal actuals seen) ×
    (IsActualTag target formal actuals seen → tag_conforms seen (argument_tag target formal actuals) ≡ true)
