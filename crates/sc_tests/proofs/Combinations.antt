-- Which types are seen through a call.
use Rattle.std.proofs.Common.{◌≡◌, List, [], ◌∷◌, refl}
use Rattle.std.specs.Prelude.{map}
use Rattle.sc_class.specs.declared.identity.ClassId.TheVariants as class
use Rattle.sc_rules.specs.declared.entity_types.tag.Reserved.TheVariants.{Formal, BlockName}
use Rattle.sc_rules.specs.declared.entity_types.tag.Tag.{Tag}
use Rattle.sc_rules.specs.declared.entity_types.tag.Tag.TheVariants as tag
use Rattle.sc_rules.specs.declared.entity_types.entity_type.EntityType.{EntityType}
use Rattle.sc_rules.specs.entity_types.Conformance.{integer, boolean}
use Rattle.sc_rules.specs.declared.entity_types.known.Known.{Known}
use Rattle.sc_rules.specs.declared.entity_types.known.Known.TheVariants as known
use Rattle.sc_rules.specs.entity_types.Combiners.{combined_result, combined_argument, known_of}
use Rattle.sc_tests.proofs.Conformances.{attached, detachable, first, x, y}

abbrev z : Tag
z = tag.With (Formal 2)

abbrev w : Tag
w = tag.With (Formal 3)

abbrev other_block : Tag
other_block = tag.With (BlockName 1)

-- ---- results: the tags of a target and of a declared result, and that of the result as the caller sees it

abbrev result_of : Tag → Tag → Tag
result_of target declared = (combined_result (attached target first) (attached declared first)).tag

pub of_own_target : result_of tag.Own tag.Own ∷ result_of tag.Own tag.Any ∷ result_of tag.Own y ∷ [] ≡ tag.Own ∷ tag.Any ∷ y ∷ []
of_own_target = refl

pub of_formal_target : result_of x tag.Own ∷ result_of x tag.Any ∷ result_of x y ∷ result_of x x ∷ [] ≡ x ∷ tag.Any ∷ tag.Any ∷ tag.Any ∷ []
of_formal_target = refl

pub of_any_target : result_of tag.Any tag.Own ∷ result_of tag.Any tag.Any ∷ result_of tag.Any y ∷ [] ≡ tag.Any ∷ tag.Any ∷ tag.Any ∷ []
of_any_target = refl

-- ---- arguments: the tags of a target and of a formal, and the tag that the caller's actual must conform to

-- of the actuals the first is of no known handler, the second of the caller's and the third of what a block reserves
abbrev actuals : List Known
actuals = known.Neither ∷ known.Own ∷ known_of other_block ∷ []

abbrev argument_of : Tag → Tag → Tag
argument_of target formal = (combined_argument (attached target first) (attached formal first) actuals).tag

pub any_formal : argument_of tag.Own tag.Any ∷ argument_of x tag.Any ∷ argument_of tag.Any tag.Any ∷ [] ≡ tag.Any ∷ tag.Any ∷ tag.Any ∷ []
any_formal = refl

pub own_formal : argument_of tag.Own tag.Own ∷ argument_of x tag.Own ∷ argument_of tag.Any tag.Own ∷ [] ≡ tag.Own ∷ x ∷ tag.None ∷ []
own_formal = refl

pub formal_of_a_formal :
    argument_of x x ∷ argument_of x y ∷ argument_of tag.Any z ∷ argument_of tag.Own w ∷ argument_of tag.Own other_block ∷ []
    ≡ tag.None ∷ tag.Own ∷ other_block ∷ tag.None ∷ tag.None ∷ []
formal_of_a_formal = refl

-- ---- marks and classes are kept

pub results_are_kept :
    combined_result (attached x (class.Declared 3)) (detachable tag.Own class.Any)
    ∷ combined_result (attached x (class.Declared 3)) integer ∷ combined_result (attached tag.Any first) boolean ∷ []
    ≡ detachable x class.Any ∷ integer ∷ boolean ∷ []
results_are_kept = refl

abbrev seen_by_x : EntityType → EntityType
seen_by_x formal = combined_argument (attached x first) formal (known.Neither ∷ [])

pub arguments_are_kept :
    seen_by_x (detachable tag.Own (class.Declared 255)) ∷ seen_by_x integer ∷ [] ≡ detachable x (class.Declared 255) ∷ integer ∷ []
arguments_are_kept = refl

-- ---- the handlers that tags say are known

pub known_handlers :
    map known_of (tag.Own ∷ x ∷ tag.Any ∷ tag.None ∷ []) ≡ known.Own ∷ known.With (Formal 0) ∷ known.Neither ∷ known.Neither ∷ []
known_handlers = refl
