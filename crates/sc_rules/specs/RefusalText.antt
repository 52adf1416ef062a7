-- The codes and the names of the reasons for which a source text is refused.
use Rattle.std.specs.Prelude.{ℕ, List, codes}
use Rattle.sc_rules.specs.RuleText as rules
use Rattle.sc_rules.specs.declared.refusal_code.RefusalCode.{RefusalCode}
use Rattle.sc_rules.specs.declared.refusal_code.RefusalCode.TheVariants as reason

abbrev pub code_of : RefusalCode → List ℕ
code_of reason.BadCharacter = codes "L1"
code_of reason.UnclosedString = codes "L2"
code_of reason.BadEscape = codes "L3"
code_of reason.IntegerTooLarge = codes "L4"
code_of reason.SourceTooLong = codes "L5"
code_of reason.NotInGrammar = codes "P1"
code_of reason.TooDeep = codes "P2"
code_of reason.DuplicateClass = codes "C1"
code_of reason.UnknownParent = codes "C2"
code_of reason.Cycle = codes "C3"
code_of reason.DuplicateFeature = codes "C4"
code_of reason.BadRedefinition = codes "C5"
code_of reason.NoRoot = codes "C6"
code_of reason.Limit = codes "C7"
code_of reason.LeftOut = codes "C8"
code_of (reason.Rule rule) = rules.code_of rule

abbrev pub name_of : RefusalCode → List ℕ
name_of reason.BadCharacter = codes "BadCharacter"
name_of reason.UnclosedString = codes "UnclosedString"
name_of reason.BadEscape = codes "BadEscape"
name_of reason.IntegerTooLarge = codes "IntegerTooLarge"
name_of reason.SourceTooLong = codes "SourceTooLong"
name_of reason.NotInGrammar = codes "NotInGrammar"
name_of reason.TooDeep = codes "TooDeep"
name_of reason.DuplicateClass = codes "DuplicateClass"
name_of reason.UnknownParent = codes "UnknownParent"
name_of reason.Cycle = codes "Cycle"
name_of reason.DuplicateFeature = codes "DuplicateFeature"
name_of reason.BadRedefinition = codes "BadRedefinition"
name_of reason.NoRoot = codes "NoRoot"
name_of reason.Limit = codes "Limit"
name_of reason.LeftOut = codes "LeftOut"
name_of (reason.Rule rule) = rules.name_of rule
