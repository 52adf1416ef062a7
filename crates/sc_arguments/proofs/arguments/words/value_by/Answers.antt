use Rattle.std.proofs.Common.{arith}
use Rattle.std.proofs.lemmas.Str.Pattern.{strip_prefix_char}
use Rattle.sc_arguments.proofs.OptionLemmas.{value-behind}
use Rattle.sc_arguments.proofs.arguments.words.value_by.Goals as goal

-- the value is behind `=`
pub returns-in-len1-up-default : goal.returns-in-len1-up-default
returns-in-len1-up-default g c =
    value-behind _ _ _ c.strip_prefix.result c.as_bytes.ensures.value c.in-len1-up-default.len_at_least
    (strip_prefix_char 61 _ c.strip_prefix.result c.strip_prefix.ensures.cases (omega arith))
