use Rattle.std.proofs.Common.{rules, ◌∙◌}
use Rattle.sc_text.proofs.WordCases.{kept_is, kept_stands}
use Rattle.sc_text.proofs.words.Words.token_kind.Goals as goal

pub returns-then-is_lower_case_of : goal.returns-then-is_lower_case_of
returns-then-is_lower_case_of c = c.in_ok-kind.ensures ∙ kept_stands _ _ _ (search rules) c.in-Some-Some.kept.is_looked_up

pub invariant_of-kept : goal.invariant_of-kept
invariant_of-kept c = record { is_looked_up = kept_is _ c.args.word.now _ (search rules) (search rules) }
