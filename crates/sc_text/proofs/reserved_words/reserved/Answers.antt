use Rattle.std.proofs.Common.{sym, ◌∙◌, arith}
use Rattle.sc_text.specs.Words.{reserved_words}
use Rattle.sc_text.proofs.WordLengths.{none_reserved, reserved_among}
use Rattle.sc_text.proofs.reserved_words.reserved.Goals as goal

pub returns-in-2 : goal.returns-in-2
unfolding reserved_words
returns-in-2 c = c.word_among.ensures ∙ sym (reserved_among 2 c.args.text.now c.in-2.is)

pub returns-in-3 : goal.returns-in-3
unfolding reserved_words
returns-in-3 c = c.word_among-in-3.ensures ∙ sym (reserved_among 3 c.args.text.now c.in-3.is)

pub returns-in-4 : goal.returns-in-4
unfolding reserved_words
returns-in-4 c = c.word_among-in-4.ensures ∙ sym (reserved_among 4 c.args.text.now c.in-4.is)

pub returns-in-5 : goal.returns-in-5
unfolding reserved_words
returns-in-5 c = c.word_among-in-5.ensures ∙ sym (reserved_among 5 c.args.text.now c.in-5.is)

pub returns-in-6 : goal.returns-in-6
unfolding reserved_words
returns-in-6 c = c.word_among-in-6.ensures ∙ sym (reserved_among 6 c.args.text.now c.in-6.is)

pub returns-in-7 : goal.returns-in-7
unfolding reserved_words
returns-in-7 c = c.word_among-in-7.ensures ∙ sym (reserved_among 7 c.args.text.now c.in-7.is)

pub returns-in-8 : goal.returns-in-8
unfolding reserved_words
returns-in-8 c = c.word_among-in-8.ensures ∙ sym (reserved_among 8 c.args.text.now c.in-8.is)

pub returns-in-9 : goal.returns-in-9
unfolding reserved_words
returns-in-9 c = c.word_among-in-9.ensures ∙ sym (reserved_among 9 c.args.text.now c.in-9.is)

pub returns-in-10 : goal.returns-in-10
unfolding reserved_words
returns-in-10 c = c.word_among-in-10.ensures ∙ sym (reserved_among 10 c.args.text.now c.in-10.is)

pub returns-in_default : goal.returns-in_default
returns-in_default c = none_reserved c.args.text.now (λ k a b e. omega (arith, a, b, e))
