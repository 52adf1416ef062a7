use Rattle.std.proofs.Common.{◌-◌, length}
use Rattle.sc_text.specs.Spelling.{lexemes_of}
use Rattle.sc_text.proofs.Whole.{IsRead}
use Rattle.sc_text.proofs.lexer.lex.Given as goal

abbrev pub invariant-loop-place : goal.invariant-loop-place
invariant-loop-place l = IsRead l.text (lexemes_of l.tokens.items) l.place

abbrev pub decreases-loop-place : goal.decreases-loop-place
decreases-loop-place l = length l.text - l.place
