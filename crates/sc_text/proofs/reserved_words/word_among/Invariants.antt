use Rattle.std.proofs.Common.{◌≡◌, drop, map}
use Rattle.sc_text.specs.Words.{word_among}
use Rattle.sc_text.proofs.reserved_words.word_among.Given as goal

abbrev pub invariant-loop-word : goal.invariant-loop-word
invariant-loop-word l =
    word_among (map (λ w. (w.0.now, w.1)) (drop l.word-index l.table)) l.text ≡ word_among (map (λ w. (w.0.now, w.1)) l.table) l.text
