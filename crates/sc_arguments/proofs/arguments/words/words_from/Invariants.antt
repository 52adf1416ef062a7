use Rattle.std.proofs.Common.{◌≡◌, false, length, map}
use Rattle.sc_arguments.specs.Words.{words_from}
use Rattle.sc_arguments.proofs.arguments.words.words_from.Given as goal

-- the words from that of the option on are among those that are left
abbrev pub invariant-loop-word : goal.invariant-loop-word
invariant-loop-word g l =
    words_from l.option false (map g.S.AsStr.text l.words) ≡ words_from l.option l.is_value (map g.S.AsStr.text l.left)

abbrev pub decreases-loop-word : goal.decreases-loop-word
decreases-loop-word g l = length l.left
