use Rattle.std.proofs.Common.{◌≡◌, ◌++◌, false, map, drop}
use Rattle.sc_arguments.specs.Words.{given_in}
use Rattle.sc_arguments.proofs.GivenLemmas.{left_in, texts}
use Rattle.sc_arguments.proofs.arguments.given.given_in.Given as goal

-- what is given so far, and what is left
abbrev pub invariant-loop-word : goal.invariant-loop-word
invariant-loop-word g l =
    given_in false (map g.S.AsStr.text l.words)
    ≡ texts l.given.items ++ left_in l.is_all l.is_value (map g.S.AsStr.text (drop l.word-index l.words))
