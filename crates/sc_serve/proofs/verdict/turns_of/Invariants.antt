use Rattle.std.proofs.Common.{◌≡◌, take}
use Rattle.sc_serve.specs.Search.{told_turns}
use Rattle.sc_serve.proofs.verdict.turns_of.Given as goal

-- so many turns are in the lines before
abbrev pub invariant-loop-line : goal.invariant-loop-line
invariant-loop-line l = l.turns ≡ told_turns (take l.line-index l.lines)
