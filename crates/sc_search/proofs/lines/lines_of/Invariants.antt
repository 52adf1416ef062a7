use Rattle.std.proofs.Common.{◌≡◌, ◌++◌, take}
use Rattle.sc_search.specs.Found.{line_turns, turns_of}
use Rattle.sc_search.proofs.lines.lines_of.Given as goal

-- the lines and the last one are the turns before
abbrev pub invariant-loop-handler : goal.invariant-loop-handler
invariant-loop-handler l = turns_of l.lines.items ++ line_turns l.last ≡ take l.handler-index l.turns
