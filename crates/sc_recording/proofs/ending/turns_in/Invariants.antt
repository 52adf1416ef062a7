use Rattle.std.proofs.Common.{◌≡◌, take}
use Rattle.sc_recording.specs.Ending.{turns_in}
use Rattle.sc_recording.proofs.ending.turns_in.Given as goal

abbrev pub invariant-loop-line : goal.invariant-loop-line
invariant-loop-line l = l.turns ≡ turns_in (take l.line-index l.lines)
