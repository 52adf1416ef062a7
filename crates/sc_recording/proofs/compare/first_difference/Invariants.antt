use Rattle.std.proofs.Common.{◌≡◌, ◌<◌, ℕ, Some, length, slice_get, take}
use Rattle.sc_handler.specs.Logged.{settlements_of}
use Rattle.sc_recording.specs.Comparing.{Counted, Walked}
use Rattle.sc_recording.specs.Recorded.{settlements_for}
use Rattle.sc_recording.proofs.compare.first_difference.Given as goal

abbrev pub invariant-loop-place : goal.invariant-loop-place
invariant-loop-place l = Walked l.regions (take l.place (settlements_of l.settlements)) l.next l.least

abbrev pub invariant-loop-handler : goal.invariant-loop-handler
invariant-loop-handler l =
    Counted l.regions (settlements_of l.settlements) l.handler l.least
    × ((h : ℕ) → h < 512 → slice_get l.next h ≡ Some (length (settlements_for h (settlements_of l.settlements))))
