use Rattle.std.proofs.Common.{◌≡◌, ◌≤◌, length, take}
use Rattle.sc_region.specs.Values.{atoms_of}
use Rattle.sc_region.proofs.state.fill.Given as goal

abbrev pub invariant-loop-place : goal.invariant-loop-place
invariant-loop-place l =
    record { so_far : take l.place l.atoms ≡ take l.place (atoms_of l.attributes); room : length l.attributes ≤ length l.atoms }
