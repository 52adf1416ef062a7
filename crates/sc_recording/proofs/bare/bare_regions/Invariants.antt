use Rattle.std.proofs.Common.{◌+◌, ◌≤◌, vec_capacity, vec_len}
use Rattle.sc_recording.proofs.Bared.{Bared}
use Rattle.sc_recording.proofs.bare.bare_regions.Given as goal

-- those before are there without their logs
abbrev pub invariant-loop-region : goal.invariant-loop-region
invariant-loop-region l = record {
  room : vec_len l.regions + vec_len l.logged ≤ vec_capacity l.regions;
  bared : Bared l.logged.items l.regions.items l.fn.logged.items;
}

abbrev pub decreases-loop-region : goal.decreases-loop-region
decreases-loop-region l = vec_len l.logged
