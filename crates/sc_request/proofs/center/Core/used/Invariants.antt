use Rattle.std.proofs.Common.{◌≡◌, ◌≤◌, ℕ}
use Rattle.sc_request.specs.Cores.{state_of}
use Rattle.sc_request.specs.Parts.{new_part, part_at}
use Rattle.sc_request.proofs.center.Core.used.Given as goal

abbrev pub invariant-loop-count : goal.invariant-loop-count
invariant-loop-count l = record {
  count : (state_of l.self).count ≤ l.count;
  few : l.count ≤ 512;
  new : (h : ℕ) → l.count ≤ h → part_at h (state_of l.self) ≡ new_part;
}

abbrev pub decreases-loop-count : goal.decreases-loop-count
decreases-loop-count l = l.count
