use Rattle.std.proofs.Common.{◌≡◌, ◌≤◌, ℕ, length}
use Rattle.sc_play.specs.Contents.{new_contents}
use Rattle.sc_play.specs.Contents.{contents_at}
use Rattle.sc_world.proofs.kept_world.used.Given as goal

abbrev pub invariant-loop-count : goal.invariant-loop-count
invariant-loop-count l = record {
  few : l.count ≤ l.from;
  new : (h : ℕ) → l.count ≤ h → contents_at l.regions h ≡ new_contents h;
}

abbrev pub decreases-loop-count : goal.decreases-loop-count
decreases-loop-count l = l.count
