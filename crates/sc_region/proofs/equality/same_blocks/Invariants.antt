use Rattle.std.proofs.Common.{◌≡◌, ℕ, map, take}
use Rattle.arrayvec.specs.ArrayVec.{ArrayVec}
use Rattle.sc_region.proofs.equality.same_blocks.Given as goal

abbrev pub invariant-loop-place : goal.invariant-loop-place
invariant-loop-place l = map (λ (b : ArrayVec ℕ). b.items) (take l.place l.blocks) ≡ map (λ (b : ArrayVec ℕ). b.items) (take l.place l.others)
