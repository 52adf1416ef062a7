use Rattle.std.proofs.Common.{◌≡◌, take}
use Rattle.sc_region.proofs.frame.copy_blocks.Given as goal

abbrev pub invariant-loop-block : goal.invariant-loop-block
invariant-loop-block l = l.copy.items ≡ take l.block-index l.blocks
