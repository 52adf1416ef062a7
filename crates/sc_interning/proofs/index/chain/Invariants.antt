use Rattle.std.proofs.Common.{◌≡◌, length, take}
use Rattle.sc_interning.specs.Chains.{AreChained, hashes_in}
use Rattle.sc_interning.proofs.index.chain.Given as goal

-- the numbers below are in their lists
abbrev pub invariant-loop-number : goal.invariant-loop-number
invariant-loop-number l = record {
  chained : AreChained (length l.firsts) (take l.number l.links) l.firsts;
  hashes : hashes_in l.links ≡ hashes_in l.fn.links;
}
