use Rattle.std.proofs.Common.{◌≡◌, drop}
use Rattle.sc_symbols.specs.Uses.{is_among}
use Rattle.sc_symbols.proofs.uses.is_among.Given as goal

abbrev pub invariant-loop-other : goal.invariant-loop-other
invariant-loop-other l = is_among l.span l.spans ≡ is_among l.span (drop l.other-index l.spans)
