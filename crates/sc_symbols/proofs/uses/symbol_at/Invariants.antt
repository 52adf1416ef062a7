use Rattle.std.proofs.Common.{◌≡◌, drop}
use Rattle.sc_symbols.specs.Uses.{mention_at}
use Rattle.sc_symbols.proofs.uses.symbol_at.Given as goal

abbrev pub invariant-loop-mention : goal.invariant-loop-mention
invariant-loop-mention l = mention_at l.offset l.mentions ≡ mention_at l.offset (drop l.mention-index l.mentions)
