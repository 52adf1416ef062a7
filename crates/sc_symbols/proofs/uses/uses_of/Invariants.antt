use Rattle.std.proofs.Common.{◌≡◌, drop}
use Rattle.sc_symbols.specs.Uses.{uses_after, uses_of}
use Rattle.sc_symbols.proofs.uses.uses_of.Given as goal

abbrev pub invariant-loop-mention : goal.invariant-loop-mention
invariant-loop-mention l = uses_of l.origin l.mentions ≡ uses_after l.origin l.uses.items (drop l.mention-index l.mentions)
