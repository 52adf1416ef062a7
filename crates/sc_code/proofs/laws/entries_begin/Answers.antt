use Rattle.sc_code.proofs.TypingEntries.{entries_begin}
use Rattle.sc_code.proofs.laws.entries_begin.Goals as goal

pub returns : goal.returns
returns c = entries_begin
