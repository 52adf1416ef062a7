use Rattle.std.proofs.Common.{arith, max}
use Rattle.std.proofs.lemmas.Grind.{common_steps}
use Rattle.sc_parse.proofs.cursor.Parser.members.Goals as goal

pub returns-clause-read : goal.returns-clause-read
returns-clause-read c = (max c.in_ok-features.ensures.read.0 c.in_ok-invariant.ensures.0, grind (arith, common_steps))
