use Rattle.std.proofs.Common.{arith}
use Rattle.std.proofs.lemmas.Grind.{common_steps}
use Rattle.sc_parse.specs.Reading.Classes.{declaration}
use Rattle.sc_parse.specs.Reading.Reads.{declarations_in}
use Rattle.sc_parse.proofs.Lists.{Takes-made}
use Rattle.sc_parse.proofs.cursor.Parser.declaration.Goals as goal

pub returns : goal.returns
unfolding declaration
returns c = Takes-made declarations_in _ c.declared_with.result _ _ c.declared_with.ensures (grind (arith, common_steps))
