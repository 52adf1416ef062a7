use Rattle.std.proofs.Common.{arith}
use Rattle.std.proofs.lemmas.Grind.{common_steps}
use Rattle.sc_parse.specs.Reading.Classes.{attributes}
use Rattle.sc_parse.specs.Reading.Reads.{features_in}
use Rattle.sc_parse.proofs.Lists.{Gives-made}
use Rattle.sc_parse.proofs.cursor.Parser.attributes.Goals as goal

pub returns : goal.returns
unfolding attributes
returns c = Gives-made features_in _ c.attributes_of.result _ 0 _ c.attributes_of.ensures (grind (arith, common_steps))
