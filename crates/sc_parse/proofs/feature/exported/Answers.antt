use Rattle.std.proofs.Common.{List, ap, ◌∙◌}
use Rattle.sc_tree.specs.Plain as plain
use Rattle.sc_parse.proofs.Views.{feature_of-is}
use Rattle.sc_parse.specs.Reading.Reads.{feature_with, name_in, names_in}
use Rattle.sc_parse.proofs.feature.exported.Goals as goal

pub returns : goal.returns
returns c = feature_of-is _ ∙ ap (λ (es : List plain.Name). feature_with es (name_in c.args.name) c.args.kind) (ap names_in c.in_ok-exports.ensures.cases)
