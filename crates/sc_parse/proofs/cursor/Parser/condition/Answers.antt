use Rattle.sc_tree.proofs.ReadingSteps.{bind_ok}
use Rattle.sc_parse.specs.Reading.Reads.{expr_in}
use Rattle.sc_parse.proofs.Faults.{Gives-closed}
use Rattle.sc_parse.proofs.cursor.Parser.condition.Goals as goal

pub returns : goal.returns
returns c = Gives-closed expr_in c.args.word _ _ _ _ c.closed_by.result _ (bind_ok _ _ _ c.in_ok-condition.ensures.read) c.closed_by.ensures.same c.closed_by.ensures.read
