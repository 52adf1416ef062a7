use Rattle.std.proofs.Common.{◌∙◌, max}
use Rattle.sc_text.specs.declared.token.Terminal.TheVariants as terminal
use Rattle.sc_tree.proofs.ReadingSteps.{bind_ok}
use Rattle.sc_parse.specs.Reading.Reads.{closing_in}
use Rattle.sc_parse.proofs.Faults.{Gives-closed}
use Rattle.sc_parse.proofs.cursor.Parser.closing.Goals as goal

pub returns : goal.returns
returns c =
    Gives-closed closing_in terminal.End _ (c.in_ok-body.body, c.in_ok-postcondition.postcondition) (max c.in_ok-body.ensures.0 c.in_ok-postcondition.ensures.0) _ c.closed_by.result _
    (bind_ok _ _ _ c.in_ok-body.ensures.1 ∙ bind_ok _ _ _ c.in_ok-postcondition.ensures.1) c.closed_by.ensures.same c.closed_by.ensures.read
