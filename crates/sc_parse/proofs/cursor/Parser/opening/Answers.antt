use Rattle.std.proofs.Common.{ap, sym, ◌∙◌}
use Rattle.sc_text.specs.declared.token.Terminal.TheVariants as terminal
use Rattle.sc_tree.proofs.ReadingSteps.{bind_ok}
use Rattle.sc_parse.specs.Reading.Looks.{Ahead}
use Rattle.sc_parse.specs.Reading.Assertions.{assertion}
use Rattle.sc_parse.specs.Reading.Reads.{opening_in}
use Rattle.sc_parse.proofs.Faults.{Gives-closed}
use Rattle.sc_parse.proofs.cursor.Parser.opening.Goals as goal

pub returns : goal.returns
returns c =
    Gives-closed opening_in terminal.Do _ (c.in_ok-precondition.precondition, c.in_ok-locals.locals) c.in_ok-precondition.ensures.0 _ c.closed_by.result _
    (bind_ok _ _ _ (ap (λ (ts : Ahead). assertion c.args.room terminal.Require ts) (sym c.skip.ensures) ∙ c.in_ok-precondition.ensures.1) ∙ bind_ok _ _ _ c.in_ok-locals.ensures)
    c.closed_by.ensures.same c.closed_by.ensures.read
