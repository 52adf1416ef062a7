use Rattle.sc_class.specs.View.{root_of}
use Rattle.sc_serve.proofs.TestLemmas.{not_tested}
use Rattle.sc_serve.proofs.testing.test_from.Goals as goal

-- its program is played
pub returns-in-Ok : goal.returns-in-Ok
returns-in-Ok g c = c.test_loaded-tested.ensures (rw c.text.ensures at c.in-Ok.ensures.loaded)

-- or something is at fault in the text
pub returns-in_ok-answer-in-Err : goal.returns-in_ok-answer-in-Err
returns-in_ok-answer-in-Err g c = (
  not_tested c.args.source.now (root_of c.args.root.now) c.in-Err.rejection c.in_ok-answer-in-Err.answer
      (rw c.text.ensures at c.in-Err.ensures.refused) c.in_ok-answer-in-Err.ensures.refused,
  c.in_ok-answer-in-Err.ensures.unrecorded,
  c.in_ok-answer-in-Err.ensures.object,
)
