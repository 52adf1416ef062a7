use Rattle.sc_lower.specs.Lowerings.{image_of}
use Rattle.sc_serve.proofs.ChanceLemmas.{not_played, played}
use Rattle.sc_serve.proofs.chance.play_source.Goals as goal

-- its program is run
pub returns-in-Ok-clause-answer : goal.returns-in-Ok-clause-answer
returns-in-Ok-clause-answer c =
    played c.args.options.now c.args.source.now (image_of c.in-Ok.program) c.play_loaded-answer.result
    (rw c.text.ensures at c.in-Ok.ensures.loaded) c.play_loaded-answer.ensures.answer

-- or something is at fault in it
pub returns-in-Err-clause-answer : goal.returns-in-Err-clause-answer
returns-in-Err-clause-answer c =
    not_played c.args.options.now c.args.source.now c.in-Err.rejection c.answer_explained.result
    (rw c.text.ensures at c.in-Err.ensures.refused) c.answer_explained.ensures.refused c.answer_explained.ensures.unrecorded
