use Rattle.sc_lower.specs.Lowerings.{image_of}
use Rattle.sc_serve.proofs.AnswerLemmas.{not_ran, not_run_for_memory, ran}
use Rattle.sc_serve.proofs.running.run_source.Goals as goal

-- its program is run
pub returns-in-Ok-clause-answer : goal.returns-in-Ok-clause-answer
returns-in-Ok-clause-answer g c =
    ran c.args.options.now c.args.source.now (image_of c.in-Ok.program) c.run_loaded.result
    (rw c.text.ensures at c.in-Ok.ensures.loaded) c.run_loaded.ensures.answer

-- or something is at fault in it
pub returns-in-Err-clause-answer : goal.returns-in-Err-clause-answer
returns-in-Err-clause-answer g c =
    not_ran c.args.options.now c.args.source.now c.in-Err.rejection c.answer_explained.result
    (rw c.text.ensures at c.in-Err.ensures.refused) c.answer_explained.ensures.refused c.answer_explained.ensures.unrecorded

pub returns-in-Err-clause-unrun : goal.returns-in-Err-clause-unrun
returns-in-Err-clause-unrun g c = not_run_for_memory c.answer_explained.result c.answer_explained.ensures.untold
