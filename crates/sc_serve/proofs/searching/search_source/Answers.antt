use Rattle.sc_lower.specs.Lowerings.{image_of}
use Rattle.sc_serve.proofs.SearchLemmas.{not_searched, searched}
use Rattle.sc_serve.proofs.searching.search_source.Goals as goal

-- its program is searched
pub returns-in-Ok-clause-answer : goal.returns-in-Ok-clause-answer
returns-in-Ok-clause-answer g c =
    searched c.args.options.now c.args.source.now (image_of c.in-Ok.program) c.search_loaded-answer.result
    (rw c.text.ensures at c.in-Ok.ensures.loaded) c.search_loaded-answer.ensures.answer

-- or something is at fault in it
pub returns-in-Err-clause-answer : goal.returns-in-Err-clause-answer
returns-in-Err-clause-answer g c =
    not_searched c.args.options.now c.args.source.now c.in-Err.rejection c.answer_explained.result
    (rw c.text.ensures at c.in-Err.ensures.refused) c.answer_explained.ensures.refused c.answer_explained.ensures.unrecorded
