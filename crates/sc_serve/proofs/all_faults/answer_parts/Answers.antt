use Rattle.sc_class.specs.View.{root_of}
use Rattle.sc_serve.proofs.AllFaultLemmas.{listed, unreadable}
use Rattle.sc_serve.proofs.all_faults.answer_parts.Goals as goal

-- what is refused of its system is listed
pub returns-in-Ok-clause-answer : goal.returns-in-Ok-clause-answer
returns-in-Ok-clause-answer c =
    listed c.args.source.now (root_of c.args.options.now.root) c.in-Ok.refused.items c.answer_list.result
    (rw c.text.ensures at c.in-Ok.ensures.listed) (rw c.as_slice.ensures.value at c.answer_list.ensures.answer)

-- or it spells none
pub returns-in-Err-clause-answer : goal.returns-in-Err-clause-answer
returns-in-Err-clause-answer c =
    unreadable c.args.source.now (root_of c.args.options.now.root) c.in-Err.rejection c.answer_unreadable.result
    (rw c.text.ensures at c.in-Err.ensures.refused) c.answer_unreadable.ensures.refused
