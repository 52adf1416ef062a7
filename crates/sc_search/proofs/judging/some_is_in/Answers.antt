use Rattle.std.proofs.Common.{◌∙◌, List, ap}
use Rattle.sc_model.specs.declared.status.Status.{Status}
use Rattle.sc_search.specs.Aims.{some_is}
use Rattle.sc_search.proofs.judging.some_is_in.Goals as goal

pub returns : goal.returns
returns c = c.some_is.ensures ∙ ap (λ (ss : List Status). some_is c.args.kind ss) (c.deref.ensures.value ∙ c.in_ok-statuses.ensures)
