use Rattle.sc_format.proofs.OneList.{one-list}
use Rattle.sc_format.proofs.laws.one_list_of_elements.Goals as goal

pub returns : goal.returns
returns c = one-list
