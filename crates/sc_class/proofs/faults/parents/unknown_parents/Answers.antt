use Rattle.sc_class.proofs.PlaceLists.{lists_gained}
use Rattle.sc_class.proofs.faults.parents.unknown_parents.Goals as goal

pub returns : goal.returns
returns c = lists_gained c.new-found.result c.find_unknown.new.found c.new-found.ensures c.in_ok-find_unknown.ensures
