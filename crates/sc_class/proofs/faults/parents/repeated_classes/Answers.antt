use Rattle.sc_class.proofs.PlaceLists.{lists_gained}
use Rattle.sc_class.proofs.faults.parents.repeated_classes.Goals as goal

pub returns : goal.returns
returns c = lists_gained c.new-found.result c.find_repeated.new.found c.new-found.ensures c.in_ok-find_repeated.ensures
