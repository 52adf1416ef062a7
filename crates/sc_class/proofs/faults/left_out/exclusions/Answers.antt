use Rattle.sc_class.proofs.PlaceLists.{lists_gained}
use Rattle.sc_class.proofs.faults.left_out.exclusions.Goals as goal

pub returns : goal.returns
returns c = lists_gained c.new-found.result.items c.find_left_out.new.found.items c.new-found.ensures.items c.in_ok-find_left_out.ensures
