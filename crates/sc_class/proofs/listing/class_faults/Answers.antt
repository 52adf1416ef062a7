use Rattle.sc_tree.specs.View.{system_of}
use Rattle.sc_class.specs.View.{root_of}
use Rattle.sc_class.proofs.ListingLemmas.{all_listed, begins_with_first}
use Rattle.sc_class.proofs.listing.class_faults.Goals as goal

pub returns-clause-listed : goal.returns-clause-listed
returns-clause-listed c =
    all_listed (system_of c.args.system.now) (root_of c.args.root.now) c.new-faults.result.items c.add_faults.new.faults.items c.sort.new.faults.items c.new-faults.ensures.items c.in_ok-add_faults.ensures c.sort.ensures.permutation c.sort.ensures.sorted

pub returns-clause-first : goal.returns-clause-first
returns-clause-first c =
    let s = system_of c.args.system.now in
    let root = root_of c.args.root.now in
    begins_with_first s root c.sort.new.faults.items
    (all_listed s root c.new-faults.result.items c.add_faults.new.faults.items c.sort.new.faults.items c.new-faults.ensures.items c.in_ok-add_faults.ensures c.sort.ensures.permutation c.sort.ensures.sorted)
