use Rattle.sc_tree.specs.View.{system_of}
use Rattle.sc_class.proofs.ListingLemmas.{classes_gained}
use Rattle.sc_class.proofs.PlaceLists.{on_ok}
use Rattle.sc_class.proofs.listing.add_faults_of_classes.Goals as goal

pub returns : goal.returns
returns c =
    on_ok c.add_if_any.result
    (λ e. classes_gained (system_of c.args.hierarchy.now.system.now) c.in_ok-cycle_fault.field-0 c.args.faults.now.items c.add_repeated.new.faults.items c.add_unknown.new.faults.items c.add_if_any.new.faults.items
    c.in_ok-add_repeated.ensures c.in_ok-add_unknown.ensures c.in_ok-cycle_fault.ensures e)
    c.add_if_any.ensures
