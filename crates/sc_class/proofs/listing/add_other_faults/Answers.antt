use Rattle.sc_tree.specs.View.{system_of}
use Rattle.sc_class.specs.View.{root_of}
use Rattle.sc_class.proofs.ListingLemmas.{outline_gained}
use Rattle.sc_class.proofs.PlaceLists.{on_ok}
use Rattle.sc_class.proofs.listing.add_other_faults.Goals as goal

pub returns : goal.returns
returns c =
    on_ok c.add_left_out.result
    (λ l. outline_gained (system_of c.args.outline.now.hierarchy.system.now) (root_of c.args.root.now) c.in_ok-root_fault.field-0 c.in_ok-limit_fault.field-0 c.args.faults.now.items c.add_faults_of_features.new.faults.items
    c.add_if_any.new.faults.items c.add_if_any-2.new.faults.items c.add_left_out.new.faults.items
    c.in_ok-add_faults_of_features.ensures c.in_ok-root_fault.ensures c.in_ok-add_if_any.ensures c.in_ok-limit_fault.ensures c.in_ok-add_if_any-2.ensures l)
    c.add_left_out.ensures
