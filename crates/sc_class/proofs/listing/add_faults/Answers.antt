use Rattle.std.proofs.Common.{subst, ◌∙◌}
use Rattle.sc_tree.specs.declared.system.System as tree
use Rattle.sc_tree.specs.View.{system_of}
use Rattle.sc_class.specs.View.{root_of}
use Rattle.sc_class.specs.Internal.Listing.{OfClasses, OfOutline}
use Rattle.sc_class.specs.Internal.Places.{Gains}
use Rattle.sc_class.proofs.ListingLemmas.{fails_gained}
use Rattle.sc_class.proofs.PlaceLists.{on_ok}
use Rattle.sc_class.proofs.listing.add_faults.Goals as goal

pub returns : goal.returns
returns c =
    let root = root_of c.args.root.now in
    on_ok c.add_other_faults.result
    (λ l. fails_gained (system_of c.args.system.now) root c.args.faults.now.items c.add_faults_of_classes.new.faults.items c.add_other_faults.new.faults.items
    (subst (λ (t : tree.System). Gains (OfClasses (system_of t)) c.args.faults.now.items c.add_faults_of_classes.new.faults.items) c.in_ok-hierarchy.ensures c.in_ok-add_faults_of_classes.ensures)
    (subst (λ (t : tree.System). Gains (OfOutline (system_of t) root) c.add_faults_of_classes.new.faults.items c.add_other_faults.new.faults.items) (c.in_ok-outline.ensures ∙ c.in_ok-hierarchy.ensures) l))
    c.add_other_faults.ensures
