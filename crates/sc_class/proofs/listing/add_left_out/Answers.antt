use Rattle.std.proofs.Common.{◌++◌, List, map, ap, ◌∙◌}
use Rattle.sc_class.specs.declared.faults.left_out.Exclusion.{Exclusion}
use Rattle.sc_class.specs.Internal.Listing.{left_out_fault}
use Rattle.sc_class.proofs.ListingLemmas.{gains_mapped}
use Rattle.sc_class.proofs.PlaceLists.{on_ok}
use Rattle.sc_class.proofs.listing.add_left_out.Goals as goal

pub returns : goal.returns
returns c =
    on_ok c.add_exclusions.result
    (λ e. gains_mapped left_out_fault c.in_ok-found.found.items c.args.faults.now.items c.add_exclusions.new.faults.items c.in_ok-found.ensures
    (e ∙ ap (λ (xs : List Exclusion). c.args.faults.now.items ++ map left_out_fault xs) c.deref.ensures.value))
    c.add_exclusions.ensures
