use Rattle.std.proofs.Common.{◌++◌, List, map, ap, ◌∙◌}
use Rattle.sc_text.specs.declared.token.Span.{Span}
use Rattle.sc_class.specs.declared.fault.ClassFault.TheVariants as fault
use Rattle.sc_class.proofs.ListingLemmas.{gains_mapped}
use Rattle.sc_class.proofs.PlaceLists.{on_ok}
use Rattle.sc_class.proofs.listing.add_unknown.Goals as goal

pub returns : goal.returns
returns c =
    on_ok c.add_placed.result
    (λ e. gains_mapped (λ (p : Span). fault.UnknownParent p) c.in_ok-places.places c.args.faults.now.items c.add_placed.new.faults.items c.in_ok-places.ensures
    (e ∙ ap (λ (ps : List Span). c.args.faults.now.items ++ map (λ p. fault.UnknownParent p) ps) c.as_slice.ensures))
    c.add_placed.ensures
