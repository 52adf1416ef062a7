use Rattle.std.proofs.Common.{◌++◌, List, map, ap, ◌∙◌}
use Rattle.sc_text.specs.declared.token.Span.{Span}
use Rattle.sc_tree.specs.View.{system_of}
use Rattle.sc_class.specs.declared.fault.ClassFault.TheVariants as fault
use Rattle.sc_class.proofs.ListingLemmas.{features_gained}
use Rattle.sc_class.proofs.PlaceLists.{on_ok}
use Rattle.sc_class.proofs.listing.add_faults_of_features.Goals as goal

pub returns : goal.returns
returns c =
    on_ok c.add_placed-2.result
    (λ e. features_gained (system_of c.args.outline.now.hierarchy.system.now) c.args.faults.now.items c.add_placed.new.faults.items c.add_placed-2.new.faults.items c.in_ok-found.found.clash c.in_ok-found.found.redefinition
    c.in_ok-found.ensures.clash c.in_ok-found.ensures.redefinition
    (c.in_ok-add_placed.ensures ∙ ap (λ (ps : List Span). c.args.faults.now.items ++ map (λ p. fault.DuplicateFeature p) ps) c.as_slice.ensures)
    (e ∙ ap (λ (ps : List Span). c.add_placed.new.faults.items ++ map (λ p. fault.BadRedefinition p) ps) c.as_slice-2.ensures))
    c.add_placed-2.ensures
