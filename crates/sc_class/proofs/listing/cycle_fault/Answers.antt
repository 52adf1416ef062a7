use Rattle.std.proofs.Common.{subst}
use Rattle.sc_tree.specs.View.{system_of}
use Rattle.sc_class.specs.Tables.Ancestors.{CycleAt}
use Rattle.sc_class.specs.Internal.Found.{Finds}
use Rattle.sc_class.proofs.ListingLemmas.{no_cycle, one_cycle}
use Rattle.sc_class.proofs.listing.cycle_fault.Goals as goal

pub returns-in-None : goal.returns-in-None
returns-in-None c = let s = system_of c.args.hierarchy.now.system.now in no_cycle s (subst (Finds (CycleAt s)) c.in-None.is c.in_ok-cycle.ensures)

pub returns-in-Some : goal.returns-in-Some
returns-in-Some c = let s = system_of c.args.hierarchy.now.system.now in one_cycle s c.in-Some.span (subst (Finds (CycleAt s)) c.in-Some.is c.in_ok-cycle.ensures)
