use Rattle.std.proofs.lemmas.Bool.{iff_false}
use Rattle.sc_tree.specs.View.{system_of}
use Rattle.sc_class.proofs.ListingLemmas.{passed, not_passed}
use Rattle.sc_class.proofs.listing.limit_fault.Goals as goal

pub returns-then-branch : goal.returns-then-branch
returns-then-branch c = passed (system_of c.args.outline.now.hierarchy.system.now) (c.in_ok-passes_limit.ensures.0 c.if-branch.true)

pub returns-else-branch : goal.returns-else-branch
returns-else-branch c = not_passed (system_of c.args.outline.now.hierarchy.system.now) (iff_false c.in_ok-passes_limit.ensures c.if-branch.false)
