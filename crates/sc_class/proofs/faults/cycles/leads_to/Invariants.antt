use Rattle.std.proofs.Common.{◌≡◌, length}
use Rattle.sc_tree.specs.View.{system_of}
use Rattle.sc_class.specs.Internal.Search.{IsSearch, left_over}
use Rattle.sc_class.proofs.faults.cycles.leads_to.Given as goal

abbrev pub invariant-loop-class : goal.invariant-loop-class
invariant-loop-class l = (length l.search.seen.items ≡ length l.hierarchy.system.now.classes.items) × IsSearch (system_of l.hierarchy.system.now) l.target l.start l.search.seen.items l.search.todo.items

abbrev pub decreases-loop-class : goal.decreases-loop-class
decreases-loop-class l = left_over l.search.seen.items l.search.todo.items
