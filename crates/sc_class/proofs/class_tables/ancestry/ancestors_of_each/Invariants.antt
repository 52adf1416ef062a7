use Rattle.std.proofs.Common.{◌≡◌, ◌<◌, ℕ, length}
use Rattle.sc_tree.specs.View.{system_of}
use Rattle.sc_class.specs.Tables.Ancestors.{ancestors}
use Rattle.sc_class.specs.Internal.AncestorLists.{ancestors_in}
use Rattle.sc_class.proofs.class_tables.ancestry.ancestors_of_each.Given as goal

abbrev pub invariant-loop-number : goal.invariant-loop-number
invariant-loop-number l = (length l.lists.items ≡ l.number) × ((k : ℕ) → k < l.number → ancestors_in l.lists.items k ≡ ancestors (system_of l.hierarchy.system.now) k)
