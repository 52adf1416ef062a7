use Rattle.std.proofs.Common.{◌≡◌, length}
use Rattle.sc_tree.specs.View.{system_of}
use Rattle.sc_class.specs.Internal.KnownFeatures.{class_of_first}
use Rattle.sc_class.proofs.KnownLemmas.{Tells}
use Rattle.sc_class.proofs.class_tables.ancestry.known_features.Given as goal

abbrev pub invariant-loop-number : goal.invariant-loop-number
invariant-loop-number l = record {
  count : length l.known.items ≡ l.number;
  declarers : Tells class_of_first (system_of l.outline.hierarchy.system.now) l.known.items l.number;
}
