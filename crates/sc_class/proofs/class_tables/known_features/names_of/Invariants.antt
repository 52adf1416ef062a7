use Rattle.std.proofs.Common.{◌≡◌, take, map}
use Rattle.sc_class.specs.View.{entry_of}
use Rattle.sc_class.specs.Faults.Scopes.{feature_names}
use Rattle.sc_class.proofs.class_tables.known_features.names_of.Given as goal

abbrev pub invariant-loop-entry : goal.invariant-loop-entry
invariant-loop-entry l = l.names ≡ feature_names (map entry_of (take l.entry-index l.entries))
