use Rattle.std.proofs.Common.{◌≡◌, ◌++◌, drop, map}
use Rattle.sc_tree.specs.View.{system_of}
use Rattle.sc_class.specs.View.{entry_of}
use Rattle.sc_class.specs.Tables.Features.{not_redefined, redefined_names}
use Rattle.sc_class.proofs.class_tables.found_features.add_inherited.Given as goal

abbrev pub invariant-loop-entry : goal.invariant-loop-entry
invariant-loop-entry l =
    map entry_of l.features.items ++ not_redefined (redefined_names (system_of l.outline.hierarchy.system.now) l.number) (map entry_of (drop l.entry-index l.above))
    ≡ map entry_of l.initial.features.items ++ not_redefined (redefined_names (system_of l.outline.hierarchy.system.now) l.number) (map entry_of l.above)
