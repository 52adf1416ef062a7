-- The system whose classes are held in parts of the tables.
use Rattle.sc_tree.specs.Plain.{System}
use Rattle.sc_tree.specs.View.{system_of}
use Rattle.sc_class.specs.declared.class_tables.hierarchy.Hierarchy.{Hierarchy}
use Rattle.sc_class.specs.declared.class_tables.outline.Outline.{Outline}

abbrev pub in_hierarchy : Hierarchy → System
in_hierarchy h = system_of h.system.now

abbrev pub in_outline : Outline → System
in_outline o = system_of o.hierarchy.system.now
