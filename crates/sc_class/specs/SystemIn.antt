-- The classes that tables are of, and what they are run from.
use Rattle.sc_tree.specs.Plain.{System}
use Rattle.sc_tree.specs.View.{system_of}
use Rattle.sc_class.specs.declared.class_tables.Tables.{Tables}
use Rattle.sc_class.specs.ClassNames.{Root}
use Rattle.sc_class.specs.View.{root_of}

abbrev pub system_in : Tables → System
system_in t = system_of t.outline.hierarchy.system.now

abbrev pub root_in : Tables → Root
root_in t = root_of t.root
