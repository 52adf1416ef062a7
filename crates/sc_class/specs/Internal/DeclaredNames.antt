-- The names of what a class declares itself, as the code holds them.
use Rattle.sc_tree.specs.Plain.{Class}
use Rattle.sc_class.specs.declared.class_tables.declared_names.DeclaredNames.{DeclaredNames}
use Rattle.sc_class.specs.Tables.Declared.{declared_feature_names, created_by}
use Rattle.sc_class.specs.Tables.Features.{redefined_by}

abbrev pub names_of_class : Class → DeclaredNames
names_of_class c = record { features = declared_feature_names c; redefined = redefined_by c; creators = created_by c }
