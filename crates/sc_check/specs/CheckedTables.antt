-- What a checked system lends, as definitions see it.
use Rattle.sc_class.specs.declared.class_tables.Tables.{Tables}
use Rattle.sc_check.specs.declared.checked.Checked.{Checked}

abbrev pub tables_of : Checked → Tables
tables_of c = c.tables
