-- What stands before the features of a class, as it is read.
use Rattle.std.specs.Prelude.{List}
use Rattle.sc_tree.specs.Plain.{Name, Parent}
use Rattle.sc_parse.specs.declared.class.Header.{Header}
use Rattle.sc_parse.specs.Reading.Reads.{name_in, names_in, parents_in}

abbrev pub header_in : Header → Name × (List Parent × List Name)
header_in h = (name_in h.name, (parents_in h.parents, names_in h.creators))
