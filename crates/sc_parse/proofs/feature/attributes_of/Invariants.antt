use Rattle.std.proofs.Common.{◌≡◌, map}
use Rattle.sc_tree.specs.Grammar.Classes.{attribute_of}
use Rattle.sc_tree.specs.View.{name_of}
use Rattle.sc_parse.specs.Reading.Reads.{features_in, names_in, type_in}
use Rattle.sc_parse.proofs.feature.attributes_of.Given as goal

abbrev pub invariant-loop-name : goal.invariant-loop-name
invariant-loop-name l = features_in l.features ≡ map (attribute_of (names_in l.exports.value) (type_in l.declared)) (map name_of l.yielded)
