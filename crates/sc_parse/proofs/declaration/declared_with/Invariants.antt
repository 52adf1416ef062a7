use Rattle.std.proofs.Common.{◌≡◌, map}
use Rattle.sc_tree.specs.Grammar.Classes.{declared_as}
use Rattle.sc_tree.specs.View.{name_of}
use Rattle.sc_parse.specs.Reading.Reads.{declarations_in, type_in}
use Rattle.sc_parse.proofs.declaration.declared_with.Given as goal

abbrev pub invariant-loop-name : goal.invariant-loop-name
invariant-loop-name l = declarations_in l.declarations ≡ map (declared_as (type_in l.declared)) (map name_of l.yielded)
