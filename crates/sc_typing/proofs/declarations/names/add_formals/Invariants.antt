use Rattle.std.proofs.Common.{◌≡◌, ◌++◌, drop, map}
use Rattle.sc_tree.specs.View.{declaration_of}
use Rattle.sc_rules.specs.Names.{formal_entities, formals_known}
use Rattle.sc_typing.specs.Views.{entity_of}
use Rattle.sc_class.specs.SystemIn.{system_in}
use Rattle.sc_typing.proofs.declarations.names.add_formals.Given as goal

abbrev pub invariant-loop-index : goal.invariant-loop-index
invariant-loop-index l =
    map entity_of l.names.items ++ formal_entities (system_in l.tables) (map declaration_of l.formals) l.index (map declaration_of (drop l.index l.formals))
    ≡ map entity_of l.initial.names.items ++ formals_known (system_in l.tables) (map declaration_of l.formals)
