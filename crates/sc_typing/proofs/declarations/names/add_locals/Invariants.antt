use Rattle.std.proofs.Common.{◌≡◌, ◌++◌, take, map}
use Rattle.sc_tree.specs.View.{declaration_of}
use Rattle.sc_rules.specs.Names.{locals_known}
use Rattle.sc_typing.specs.Views.{entity_of}
use Rattle.sc_class.specs.SystemIn.{system_in}
use Rattle.sc_typing.proofs.declarations.names.add_locals.Given as goal

abbrev pub invariant-loop-local : goal.invariant-loop-local
invariant-loop-local l =
    map entity_of l.names.items ≡ map entity_of l.initial.names.items ++ locals_known (system_in l.tables) (map declaration_of l.formals) (map declaration_of (take l.local-index l.locals))
