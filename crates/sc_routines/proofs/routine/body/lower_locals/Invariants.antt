use Rattle.std.proofs.Common.{◌≡◌, ◌++◌, drop, length, map}
use Rattle.sc_tree.specs.View.{declaration_of}
use Rattle.sc_class.specs.SystemIn.{system_in}
use Rattle.sc_typing.specs.Views.{entity_of}
use Rattle.sc_model.specs.Environments.{locals_bound, scope_of}
use Rattle.sc_code.specs.Emitted.{declare_code}
use Rattle.sc_routines.proofs.routine.body.lower_locals.Given as goal

-- the locals so far, and those that are left, are all of them
abbrev pub invariant-loop-local : goal.invariant-loop-local
invariant-loop-local l = record {
  names : map entity_of l.names.items ++ scope_of (locals_bound (system_in l.tables) (map declaration_of l.formals) (map declaration_of (drop l.local-index l.locals)))
      ≡ map entity_of l.fn.names.items ++ scope_of (locals_bound (system_in l.tables) (map declaration_of l.formals) (map declaration_of l.locals));
  code : l.code ++ declare_code (length (map entity_of l.names.items)) (locals_bound (system_in l.tables) (map declaration_of l.formals) (map declaration_of (drop l.local-index l.locals)))
      ≡ l.fn.code ++ declare_code (length (map entity_of l.fn.names.items)) (locals_bound (system_in l.tables) (map declaration_of l.formals) (map declaration_of l.locals));
}
