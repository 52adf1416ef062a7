use Rattle.std.proofs.Common.{◌≡◌, drop, map}
use Rattle.sc_rules.specs.Names.{entity_named}
use Rattle.sc_typing.specs.Views.{entity_of}
use Rattle.sc_typing.proofs.declarations.names.entity_named.Given as goal

abbrev pub invariant-loop-known : goal.invariant-loop-known
invariant-loop-known l = entity_named l.name (map entity_of l.names) ≡ entity_named l.name (map entity_of (drop l.known-index l.names))
