use Rattle.std.proofs.Common.{◌≡◌, ◌+◌, ◌≤◌, drop, map}
use Rattle.sc_rules.specs.Names.{blocks}
use Rattle.sc_typing.specs.Views.{entity_of}
use Rattle.sc_typing.proofs.declarations.names.blocks.Given as goal

abbrev pub invariant-loop-known : goal.invariant-loop-known
invariant-loop-known l = record {
  few : l.count ≤ l.known-index;
  counted : l.count + blocks (map entity_of (drop l.known-index l.names)) ≡ blocks (map entity_of l.names);
}
