use Rattle.std.proofs.Common.{◌≤◌, IfSome, length}
use Rattle.std.specs.List.{All}
use Rattle.sc_source.specs.Source as source_spec
use Rattle.sc_places.specs.Lines as spec
use Rattle.sc_places.proofs.places.Places.of.Given as goal

-- the lines from one on are in the table
abbrev pub invariant-loop : goal.invariant-loop
invariant-loop l = record {
  within : l.left ≤ length (source_spec.joined l.source);
  next : IfSome l.next (spec.Begins l.source l.left);
  lines : All (spec.IsLine l.source) l.lines.items;
}
