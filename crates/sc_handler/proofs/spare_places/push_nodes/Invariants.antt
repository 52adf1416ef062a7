use Rattle.std.proofs.Common.{◌≤◌, length}
use Rattle.sc_handler.proofs.spare_places.push_nodes.Given as goal

abbrev pub invariant-loop-place : goal.invariant-loop-place
invariant-loop-place l = record {
  far : l._place ≤ length l.nodes;
  kept : length l.fn.nodes ≤ length l.nodes;
}
