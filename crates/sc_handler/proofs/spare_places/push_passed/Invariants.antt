use Rattle.std.proofs.Common.{◌≤◌}
use Rattle.std.specs.Prelude.{vec_len}
use Rattle.sc_handler.proofs.spare_places.push_passed.Given as goal

abbrev pub invariant-loop-place : goal.invariant-loop-place
invariant-loop-place l = record {
  far : l._place ≤ vec_len l.passed;
  kept : vec_len l.fn.passed ≤ vec_len l.passed;
}
