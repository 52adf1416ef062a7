use Rattle.std.proofs.Common.{◌≡◌, ◌≤◌, ◌+◌, ◌∷◌, vec_capacity, vec_len}
use Rattle.std.specs.Prelude.{replicate}
use Rattle.sc_handler.specs.InMemory.{fresh, asked}
use Rattle.sc_request.proofs.center.places.Given as goal

-- so many places so far, and room for all
abbrev pub invariant-loop-k : goal.invariant-loop-k
invariant-loop-k l = record {
  items : l.handlers.items ≡ asked l.fn.root ∷ replicate l._k fresh;
  len : vec_len l.handlers ≡ l._k + 1;
  room : l.fn.others + 1 ≤ vec_capacity l.handlers;
}
