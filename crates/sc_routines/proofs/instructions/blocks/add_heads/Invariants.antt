use Rattle.std.proofs.Common.{◌≡◌, drop, map}
use Rattle.sc_tree.specs.View.{head_of}
use Rattle.sc_typing.specs.Views.{entity_of}
use Rattle.sc_code.specs.Places.{with_heads}
use Rattle.sc_code.specs.Emitted.{names_of}
use Rattle.sc_routines.proofs.instructions.blocks.add_heads.Given as goal

-- the names with those of the heads that are left
abbrev pub invariant-loop-place : goal.invariant-loop-place
invariant-loop-place l =
    with_heads (names_of (map head_of (drop l.place l.heads))) (drop l.place l.types) (map entity_of l.names.items)
    ≡ with_heads (names_of (map head_of l.heads)) l.types (map entity_of l.fn.names.items)
