use Rattle.std.proofs.Common.{◌≡◌, ◌++◌, ◌∷◌, [], map, string_bytes, take}
use Rattle.std.specs.List.{flat_map}
use Rattle.sc_warnings.proofs.instructions.names_in_block.Given as goal

-- and the names of the heads before
abbrev pub invariant-loop-head : goal.invariant-loop-head
invariant-loop-head l =
    map (λ name. name.now) l.inside.items
    ≡ map (λ name. name.now) l.names ++ flat_map (λ head. string_bytes head.name.text.value ∷ []) (take l.head-index l.heads)
