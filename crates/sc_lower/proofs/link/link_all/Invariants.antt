use Rattle.std.proofs.Common.{◌≡◌, Some, map, take}
use Rattle.sc_lower.specs.Pools.{pool_in, Grows}
use Rattle.sc_code.specs.View.{operation_of}
use Rattle.sc_routines.specs.Unlinked.{operation_in}
use Rattle.sc_lower.proofs.link.link_all.Given as goal

abbrev pub invariant-loop-sited : goal.invariant-loop-sited
invariant-loop-sited l =
    (map (operation_of (pool_in l.linker)) l.operations.items ≡ map (λ o. Some (operation_in o)) (take l.sited-index l.code))
    × Grows (pool_in l.initial.linker) (pool_in l.linker)
