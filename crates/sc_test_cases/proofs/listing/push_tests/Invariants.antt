use Rattle.std.proofs.Common.{◌≡◌, ◌++◌, map, take}
use Rattle.std.specs.List.{flat_map}
use Rattle.sc_class.specs.View.{root_of}
use Rattle.sc_tree.specs.View.{class_of, name_of, system_of}
use Rattle.sc_test_cases.specs.Tests.{test_if_any}
use Rattle.sc_test_cases.proofs.listing.push_tests.Given as goal

-- and those of the names before
abbrev pub invariant-loop-creator : goal.invariant-loop-creator
invariant-loop-creator l =
    map root_of l.tests.items
    ≡ map root_of l.initial.tests.items
    ++ flat_map (λ x. test_if_any (system_of l.system) (class_of l.class) (name_of x)) (take l.creator-index l.class.creators.items)
