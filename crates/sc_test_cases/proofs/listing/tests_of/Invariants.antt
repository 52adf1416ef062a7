use Rattle.std.proofs.Common.{◌≡◌, map, take}
use Rattle.std.specs.List.{flat_map}
use Rattle.std.specs.Option.{option_map}
use Rattle.sc_class.specs.View.{root_of}
use Rattle.sc_tree.specs.View.{class_of, system_of}
use Rattle.sc_test_cases.specs.Tests.{tests_if_chosen}
use Rattle.sc_test_cases.proofs.listing.tests_of.Given as goal

-- the tests of the classes before
abbrev pub invariant-loop-class : goal.invariant-loop-class
invariant-loop-class l =
    map root_of l.tests.items
    ≡ flat_map (λ c. tests_if_chosen (system_of l.system) (option_map (λ name. name.now) l.chosen) (class_of c)) (take l.class-index l.system.classes.items)
