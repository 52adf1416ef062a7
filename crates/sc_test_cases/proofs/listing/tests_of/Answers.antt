use Rattle.std.proofs.Common.{[]}
use Rattle.std.specs.Option.{option_map}
use Rattle.sc_class.specs.View.{root_of}
use Rattle.sc_tree.specs.View.{class_of, system_of}
use Rattle.sc_test_cases.specs.Tests.{tests_if_chosen}
use Rattle.sc_test_cases.proofs.TestLists.{all_given}
use Rattle.sc_test_cases.proofs.listing.tests_of.Goals as goal

-- all classes are given
pub returns-clause-tests : goal.returns-clause-tests
unfolding system_of
returns-clause-tests c =
    all_given root_of (tests_if_chosen (system_of c.args.system.now) (option_map (λ name. name.now) c.args.chosen)) class_of
    c.args.system.now.classes.items c.loop-class.class-index [] c.loop-class.tests.items
    (rw c.deref-class-items.ensures.value at c.loop-class-test.false) c.loop-class.invariant
