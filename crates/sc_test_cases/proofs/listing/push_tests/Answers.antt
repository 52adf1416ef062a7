use Rattle.std.proofs.Common.{◌∙◌, map, sym}
use Rattle.std.specs.Option.{option_map}
use Rattle.sc_class.specs.View.{root_of}
use Rattle.sc_tree.specs.View.{class_of, name_of, system_of}
use Rattle.sc_test_cases.specs.Tests.{test_if_any}
use Rattle.sc_test_cases.proofs.TestLists.{all_given, if_chosen, next_given}
use Rattle.sc_test_cases.proofs.listing.push_tests.Goals as goal

-- the next name is given
pub loop-creator-preserved : goal.loop-creator-preserved
loop-creator-preserved c =
    next_given root_of (λ x. test_if_any (system_of c.args.system.now) (class_of c.args.class.now) (name_of x))
    c.args.class.now.creators.items c.deref-creator-items.result.now c.loop-creator.creator-index _ c.creator-item.result _ _ _
    c.deref-creator-items.ensures.value c.loop-creator-test.true c.creator-item.is c.loop-creator.invariant c.in_ok-push_test.ensures.tests

-- all are
pub returns-clause-tests : goal.returns-clause-tests
unfolding class_of
returns-clause-tests c =
    let s = system_of c.args.system.now in
    let k = class_of c.args.class.now in
    if_chosen s (option_map (λ name. name.now) c.args.chosen) k (map root_of c.args.tests.now.items) (map root_of c.loop-creator.tests.items)
    (sym c.in_ok-is_chosen.ensures ∙ c.if-not-branch.false)
    (all_given root_of (test_if_any s k) name_of c.args.class.now.creators.items c.loop-creator.creator-index (map root_of c.args.tests.now.items)
    c.loop-creator.tests.items (rw c.deref-creator-items.ensures.value at c.loop-creator-test.false) c.loop-creator.invariant)
