use Rattle.std.proofs.Common.{◌∙◌, sym}
use Rattle.sc_class.specs.declared.root.Root as code
use Rattle.sc_tree.specs.View.{class_of, name_of, system_of}
use Rattle.sc_test_cases.proofs.TestLists.{none_added, same_root, test_added}
use Rattle.sc_test_cases.proofs.listing.push_test.Goals as goal

-- the root of a test
pub returns-in_ok-push_root-clause-tests : goal.returns-in_ok-push_root-clause-tests
unfolding class_of
returns-in_ok-push_root-clause-tests c =
    let begins = rw (c.as_bytes.ensures.value, c.as_str.ensures.value) at c.if-not-starts_with.ensures.value in
    let root : code.Root = record { class = c.in_ok-from_str.field-0; procedure = c.in_ok-from_str-2.field-0 } in
    let class = c.in_ok-from_str.ensures.ok ∙ c.as_str-2.ensures.value in
    let procedure = c.in_ok-from_str-2.ensures.ok ∙ c.as_str-3.ensures.value in
    test_added (system_of c.args.system.now) (class_of c.args.class.now) (name_of c.args.creator.now) root _ _
    (same_root root (class_of c.args.class.now) (name_of c.args.creator.now) class procedure)
    (sym begins) (sym c.in_ok-can_run_from.ensures.root ∙ c.if-branch.true) c.in_ok-push_root.ensures

-- nothing runs from it
pub returns-else-branch-clause-tests : goal.returns-else-branch-clause-tests
unfolding class_of
returns-else-branch-clause-tests c =
    let root : code.Root = record { class = c.in_ok-from_str.field-0; procedure = c.in_ok-from_str-2.field-0 } in
    let class = c.in_ok-from_str.ensures.ok ∙ c.as_str-2.ensures.value in
    let procedure = c.in_ok-from_str-2.ensures.ok ∙ c.as_str-3.ensures.value in
    none_added (system_of c.args.system.now) (class_of c.args.class.now) (name_of c.args.creator.now) root _
    (same_root root (class_of c.args.class.now) (name_of c.args.creator.now) class procedure)
    (sym c.in_ok-can_run_from.ensures.root ∙ c.if-branch.false)
