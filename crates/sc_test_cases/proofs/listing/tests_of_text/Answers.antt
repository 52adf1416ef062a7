use Rattle.sc_frontend.proofs.TextLemmas.{err-is}
use Rattle.sc_frontend.specs.Rejection.{of_classes}
use Rattle.sc_tree.specs.View.{system_of}
use Rattle.sc_test_cases.specs.Tests.{IsRefusedFor}
use Rattle.sc_test_cases.proofs.TestLists.{any_root, class_refused, unread_refused}
use Rattle.sc_test_cases.proofs.listing.tests_of_text.Goals as goal

-- a text that is no system
pub returns-in_err-system-clause-refused : goal.returns-in_err-system-clause-refused
returns-in_err-system-clause-refused c =
    err-is (IsRefusedFor c.args.text.now) c.from_residual.result c.in_err-system.field-0.0
    c.from_residual.ensures.1 (unread_refused c.args.text.now any_root c.in_err-system.field-0.0 c.in_err-system.ensures.refused)

-- a fault of its classes
pub returns-in_err-tests-clause-refused : goal.returns-in_err-tests-clause-refused
returns-in_err-tests-clause-refused c =
    err-is (IsRefusedFor c.args.text.now) c.from_residual-in_err-tests.result (of_classes c.in_err-tests.field-0.0)
    c.from_residual-in_err-tests.ensures.1
    (class_refused c.args.text.now (system_of c.in_ok-system.system) c.in_ok-system.ensures.read any_root c.in_err-tests.field-0.0 c.in_err-tests.ensures.fault)
