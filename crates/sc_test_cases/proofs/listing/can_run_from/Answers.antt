use Rattle.sc_class.specs.View.{root_of}
use Rattle.sc_tree.specs.View.{system_of}
use Rattle.sc_test_cases.proofs.TestLists.{not_ran, ran}
use Rattle.sc_test_cases.proofs.listing.can_run_from.Goals as goal
use Rattle.sc_test_cases.proofs.listing.can_run_from.Goals.{in-Ok, in-Err-NoRoot, in-Err}

-- tables have a root, and where it is at fault there is none
pub returns-clause-root : goal.returns-clause-root
returns-clause-root c =
    elim c.match-tables.branch [
      | in-Ok w ↦ rw w.result-is (ran (system_of c.args.system.now) (root_of c.args.root.now) c.tables.result _ w.in-Ok.is c.tables.ensures.faultless)
      | in-Err-NoRoot w ↦ rw w.result-is (not_ran (system_of c.args.system.now) (root_of c.args.root.now) c.tables.result w.in-Err-NoRoot.field-0 w.in-Err-NoRoot.is w.in-Err-NoRoot.field-0-is c.tables.ensures.fault)
      | in-Err w ↦ rw w.result-is tt
    ]
