use Rattle.sc_machine_laws.proofs.WithoutTests.{texts_are_without_tests}
use Rattle.sc_machine_laws.proofs.clause_laws.contracts_are_without_tests.Goals as goal

pub returns : goal.returns
returns c = texts_are_without_tests
