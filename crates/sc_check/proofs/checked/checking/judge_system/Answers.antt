use Rattle.std.proofs.lemmas.Result.{err_from_is_err_and}
use Rattle.sc_typing.specs.Marks.{is_marked}
use Rattle.sc_class.specs.SystemIn.{system_in}
use Rattle.sc_check.proofs.Judgements.{passed, passed_checked, refused, first, memory_is_true, memory_is_first}
use Rattle.sc_check.proofs.checked.checking.judge_system.Goals as goal

-- the search for pure functions fails where memory runs out alone
pub returns-in_err-purity-clause-refused : goal.returns-in_err-purity-clause-refused
returns-in_err-purity-clause-refused c =
    let q = err_from_is_err_and c.from_residual.result c.from_residual.ensures.1 in
    rw (q.1, q.2) (memory_is_true (system_in c.args.tables.now) _ c.in_err-purity.ensures.memory)

pub returns-in_err-purity-clause-first : goal.returns-in_err-purity-clause-first
returns-in_err-purity-clause-first c =
    let q = err_from_is_err_and c.from_residual.result c.from_residual.ensures.1 in
    rw (q.1, q.2) (memory_is_first (system_in c.args.tables.now) _ c.in_err-purity.ensures.memory)

pub returns-clause-accepted : goal.returns-clause-accepted
returns-clause-accepted c =
    passed (system_in c.args.tables.now) (is_marked c.in_ok-purity.purity) c.judge_classes.result c.in_ok-purity.ensures.pure c.judge_classes.ensures

pub returns-clause-checked : goal.returns-clause-checked
returns-clause-checked c =
    passed_checked (system_in c.args.tables.now) (is_marked c.in_ok-purity.purity) c.judge_classes.result c.in_ok-purity.ensures.pure c.judge_classes.ensures

pub returns-clause-refused : goal.returns-clause-refused
returns-clause-refused c =
    refused (system_in c.args.tables.now) (is_marked c.in_ok-purity.purity) c.judge_classes.result c.in_ok-purity.ensures.pure c.judge_classes.ensures

pub returns-clause-first : goal.returns-clause-first
returns-clause-first c =
    first (system_in c.args.tables.now) (is_marked c.in_ok-purity.purity) c.judge_classes.result c.in_ok-purity.ensures.pure c.judge_classes.ensures
