use Rattle.std.proofs.lemmas.Result.{err_from_is_err_and}
use Rattle.sc_class.specs.SystemIn.{system_in}
use Rattle.sc_check.proofs.Judgements.{memory_alone}
use Rattle.sc_check.proofs.checked.checking.check.Goals as goal

pub returns-in_err-judge_system-clause-refused : goal.returns-in_err-judge_system-clause-refused
returns-in_err-judge_system-clause-refused c =
    let q = err_from_is_err_and c.from_residual.result c.from_residual.ensures.1 in
    rw (q.1, q.2) c.in_err-judge_system.ensures.refused

pub returns-in_err-judge_system-clause-first : goal.returns-in_err-judge_system-clause-first
returns-in_err-judge_system-clause-first c =
    let q = err_from_is_err_and c.from_residual.result c.from_residual.ensures.1 in
    rw (q.1, q.2) c.in_err-judge_system.ensures.first

-- a well-formed system isn't refused
pub returns-in_err-judge_system-clause-complete : goal.returns-in_err-judge_system-clause-complete
returns-in_err-judge_system-clause-complete c = λ well.
    let q = err_from_is_err_and c.from_residual.result c.from_residual.ensures.1 in
    rw (q.1, q.2) (memory_alone (system_in c.args.tables) well _ c.in_err-judge_system.ensures.refused)
