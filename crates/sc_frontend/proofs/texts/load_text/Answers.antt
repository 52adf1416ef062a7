use Rattle.std.proofs.Common.{◌≡◌}
use Rattle.sc_frontend.specs.Rejection.{out_of_memory}
use Rattle.sc_frontend.proofs.TextLemmas.{err-is}
use Rattle.sc_frontend.proofs.texts.load_text.Goals as goal

pub returns-in_err-system-clause-complete : goal.returns-in_err-system-clause-complete
returns-in_err-system-clause-complete c = λ must.
    err-is (λ e. e ≡ out_of_memory) c.from_residual.result _ c.from_residual.ensures.1 (c.in_err-system.ensures.found must.tree must.spelled)

pub returns-clause-loaded : goal.returns-clause-loaded
returns-clause-loaded c = c.load_system-answer.ensures.loaded _ c.in_ok-system.ensures.read

pub returns-clause-refused : goal.returns-clause-refused
returns-clause-refused c = c.load_system-answer.ensures.refused _ c.in_ok-system.ensures.read

-- what must be run may be
pub returns-clause-complete : goal.returns-clause-complete
returns-clause-complete c = λ must. c.load_system-answer.ensures.complete (must.runnable _ c.in_ok-system.ensures.read)
