use Rattle.std.proofs.Common.{ap}
use Rattle.sc_lockpass.specs.Rights.{Rights}
use Rattle.sc_request.proofs.sessions.release_one.Goals as goal

pub returns-in-Some-clause-queue : goal.returns-in-Some-clause-queue
returns-in-Some-clause-queue c = λ k. ap (λ (r : Rights). r.queue k) c.release.ensures.rights

pub returns-in-Some-clause-top : goal.returns-in-Some-clause-top
returns-in-Some-clause-top c = λ k. ap (λ (r : Rights). r.top k) c.release.ensures.rights
