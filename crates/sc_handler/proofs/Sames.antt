-- What is kept of two handlers, part by part.
use Rattle.std.proofs.Common.{◌≡◌, ap}
use Rattle.sc_handler.specs.Handlers.{Handler}
use Rattle.sc_handler.specs.Same.{AreAskedAlike, StandAlike}

-- handlers that stand the same, are asked for the same, and have as many sessions, are the same
pub same_alike : (x y : Handler) → StandAlike x y → AreAskedAlike x y → x.sessions ≡ y.sessions → x ≡ y
same_alike x y standing asked sessions = λ i. record {
  stage = standing.stage i;
  services = asked.services i;
  entry = standing.entry i;
  queue = asked.queue i;
  callback = asked.callback i;
  answer = standing.answer i;
  failure = standing.failure i;
  sessions = sessions i;
  refused = standing.refused i;
}

pub asked_same : (x y : Handler) → x ≡ y → AreAskedAlike x y
asked_same x y e = record {
  services = ap (λ (z : Handler). z.services) e;
  queue = ap (λ (z : Handler). z.queue) e;
  callback = ap (λ (z : Handler). z.callback) e;
}
