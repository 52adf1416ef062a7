-- When what is kept of two handlers is alike.
use Rattle.std.specs.Prelude.{◌≡◌}
use Rattle.sc_handler.specs.Handlers.{Handler}

-- Two handlers have equal stages, whatever they serve and whatever is in their queues.
pub record StandAlike (x y : Handler) : Type 0 where
  pub stage : x.stage ≡ y.stage
  pub entry : x.entry ≡ y.entry
  pub answer : x.answer ≡ y.answer
  pub failure : x.failure ≡ y.failure
  pub refused : x.refused ≡ y.refused

-- They serve equal requests, and have equal queues.
pub record AreAskedAlike (x y : Handler) : Type 0 where
  pub services : x.services ≡ y.services
  pub queue : x.queue ≡ y.queue
  pub callback : x.callback ≡ y.callback
