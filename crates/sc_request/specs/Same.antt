-- When two cores are alike.
use Rattle.std.specs.Prelude.{◌≡◌, ℕ}
use Rattle.sc_request.specs.Logs.{Center, status_for}

-- Two cores are alike at a handler: it has the same stage, services and queue in both, and the same handlers may
-- post to it and push on its waiting stack. The job that it is out with isn't looked at.
pub record AreSameAt (h : ℕ) (c d : Center) : Type 0 where
  pub status : status_for h c ≡ status_for h d
  pub handler : c.state.handlers h ≡ d.state.handlers h
  pub queue : c.state.rights.queue h ≡ d.state.rights.queue h
  pub top : c.state.rights.top h ≡ d.state.rights.top h
