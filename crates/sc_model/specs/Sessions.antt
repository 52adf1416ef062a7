-- Reserving and releasing handlers, and the sessions that end with it.
use Rattle.std.specs.Prelude.{ℕ, ◌+◌, Bool, true, false, ◌&&◌, List, [], ◌∷◌, is_some}
use Rattle.sc_lockpass.specs.Rights as rights
use Rattle.sc_lockpass.specs.Rights.{is_among}
use Rattle.sc_lockpass.specs.wait_conditions.Reservations.{Standing, ends_session}
use Rattle.sc_lockpass.specs.declared.wait_conditions.session.Release.{Release}
use Rattle.sc_model.specs.Handlers.{Request, Frame, Handler, World}

abbrev pub has_frames : List Frame → Bool
has_frames [] = false
has_frames (f ∷ below) = true

abbrev pub has_requests : List Request → Bool
has_requests [] = false
has_requests (r ∷ rs) = true

-- what a reservation looks at
abbrev pub standing_of : Handler → Standing
standing_of x =
    record {
      has_frames = has_frames x.stack;
      has_failed = is_some x.failure;
      has_requests = has_requests x.queue;
      sessions = x.sessions;
    }

abbrev pub standing_in : World → ℕ → Standing
standing_in w k = standing_of (w.handlers k)

abbrev pub session_ended : Bool → Handler → Handler
session_ended false x = x
session_ended true x = record x { sessions = x.sessions + 1 }

-- the handler may post to all of these
abbrev pub reserve : ℕ → List ℕ → World → World
reserve h ks w = record w { rights = rights.reserve h ks w.rights }

-- these are released so, which ends a session of each, or none
abbrev pub release : Release → List ℕ → World → World
release how ks w = record w {
  handlers = λ k. session_ended (ends_session how && is_among k ks) (w.handlers k);
  rights = rights.release ks w.rights;
}
