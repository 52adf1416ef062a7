-- Failure of a handler.
use Rattle.std.specs.Prelude.{ℕ, Bool, true, false, ◌&&◌, List, [], ◌∷◌, ◌++◌, Option, Some, None, ◌==◌, if◌then◌else◌}
use Rattle.std.specs.List.{list_any, flat_map}
use Rattle.sc_lockpass.specs.Rights.{is_handler, release_all}
use Rattle.sc_lockpass.specs.wait_conditions.Reservations.{ends_session}
use Rattle.sc_lockpass.specs.declared.wait_conditions.session.Release.TheVariants as release
use Rattle.sc_model.specs.declared.cause.Cause.{Cause}
use Rattle.sc_model.specs.Handlers.{Request, Failed, Origin, Called, Requested, Frame, Handler, World}
use Rattle.sc_model.specs.Sessions.{session_ended}
use Rattle.sc_model.specs.Answers.{answered}

abbrev pub request_of : Origin → List Request
request_of (Called c) = []
request_of (Requested r) = r ∷ []

abbrev pub to_list : Option Request → List Request
to_list None = []
to_list (Some r) = r ∷ []

-- those that the handler has in its queue, as its callback, or on its stack
abbrev pub requests_at : Handler → List Request
requests_at x = x.queue ++ to_list x.callback ++ flat_map (λ (f : Frame). request_of f.origin) x.stack

-- the handler waits for the answer to the request
abbrev pub is_waited_by : ℕ → Request → Bool
is_waited_by p r = r.is_waited && is_handler p r.poster

abbrev pub told : Bool → Handler → Handler
told false x = x
told true x = answered Failed x

-- Stack, queue, callback and answer are dropped; objects and output stay.
abbrev pub fallen : Cause → Handler → Handler
fallen why x = record x { stack = []; failure = Some why; queue = []; callback = None; answer = None }

-- The handler fails, perhaps while it takes a request. It releases every right that it holds, and each handler that
-- waits for it learns of it.
abbrev pub fails_with : ℕ → Cause → List Request → World → World
fails_with h why taken w = record w {
  handlers = λ k. session_ended (ends_session release.Failure && is_handler h (w.rights.queue k))
      (if k == h then fallen why (w.handlers k)
      else told (list_any (is_waited_by k) (taken ++ requests_at (w.handlers h))) (w.handlers k));
  rights = release_all h w.rights;
}

abbrev pub fail : ℕ → Cause → World → World
fail h why w = fails_with h why [] w
