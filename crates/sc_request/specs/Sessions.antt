-- What a settlement does to other handlers: sessions end, answers come, requests are sent, and they learn of a
-- failure.
use Rattle.std.specs.Prelude.{◌≡◌, ◌<◌, ℕ, ◌+◌, Bool, true, false, ◌&&◌, List, Option, Some, None, ◌==◌, length, if◌then◌else◌}
use Rattle.std.specs.List.{list_any}
use Rattle.sc_lockpass.specs.Rights as rights
use Rattle.sc_lockpass.specs.Rights.{Rights, is_among, is_handler, release_all}
use Rattle.sc_lockpass.specs.Passing.{Passed, pass, passed_by, give_back}
use Rattle.sc_lockpass.specs.wait_conditions.Reservations.{ends_session}
use Rattle.sc_lockpass.specs.declared.wait_conditions.session.Release.{Release}
use Rattle.sc_lockpass.specs.declared.wait_conditions.session.Release.TheVariants as release_at
use Rattle.sc_model.specs.declared.cause.Cause.{Cause}
use Rattle.sc_model.specs.Limits.{max_queue}
use Rattle.sc_handler.specs.Handlers.{Posted, Answer, State, new_handler, put}
use Rattle.sc_handler.specs.Changes.{session_ended, placed, answered, requests_at, is_waited_by, told, fallen}

-- ---- reserving and releasing

-- the handler may post to all of these
abbrev pub reserve : ℕ → List ℕ → State → State
reserve h ks s = record s { rights = rights.reserve h ks s.rights }

-- these are released so, which ends a session of each, or none
abbrev pub release : Release → List ℕ → State → State
release how ks s = record s {
  handlers = λ k. session_ended (ends_session how && is_among k ks) (s.handlers k);
  rights = rights.release ks s.rights;
}

-- ---- requests

abbrev pub passed_if : Bool → ℕ → Rights → Option Passed
passed_if false h r = None
passed_if true h r = Some (passed_by h r)

abbrev pub passes : Bool → ℕ → ℕ → State → State
passes false h k s = s
passes true h k s = record s { rights = pass h k s.rights }

abbrev pub send : Bool → ℕ → Posted → State → State
send is_callback k p s = put k (placed is_callback p (s.handlers k)) s

-- Where the handler may push on the target's waiting stack, its request is a callback.
abbrev pub is_callback : ℕ → ℕ → State → Bool
is_callback h k s = is_handler h (s.rights.top k)

-- The target has room for a request of the handler: it is a callback, or the queue isn't full.
abbrev pub HasRoomAt : ℕ → ℕ → State → Type 0
HasRoomAt h k s = is_callback h k s ≡ false → length (s.handlers k).queue < max_queue

abbrev pub given_to : ℕ → Option ℕ → (ℕ → Option ℕ) → ℕ → Option ℕ
given_to k holder of j = if j == k then holder else of j

-- the state with a new handler, which this one may post to
abbrev pub with_handler : ℕ → ℕ → State → State
with_handler k h s = record s {
  count = s.count + 1;
  handlers = λ j. if j == k then new_handler else s.handlers j;
  rights = record { queue = given_to k (Some h) s.rights.queue; top = given_to k None s.rights.top };
}

-- ---- answers

abbrev pub answer_to : Bool → Option ℕ → Answer → State → State
answer_to true (Some p) a s = put p (answered a (s.handlers p)) s
answer_to is_waited poster a s = s

abbrev pub return_rights : Option Passed → State → State
return_rights None s = s
return_rights (Some p) s = record s { rights = give_back p s.rights }

-- The end of a request: what was passed returns, and its poster is answered, if it waits.
abbrev pub finish : Posted → Answer → State → State
finish p a s = answer_to p.request.is_waited p.request.poster a (return_rights p.passed s)

-- ---- failures

-- The handler fails. It releases every right that it holds, and each handler that waits for it learns of it.
abbrev pub fail : ℕ → Cause → State → State
fail h why s = record s {
  handlers = λ k. session_ended (ends_session release_at.Failure && is_handler h (s.rights.queue k))
      (if k == h then fallen why (s.handlers k)
      else told (list_any (is_waited_by k) (requests_at (s.handlers h))) (s.handlers k));
  rights = release_all h s.rights;
}
