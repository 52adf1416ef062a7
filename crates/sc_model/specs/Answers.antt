-- Answers to requests that are waited for, and the end of a request.
use Rattle.std.specs.Prelude.{ℕ, Bool, true, Option, Some, None}
use Rattle.sc_lockpass.specs.Passing.{Passed, give_back}
use Rattle.sc_model.specs.declared.cause.Cause.{Cause}
use Rattle.sc_model.specs.Handlers.{Request, Answer, Reply, Failed, Refused, Handler, World, put}

-- A handler that has failed takes no answer, and one that has an answer keeps it; but that a supplier has failed it
-- always hears.
abbrev pub heard : Answer → Option Cause → Option Answer → Option Answer
heard a (Some why) old = old
heard Failed None old = Some Failed
heard (Reply v) None None = Some (Reply v)
heard (Reply v) None (Some old) = Some old
heard Refused None None = Some Refused
heard Refused None (Some old) = Some old

abbrev pub answered : Answer → Handler → Handler
answered a x = record x { answer = heard a x.failure x.answer }

abbrev pub answer_to : Bool → Option ℕ → Answer → World → World
answer_to true (Some p) a w = put p (answered a (w.handlers p)) w
answer_to is_waited poster a w = w

abbrev pub return_rights : Option Passed → World → World
return_rights None w = w
return_rights (Some p) w = record w { rights = give_back p w.rights }

-- The end of a request: what was passed returns, and its poster is answered, if it waits.
abbrev pub finish : Request → Answer → World → World
finish r a w = answer_to r.is_waited r.poster a (return_rights r.passed w)
