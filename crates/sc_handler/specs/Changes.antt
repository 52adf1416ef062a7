-- What a settlement changes of one handler: what it is asked for is taken, answers come, requests are placed and end, and
-- it fails.
use Rattle.std.specs.Prelude.{ℕ, ◌+◌, Bool, true, false, ◌&&◌, List, [], ◌∷◌, ◌++◌, Option, Some, None, map}
use Rattle.sc_lockpass.specs.Rights.{is_handler}
use Rattle.sc_model.specs.declared.cause.Cause.{Cause}
use Rattle.sc_handler.specs.Handlers.{Posted, Answer, Replied, SupplierFailed, Refused, HandlerStage, Idle, Runs, Awaits, Service, service, Handler}

-- ---- what it was asked for is taken

-- the request is served from now on
abbrev pub serves : Posted → Handler → Handler
serves p x = record x { services = service p x.stage ∷ x.services; stage = Runs }

abbrev pub takes_next : List Posted → Handler → Handler
takes_next [] x = x
takes_next (p ∷ ps) x = serves p (record x { queue = ps })

abbrev pub takes_callback : Option Posted → Handler → Handler
takes_callback None x = x
takes_callback (Some p) x = serves p (record x { callback = None })

-- the next of its queue, or its callback
abbrev pub takes : HandlerStage → Handler → Handler
takes Idle x = takes_next x.queue x
takes (Awaits k is_creation) x = takes_callback x.callback x
takes stage x = x

abbrev pub takes_answer : Handler → Handler
takes_answer x = record x { stage = Runs; answer = None }

-- ---- requests

-- the request stands as the callback, or at the queue's end
abbrev pub placed : Bool → Posted → Handler → Handler
placed true p x = record x { callback = Some p }
placed false p x = record x { queue = x.queue ++ p ∷ [] }

abbrev pub session_ended : Bool → Handler → Handler
session_ended false x = x
session_ended true x = record x { sessions = x.sessions + 1 }

-- ---- answers

-- A handler that has failed takes no answer, and one that has an answer keeps it; but that a supplier has failed it
-- always hears.
abbrev pub heard : Answer → Option Cause → Option Answer → Option Answer
heard a (Some why) old = old
heard SupplierFailed None old = Some SupplierFailed
heard (Replied v) None None = Some (Replied v)
heard (Replied v) None (Some old) = Some old
heard Refused None None = Some Refused
heard Refused None (Some old) = Some old

abbrev pub answered : Answer → Handler → Handler
answered a x = record x { answer = heard a x.failure x.answer }

-- ---- requests end

abbrev pub first_of : List Service → Option Service
first_of [] = None
first_of (e ∷ es) = Some e

abbrev pub counted_refusal : Bool → Handler → Handler
counted_refusal true x = x
counted_refusal false x = record x { refused = x.refused + 1 }

abbrev pub counted_if : Bool → Bool → Handler → Handler
counted_if false is_waited x = x
counted_if true is_waited x = counted_refusal is_waited x

-- the handler after the request that it served last
abbrev pub without_first : Bool → List Service → Handler → Handler
without_first refused [] x = x
without_first refused (e ∷ es) x =
    counted_if refused e.posted.request.is_waited (record x { stage = e.over; services = es })

-- ---- failures

abbrev pub to_list : Option Posted → List Posted
to_list None = []
to_list (Some p) = p ∷ []

-- those that the handler has in its queue, as its callback, or serves
abbrev pub requests_at : Handler → List Posted
requests_at x = x.queue ++ to_list x.callback ++ map (λ (v : Service). v.posted) x.services

-- the handler waits for the answer to the request
abbrev pub is_waited_by : ℕ → Posted → Bool
is_waited_by h p = p.request.is_waited && is_handler h p.request.poster

abbrev pub told : Bool → Handler → Handler
told false x = x
told true x = answered SupplierFailed x

abbrev pub fallen : Cause → Handler → Handler
fallen why x =
    record x { stage = Idle; services = []; entry = []; queue = []; callback = None; answer = None; failure = Some why }
