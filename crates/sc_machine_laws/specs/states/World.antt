-- Rights, waits and requests, without values: which handler has each right, which one gets it back, and what a step
-- changes.
use Rattle.std.specs.Prelude.{ℕ, suc, ◌==◌, ◌&&◌, List, [], ◌∷◌, ◌++◌, Option, Some, None, is_some, Bool, true, false, if◌then◌else◌}
use Rattle.std.specs.List.{list_any}
use Rattle.sc_rules.specs.declared.entity_types.entity_type.EntityType.{EntityType}
use Rattle.sc_lockpass.specs.Rights.{Rights, is_handler}
use Rattle.sc_lockpass.specs.Passing.{Passed, passed_by}
use Rattle.sc_model.specs.Values.{Reference}
use Rattle.sc_model.specs.Environments.{Binding}
use Rattle.sc_model.specs.Handlers.{Errand}
use Rattle.sc_model.specs.Tasks.{Task}

-- The grant of a right to a handler, by the waited request with which the right was passed to it, or by a
-- reservation. Requests and reservations are numbered together, each later one higher.
pub record Grant : Type 0 where
  pub holder : ℕ
  pub number : ℕ

-- What a request asks for, and the type that its poster takes, with the environment of the poster's frame. `lends`
-- says whether the poster lends all that it has reserved. `left` are the tasks left of each routine on its stack,
-- the topmost first.
pub record Asked : Type 0 where
  pub poster : ℕ
  pub target : Reference
  pub errand : Errand
  pub environment : List Binding
  pub takes : Option EntityType
  pub lends : Bool
  pub left : List (List Task)

-- the wait of a frame for the answer to the request of this number
pub record Wait : Type 0 where
  pub number : ℕ
  pub target : ℕ
  pub passing : Bool
  pub asked : Option Asked

-- The root request counts as one of handler 0 that no handler waits for.
pub record Request : Type 0 where
  pub number : ℕ
  pub poster : ℕ
  pub waited : Bool
  pub passed : Option Passed
  pub asked : Option Asked

-- a handler that was reserved, by the reservation of this number
pub record Reservation : Type 0 where
  pub handler : ℕ
  pub number : ℕ

-- A part of a stack, with what it newly reserved: a routine, an open separate block, or the creation of a handler
-- until that handler is released. The last two are above their routine, as a call on the own handler is.
pub record Frame : Type 0 where
  pub origin : Option Request  -- the request that began the routine
  pub reserved : List Reservation  -- the newest first
  -- past its reserve step: the other handlers of its attached separate formals, or of the names of its block
  pub needs : List ℕ
  pub waits : Option Wait

pub data Answer : Type 0 where
  Reply : Answer
  Refused : Answer
  SupplierFailed : Answer

pub record Handler : Type 0 where
  pub stack : List Frame  -- the topmost first
  pub requests : List Request  -- its queue, the next first
  pub callback : Option Request
  pub answer : Option Answer
  pub failed : Bool

-- For each handler, the trail of the right to post to it (`queue`), and that of the right to push on its waiting
-- stack (`top`). A trail lists the holder of the right first, then the holder to which it returns, and so on.
pub record World : Type 0 where
  pub handlers : ℕ → Handler
  pub queue : ℕ → List Grant
  pub top : ℕ → List Grant
  pub next : ℕ  -- the number of the next request or reservation
  pub asks : Option Asked  -- what the next request asks for

-- ---- trails

abbrev pub put : {X : Type 0} → ℕ → X → (ℕ → X) → ℕ → X
put h x f k = if k == h then x else f k

-- the holder of the right: the first of the trail
abbrev pub holder : List Grant → Option ℕ
holder [] = None
holder (e ∷ t) = Some e.holder

-- the holders of all rights
abbrev pub rights_of : World → Rights
rights_of w = record { queue = λ k. holder (w.queue k); top = λ k. holder (w.top k) }

-- The handler has the right.
abbrev pub has : ℕ → List Grant → Bool
has h t = is_handler h (holder t)

-- If the handler has the right, it is granted to another.
abbrev pub passed_on : ℕ → Grant → List Grant → List Grant
passed_on h e t = if has h t then e ∷ t else t

-- The right was passed to its holder with the request `n`.
abbrev pub came_by : ℕ → List Grant → Bool
came_by n [] = false
came_by n (e ∷ t) = e.number == n

abbrev pub without_first : List Grant → List Grant
without_first [] = []
without_first (e ∷ t) = t

-- What was passed with the request `n` returns.
abbrev pub back : ℕ → List Grant → List Grant
back n t = if came_by n t then without_first t else t

-- When a handler fails, its rights have no holder any more.
abbrev pub fallen : ℕ → List Grant → List Grant
fallen h t = if has h t then [] else t

-- Every right of the handler is granted to another, and so is the right to push on its own waiting stack.
abbrev pub pass_all : ℕ → Grant → World → World
pass_all h e w = record w {
  queue = λ k. passed_on h e (w.queue k);
  top = λ k. if k == h then e ∷ w.top k else passed_on h e (w.top k);
}

abbrev pub give_back : ℕ → World → World
give_back n w = record w { queue = λ k. back n (w.queue k); top = λ k. back n (w.top k) }

abbrev pub give_back_if : Bool → ℕ → World → World
give_back_if true n w = give_back n w
give_back_if false n w = w

-- ---- posting and asking

-- The topmost frame waits.
abbrev pub waiting : Wait → List Frame → List Frame
waiting v [] = []
waiting v (f ∷ fs) = record f { waits = Some v } ∷ fs

abbrev pub wait : Wait → Handler → Handler
wait v h = record h { stack = waiting v h.stack }

-- The request becomes the callback, or the last of the queue.
abbrev pub arrive : Bool → Request → Handler → Handler
arrive true r h = record h { callback = Some r }
arrive false r h = record h { requests = h.requests ++ r ∷ [] }

abbrev pub passed_if : Bool → ℕ → World → Option Passed
passed_if true h w = Some (passed_by h (rights_of w))
passed_if false h w = None

-- a request that the handler waits for, with lock passing or without
abbrev pub request : ℕ → Bool → World → Request
request h b w = record { number = w.next; poster = h; waited = true; passed = passed_if b h w; asked = w.asks }

-- The request was posted with lock passing.
abbrev pub passes : Request → Bool
passes r = is_some r.passed

abbrev pub land : Bool → ℕ → Request → World → World
land b k r w = record w { handlers = put k (arrive b r (w.handlers k)) w.handlers }

-- `h` posts to `k`, and goes on.
abbrev pub post : ℕ → ℕ → World → World
post h k w = record w {
  handlers =
      put k (arrive false (record { number = w.next; poster = h; waited = false; passed = None; asked = w.asks })
      (w.handlers k))
      w.handlers;
  next = suc w.next;
}

abbrev pub begin_wait : ℕ → Wait → World → World
begin_wait h v w = record w { handlers = put h (wait v (w.handlers h)) w.handlers; next = suc w.next }

-- `h` asks `k`. If `h` may push on the waiting stack of `k`, its request is a callback.
abbrev pub ask : ℕ → ℕ → World → World
ask h k w =
    land (has h (w.top k)) k (request h false w)
    (begin_wait h (record { number = w.next; target = k; passing = false; asked = w.asks }) w)

abbrev pub ask_passing : ℕ → ℕ → World → World
ask_passing h k w =
    land (has h (w.top k)) k (request h true w)
    (pass_all h (record { holder = k; number = w.next })
    (begin_wait h (record { number = w.next; target = k; passing = true; asked = w.asks }) w))

-- ---- taking a request, an own call, taking an answer

-- the routine of the request, on this stack
abbrev pub begun : Request → List Frame → List Frame
begun r fs = record { origin = Some r; reserved = []; needs = []; waits = None } ∷ fs

abbrev pub rest_of : List Request → List Request
rest_of [] = []
rest_of (r ∷ rs) = rs

-- The handler takes the first request of its queue.
abbrev pub take_request : ℕ → Request → World → World
take_request h r w = record w {
  handlers =
      put h (record (w.handlers h) { stack = begun r (w.handlers h).stack; requests = rest_of (w.handlers h).requests })
      w.handlers;
}

abbrev pub take_callback : ℕ → Request → World → World
take_callback h r w = record w {
  handlers = put h (record (w.handlers h) { stack = begun r (w.handlers h).stack; callback = None }) w.handlers;
}

-- The handler calls one of its own routines, opens a separate block, or is about to create a handler.
abbrev pub enter : ℕ → World → World
enter h w = record w {
  handlers =
      put h (record (w.handlers h) {
        stack = record { origin = None; reserved = []; needs = []; waits = None } ∷ (w.handlers h).stack;
      }) w.handlers;
}

-- The topmost frame goes on.
abbrev pub resumed : List Frame → List Frame
resumed [] = []
resumed (f ∷ fs) = record f { waits = None } ∷ fs

abbrev pub take_answer : ℕ → World → World
take_answer h w =
    record w {
      handlers = put h
          (record (w.handlers h) { stack = resumed (w.handlers h).stack; answer = None }) w.handlers;
    }

-- ---- reserving and releasing

-- The topmost frame gets these lists.
abbrev pub relisted : List Reservation → List ℕ → List Frame → List Frame
relisted r n [] = []
relisted r n (f ∷ fs) = record f { reserved = r; needs = n } ∷ fs

abbrev pub relist : ℕ → List Reservation → List ℕ → ℕ → World → World
relist h r n next w = record w {
  handlers = put h (record (w.handlers h) { stack = relisted r n (w.handlers h).stack }) w.handlers;
  next = next;
}

-- `h` has the right to post to `k`, by the reservation `i`.
abbrev pub grant : ℕ → ℕ → ℕ → World → World
grant h k i w = record w { queue = put k (record { holder = h; number = i } ∷ []) w.queue }

-- No handler has the right to post to `k`.
abbrev pub drop : ℕ → World → World
drop k w = record w { queue = put k [] w.queue }

abbrev pub reservations : List Frame → List Reservation
reservations [] = []
reservations (f ∷ fs) = f.reserved

-- The topmost frame reserves `k`. Its needs are set only when it has reserved all.
abbrev pub reserve : ℕ → ℕ → World → World
reserve h k w =
    grant h k w.next
    (relist h (record { handler = k; number = w.next } ∷ reservations (w.handlers h).stack) [] (suc w.next) w)

-- Past its reserve step, the topmost frame needs the handlers `ks`.
abbrev pub settle : ℕ → List ℕ → World → World
settle h ks w = relist h (reservations (w.handlers h).stack) ks w.next w

-- The topmost frame releases `k` and keeps the other reservations of its list. It needs nothing any more.
abbrev pub release : ℕ → ℕ → List Reservation → World → World
release h k rs w = drop k (relist h rs [] w.next w)

-- ---- the end of a frame

abbrev pub popped : List Frame → List Frame
popped [] = []
popped (f ∷ fs) = fs

abbrev pub pop : ℕ → World → World
pop h w = record w { handlers = put h (record (w.handlers h) { stack = popped (w.handlers h).stack }) w.handlers }

-- A handler that has failed takes no answer, and one that has an answer keeps it.
abbrev pub heard : Answer → Bool → Option Answer → Option Answer
heard a true old = old
heard a false None = Some a
heard a false (Some old) = Some old

abbrev pub replied : Answer → Handler → Handler
replied a g = record g { answer = heard a g.failed g.answer }

abbrev pub reply : Answer → ℕ → World → World
reply a p w = record w { handlers = put p (replied a (w.handlers p)) w.handlers }

-- The topmost frame and its request end: what was passed returns, and the poster is answered.
abbrev pub finish : Answer → ℕ → Request → World → World
finish a h r w = give_back_if (passes r) r.number (reply a r.poster (pop h w))

-- ---- failure

-- A handler learns of a failure. This overrides any answer, but a handler that has failed takes none.
abbrev pub told : Bool → Handler → Handler
told false g = g
told true g = record g { answer = if g.failed then g.answer else Some SupplierFailed }

abbrev pub ruined : Handler → Handler
ruined g = record g { stack = []; requests = []; callback = None; answer = None; failed = true }

abbrev pub is_waited_by : ℕ → Request → Bool
is_waited_by p r = r.waited && r.poster == p

-- the requests at a handler: its callback, those of its frames, its queue
abbrev pub and_this : Option Request → List Request → List Request
and_this None rs = rs
and_this (Some r) rs = r ∷ rs

abbrev pub and_begun : List Frame → List Request → List Request
and_begun [] rs = rs
and_begun (f ∷ fs) rs = and_this f.origin (and_begun fs rs)

abbrev pub requests_of : Handler → List Request
requests_of g = and_this g.callback (and_begun g.stack g.requests)

-- The handler fails and loses all that it does and has. The posters of the waited requests at it learn of the
-- failure.
abbrev pub fail : ℕ → World → World
fail h w = record w {
  handlers = λ k.
      if k == h then ruined (w.handlers k)
      else told (list_any (is_waited_by k) (requests_of (w.handlers h))) (w.handlers k);
  queue = λ k. fallen h (w.queue k);
  top = λ k. fallen h (w.top k);
}
