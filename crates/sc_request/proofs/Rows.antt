-- Turns of several handlers, with the jobs that they begin with and what must come of them.
use Rattle.std.proofs.Common.{ℕ, ◌≡◌, List, [], ◌∷◌, Some, None, refl}
use Rattle.std.specs.Prelude.{ℤ, pos}
use Rattle.sc_model.specs.declared.cause.Cause.TheVariants.{Check, Precondition, SupplierFailed, TooManyHandlers, NotHeld, BadCode}
use Rattle.sc_model.specs.declared.status.Status.TheVariants.{Failed, Busy, Free}
use Rattle.sc_region.specs.declared.value.Value.{Value}
use Rattle.sc_region.specs.declared.value.Value.TheVariants.{Integer}
use Rattle.sc_region.specs.declared.job.Want.{Want}
use Rattle.sc_region.specs.declared.job.Want.TheVariants as want
use Rattle.sc_request.proofs.Plays.{Nothing, Takes, Creates, Replies, Fails, IsRefused, Granted, Made, Goes, jobs, played, outcome, root, object, goes, reserves, posts, asks, asks_passing, creates, creates_passing, releases, waits, ends, answers, refuses}

abbrev number : ℤ → Value
number z = Integer z

-- ---- posts and queries

-- Handler 0 makes a cell, reserves it, sets it and prints its item.
abbrev setting : List (ℕ × Want)
setting = goes 0 ∷ creates 0 1 (number (pos 4) ∷ []) ∷ reserves 0 (1 ∷ []) ∷ goes 0
    ∷ goes 1 ∷ ends 1 [] ∷ goes 0 ∷ posts 0 1 7 (number (pos 5) ∷ []) ∷ asks 0 1 8 []
    ∷ goes 1 ∷ ends 1 [] ∷ answers 1 (number (pos 5)) ∷ goes 0 ∷ goes 0 ∷ releases 0 (1 ∷ []) ∷ ends 0 [] ∷ []

-- the fourth turn changes nothing: the queue of handler 1 isn't empty
pub setting_jobs :
    jobs 64 setting root ≡ Creates 0 ∷ Goes ∷ Made 1 ∷ Nothing
    ∷ Creates 1 ∷ Goes ∷ Granted (1 ∷ []) ∷ Goes ∷ Goes
    ∷ Takes 1 7 ∷ Goes ∷ Takes 1 8 ∷ Replies (Some (number (pos 5))) ∷ Goes ∷ Goes ∷ Goes ∷ []
setting_jobs = refl

pub setting_ends : outcome (played 64 setting root) ≡ (Free, 0) ∷ (Free, 0) ∷ []
setting_ends = refl

-- ---- lock passing and callbacks

-- Handler 0 passes its rights to a worker, which calls it back, first by a command and then by a query.
abbrev calling_back : List (ℕ × Want)
calling_back = goes 0 ∷ creates 0 1 [] ∷ reserves 0 (1 ∷ []) ∷ ends 1 [] ∷ goes 0 ∷ asks_passing 0 1 7 (object 0 0 ∷ [])
    ∷ reserves 1 (0 ∷ []) ∷ goes 1 ∷ posts 1 0 5 [] ∷ goes 0 ∷ goes 0 ∷ ends 0 []
    ∷ goes 1 ∷ asks 1 0 6 [] ∷ answers 0 (number (pos 1)) ∷ goes 1 ∷ goes 1 ∷ ends 1 []
    ∷ goes 0 ∷ releases 0 (1 ∷ []) ∷ goes 0 ∷ ends 0 [] ∷ []

pub calling_back_jobs :
    jobs 64 calling_back root ≡ Creates 0 ∷ Goes ∷ Made 1 ∷ Creates 1 ∷ Granted (1 ∷ []) ∷ Goes
    ∷ Takes 1 7 ∷ Granted [] ∷ Goes ∷ Takes 0 5 ∷ Goes ∷ Goes
    ∷ Replies None ∷ Goes ∷ Takes 0 6 ∷ Replies (Some (number (pos 1))) ∷ Goes ∷ Goes
    ∷ Replies None ∷ Goes ∷ Goes ∷ Goes ∷ []
calling_back_jobs = refl

pub calling_back_ends : outcome (played 64 calling_back root) ≡ (Free, 0) ∷ (Free, 0) ∷ []
calling_back_ends = refl

-- a creation with lock passing: the creator hears of its handler as it takes the answer, and releases it
abbrev creating : List (ℕ × Want)
creating = goes 0 ∷ creates_passing 0 1 (object 0 0 ∷ []) ∷ goes 0 ∷ reserves 1 (0 ∷ []) ∷ goes 1 ∷ ends 1 [] ∷ goes 0
    ∷ reserves 0 (1 ∷ []) ∷ goes 0 ∷ []

pub creating_jobs :
    jobs 64 creating root ≡ Creates 0 ∷ Goes ∷ Nothing ∷ Creates 1 ∷ Granted [] ∷ Goes ∷ Made 1 ∷ Goes ∷ Granted (1 ∷ []) ∷ []
creating_jobs = refl

-- ---- wait conditions

-- Handler 0 makes a buffer, a consumer and a producer. The consumer waits until the producer has put something.
abbrev consuming : List (ℕ × Want)
consuming = goes 0 ∷ creates 0 1 [] ∷ creates 0 2 (object 1 1 ∷ []) ∷ creates 0 3 (object 1 1 ∷ []) ∷ ends 0 [] ∷ ends 1 []
    ∷ reserves 2 (1 ∷ []) ∷ goes 2 ∷ asks 2 1 5 [] ∷ answers 1 (number (pos 0)) ∷ goes 2 ∷ waits 2 (1 ∷ []) ∷ goes 2
    ∷ reserves 3 (1 ∷ []) ∷ goes 3 ∷ asks 3 1 5 [] ∷ answers 1 (number (pos 0)) ∷ goes 3 ∷ goes 3 ∷ posts 3 1 6 (number (pos 7) ∷ []) ∷ ends 3 (1 ∷ [])
    ∷ goes 1 ∷ goes 1 ∷ ends 1 []
    ∷ goes 2 ∷ asks 2 1 5 [] ∷ answers 1 (number (pos 1)) ∷ goes 2 ∷ goes 2 ∷ asks 2 1 4 [] ∷ answers 1 (number (pos 7)) ∷ goes 2 ∷ goes 2
    ∷ posts 2 1 7 [] ∷ ends 2 (1 ∷ []) ∷ goes 1 ∷ goes 1 ∷ ends 1 [] ∷ []

-- turn 13 changes nothing; turn 25 reserves again, since the session of handler 3 has ended
pub consuming_jobs :
    jobs 64 consuming root ≡ Creates 0 ∷ Goes ∷ Made 1 ∷ Made 2 ∷ Made 3 ∷ Creates 1
    ∷ Creates 2 ∷ Granted (1 ∷ []) ∷ Goes ∷ Takes 1 5 ∷ Replies (Some (number (pos 0))) ∷ Goes ∷ Nothing
    ∷ Creates 3 ∷ Granted (1 ∷ []) ∷ Goes ∷ Takes 1 5 ∷ Replies (Some (number (pos 0))) ∷ Goes ∷ Goes ∷ Goes
    ∷ Takes 1 6 ∷ Goes ∷ Goes
    ∷ Granted (1 ∷ []) ∷ Goes ∷ Takes 1 5 ∷ Replies (Some (number (pos 1))) ∷ Goes ∷ Goes ∷ Takes 1 4 ∷ Replies (Some (number (pos 7))) ∷ Goes
    ∷ Goes ∷ Goes ∷ Takes 1 7 ∷ Goes ∷ Goes ∷ []
consuming_jobs = refl

pub consuming_ends : outcome (played 64 consuming root) ≡ (Free, 0) ∷ (Free, 0) ∷ (Free, 0) ∷ (Free, 0) ∷ []
consuming_ends = refl

-- ---- refusals

-- a command that is refused is counted, and a query that is refused fails its poster
abbrev refusing : List (ℕ × Want) → List (ℕ × Want)
refusing ts = goes 0 ∷ creates 0 1 [] ∷ reserves 0 (1 ∷ []) ∷ ends 1 [] ∷ goes 0 ∷ ts

pub command_is_counted :
    outcome (played 64 (refusing (posts 0 1 5 [] ∷ ends 0 (1 ∷ []) ∷ goes 1 ∷ refuses 1 [] ∷ [])) root) ≡ (Free, 0) ∷ (Free, 1) ∷ []
command_is_counted = refl

pub query_is_refused :
    jobs 64 (refusing (asks 0 1 5 [] ∷ goes 1 ∷ refuses 1 [] ∷ (0, want.Fail Precondition) ∷ [])) root
    ≡ Creates 0 ∷ Goes ∷ Made 1 ∷ Creates 1 ∷ Granted (1 ∷ []) ∷ Goes ∷ Takes 1 5 ∷ Goes ∷ IsRefused ∷ []
query_is_refused = refl

pub refused_query_fails :
    outcome (played 64 (refusing (asks 0 1 5 [] ∷ goes 1 ∷ refuses 1 [] ∷ (0, want.Fail Precondition) ∷ [])) root)
    ≡ (Failed Precondition, 0) ∷ (Free, 0) ∷ []
refused_query_fails = refl

-- ---- failures

-- Handler 0 waits for 1 and 1 for 2, which fails: each hears of it in turn.
abbrev failing : List (ℕ × Want)
failing = goes 0 ∷ creates 0 1 [] ∷ creates 0 2 [] ∷ reserves 0 (1 ∷ 2 ∷ []) ∷ ends 1 [] ∷ ends 2 [] ∷ goes 0
    ∷ asks_passing 0 1 5 (object 0 0 ∷ object 2 2 ∷ []) ∷ reserves 1 (0 ∷ 2 ∷ []) ∷ goes 1
    ∷ asks_passing 1 2 6 (object 0 0 ∷ []) ∷ reserves 2 (0 ∷ []) ∷ goes 2 ∷ (2, want.Fail Check)
    ∷ goes 0 ∷ (1, want.Fail SupplierFailed) ∷ (0, want.Fail SupplierFailed) ∷ []

pub failing_jobs :
    jobs 64 failing root ≡ Creates 0 ∷ Goes ∷ Made 1 ∷ Made 2 ∷ Creates 1 ∷ Creates 2 ∷ Granted (1 ∷ 2 ∷ [])
    ∷ Goes ∷ Takes 1 5 ∷ Granted [] ∷ Goes ∷ Takes 2 6 ∷ Granted [] ∷ Goes
    ∷ Nothing ∷ Fails ∷ Fails ∷ []
failing_jobs = refl

pub failing_ends : outcome (played 64 failing root) ≡ (Failed SupplierFailed, 0) ∷ (Failed SupplierFailed, 0) ∷ (Failed Check, 0) ∷ []
failing_ends = refl

-- what waits for a reservation of a handler that has failed hears of it, once that is nobody's
pub lost_handler :
    jobs 64 (goes 0 ∷ creates 0 1 [] ∷ reserves 0 (1 ∷ []) ∷ (1, want.Fail Check) ∷ goes 0 ∷ []) root ≡ Creates 0 ∷ Goes ∷ Made 1 ∷ Creates 1 ∷ Fails ∷ []
lost_handler = refl

pub too_many_handlers : outcome (played 1 (goes 0 ∷ creates 0 1 [] ∷ []) root) ≡ (Failed TooManyHandlers, 0) ∷ []
too_many_handlers = refl

-- ---- what fits no case

pub unheld_post : outcome (played 64 (goes 0 ∷ creates 0 1 [] ∷ posts 0 1 5 [] ∷ []) root) ≡ (Failed NotHeld, 0) ∷ (Busy, 0) ∷ []
unheld_post = refl

pub foreign_release : outcome (played 64 (goes 0 ∷ creates 0 1 [] ∷ releases 0 (1 ∷ []) ∷ []) root) ≡ (Failed BadCode, 0) ∷ (Busy, 0) ∷ []
foreign_release = refl

-- the turn that takes a request asks nothing of another handler
pub early_creation : outcome (played 64 (creates 0 1 [] ∷ []) root) ≡ (Failed BadCode, 0) ∷ []
early_creation = refl
