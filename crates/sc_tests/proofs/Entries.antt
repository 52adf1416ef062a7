-- Entries of a buffer of size 1 with a consumer and a producer: what they reserve, which clauses are waited for, and when they
-- may be tried again; and which reserve steps fail.
use Rattle.std.proofs.Common.{ℕ, ◌≡◌, Bool, true, false, List, [], ◌∷◌, Option, Some, None, refl}
use Rattle.std.specs.Prelude.{◌==◌, ◌||◌, length, map, replicate, if◌then◌else◌}
use Rattle.std.specs.List.{Any}
use Rattle.std.proofs.lemmas.List.Folds.{list_any-from_Any}
use Rattle.sc_lockpass.specs.Rights.{Rights, unreserved, held, reserve, release}
use Rattle.sc_lockpass.specs.declared.wait_conditions.condition.ClauseKind.{ClauseKind}
use Rattle.sc_lockpass.specs.declared.wait_conditions.condition.ClauseKind.TheVariants.{WaitCondition, CorrectnessCondition}
use Rattle.sc_lockpass.specs.declared.wait_conditions.condition.ClauseResult.{ClauseResult}
use Rattle.sc_lockpass.specs.declared.wait_conditions.condition.EntryVerdict.{EntryVerdict}
use Rattle.sc_lockpass.specs.declared.wait_conditions.condition.EntryVerdict.TheVariants.{Start, Wait, Refuse}
use Rattle.sc_lockpass.specs.declared.wait_conditions.mark.Marked.{Marked}
use Rattle.sc_lockpass.specs.declared.wait_conditions.session.Release.TheVariants.{Exit, FalseWaitCondition}
use Rattle.sc_lockpass.specs.wait_conditions.Entries.{needed}
use Rattle.sc_lockpass.specs.wait_conditions.Conditions.{clause_kind, verdict}
use Rattle.sc_lockpass.specs.wait_conditions.Reservations.{Standing, is_lost, reserve_fails, mark_of, mark_allows, ends_session}

abbrev clause : ClauseKind → Bool → ClauseResult
clause k b = record { kind = k; holds = b }

-- An entry with one formal and one clause that names it: what the formal's value lies on, and whether the clause is true. How
-- many handlers it newly reserves, what becomes of it where the clause is false, and what the clause decides.
abbrev entered : Rights → ℕ → Option ℕ → Bool → ℕ × ClauseKind × EntryVerdict
entered r h value holds =
    let ks : List ℕ = needed r h (value ∷ []) in
    let kind : ClauseKind = clause_kind ks (value ∷ []) in
    (length ks, kind, verdict (clause kind holds ∷ []))

-- ---- the buffer is handler 1, the consumer 2, the producer 3

pub consumer_waits : entered unreserved 2 (Some 1) false ≡ (1, WaitCondition, Wait)
consumer_waits = refl

pub producer_starts : entered unreserved 3 (Some 1) true ≡ (1, WaitCondition, Start)
producer_starts = refl

pub consumer_starts : entered unreserved 2 (Some 1) true ≡ (1, WaitCondition, Start)
consumer_starts = refl

-- `remove` and `put` of the buffer itself name no formal on another handler
pub remove_is_refused : entered unreserved 1 None false ≡ (0, CorrectnessCondition, Refuse)
remove_is_refused = refl

pub put_starts : entered unreserved 1 None true ≡ (0, CorrectnessCondition, Start)
put_starts = refl

-- 0 holds the buffer while it enters `drain`, so that its clause isn't waited for
pub holder_starts : entered unreserved 0 (Some 1) true ≡ (1, WaitCondition, Start)
holder_starts = refl

pub drain_is_refused : entered (reserve 0 (1 ∷ []) unreserved) 0 (Some 1) false ≡ (0, CorrectnessCondition, Refuse)
drain_is_refused = refl

pub what_leaves_holds_nothing : held (release (1 ∷ []) (reserve 2 (1 ∷ []) unreserved)) 2 1 ≡ false
what_leaves_holds_nothing = refl

-- ---- the consumer is tried again once the producer's session of the buffer has ended

abbrev at_first : ℕ → ℕ
at_first k = 1

abbrev behind_another : ℕ → ℕ
behind_another k = if k == 3 then 2 else 1

abbrev behind_the_producer : ℕ → ℕ
behind_the_producer k = if k == 1 || k == 3 then 2 else 1

abbrev marked : List Marked
marked = mark_of at_first (1 ∷ [])

pub consumer_is_tried_again :
    mark_allows at_first marked ∷ mark_allows behind_another marked ∷ mark_allows behind_the_producer marked ∷ mark_allows at_first [] ∷ []
    ≡ false ∷ false ∷ true ∷ true ∷ []
consumer_is_tried_again = refl

-- an entry over two handlers, of which a session of one has ended
abbrev two_marked : List Marked
two_marked = mark_of at_first (1 ∷ 3 ∷ [])

pub one_session_is_enough : mark_allows at_first two_marked ∷ mark_allows behind_another two_marked ∷ [] ≡ false ∷ true ∷ []
one_session_is_enough = refl

pub waiting_ends_no_session : ends_session Exit ∷ ends_session FalseWaitCondition ∷ [] ≡ true ∷ false ∷ []
waiting_ends_no_session = refl

-- ---- a reserve step fails where one of the handlers that it needs is lost

-- 1 has failed, 2 is idle, 3 isn't
abbrev standing : ℕ → Standing
standing k = record { has_frames = k == 3; has_failed = k == 1; has_requests = false; sessions = 1 }

abbrev do_fail : Rights → List (List ℕ) → List Bool
do_fail r needs = map (reserve_fails standing r) needs

pub one_lost_is_enough :
    do_fail unreserved ((1 ∷ []) ∷ (1 ∷ 2 ∷ []) ∷ (2 ∷ 1 ∷ []) ∷ (3 ∷ 1 ∷ []) ∷ (2 ∷ 3 ∷ []) ∷ []) ≡ true ∷ true ∷ true ∷ true ∷ false ∷ []
one_lost_is_enough = refl

-- it has failed, and is another's still
pub reserved_is_not_lost : do_fail (reserve 4 (1 ∷ []) unreserved) ((1 ∷ []) ∷ (1 ∷ 2 ∷ []) ∷ []) ≡ false ∷ false ∷ []
reserved_is_not_lost = refl

-- whatever the others are
pub fails_by_one : (stands : ℕ → Standing) (r : Rights) (ks : List ℕ) →
    Any (λ k. is_lost (stands k) (r.queue k) ≡ true) ks → reserve_fails stands r ks ≡ true
fails_by_one stands r ks some = list_any-from_Any (λ k. is_lost (stands k) (r.queue k)) ks some

-- ---- the first false clause decides

abbrev kept : ClauseResult
kept = clause CorrectnessCondition true

abbrev waited : ClauseResult
waited = clause WaitCondition false

abbrev refused : ClauseResult
refused = clause CorrectnessCondition false

pub first_false_decides :
    verdict [] ∷ verdict (kept ∷ waited ∷ refused ∷ []) ∷ verdict (kept ∷ refused ∷ waited ∷ []) ∷ [] ≡ Start ∷ Wait ∷ Refuse ∷ []
first_false_decides = refl

-- ---- what is needed is listed once

pub needed_in_order : needed unreserved 0 (Some 7 ∷ Some 0 ∷ None ∷ Some 511 ∷ Some 7 ∷ []) ≡ 7 ∷ 511 ∷ []
needed_in_order = refl

pub needed_once : needed unreserved 0 (replicate 16 (Some 9)) ≡ 9 ∷ []
needed_once = refl
