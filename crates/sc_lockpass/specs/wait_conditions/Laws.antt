-- Laws of entries.
use Rattle.std.specs.Prelude.{◌≡◌, ◌<◌, ◌↔◌, ◌==◌, ◌&&◌, ℕ, Bool, true, false, not, List, [], ◌∷◌, ◌++◌, Option, Some, None}
use Rattle.std.specs.List.{IsDistinct, list_any, list_all}
use Rattle.sc_lockpass.specs.Rights.{Rights, held, is_among, reserve}
use Rattle.sc_lockpass.specs.Laws.{AreUnreserved}
use Rattle.sc_lockpass.specs.declared.wait_conditions.condition.ClauseKind.TheVariants.{CorrectnessCondition}
use Rattle.sc_lockpass.specs.declared.wait_conditions.condition.ClauseResult.{ClauseResult}
use Rattle.sc_lockpass.specs.declared.wait_conditions.condition.EntryVerdict.TheVariants.{Start}
use Rattle.sc_lockpass.specs.declared.wait_conditions.mark.Marked.{Marked}
use Rattle.sc_lockpass.specs.wait_conditions.Entries.{needed}
use Rattle.sc_lockpass.specs.wait_conditions.Conditions.{clause_kind, verdict, verdict_of_false}
use Rattle.sc_lockpass.specs.wait_conditions.Reservations.{Standing, is_idle, mark_of, mark_allows, may_reserve, reserve_fails}

-- the value lies on this handler
abbrev pub is_on : ℕ → Option ℕ → Bool
is_on k None = false
is_on k (Some j) = j == k

-- What is needed is the handlers of the values that aren't held, and no other.
abbrev pub NeedsUnheld : Type 0
NeedsUnheld = (r : Rights) (h k : ℕ) (values : List (Option ℕ)) →
    is_among k (needed r h values) ≡ (list_any (is_on k) values && not (held r h k))

-- None is listed twice.
abbrev pub NeedsOnce : Type 0
NeedsOnce = (r : Rights) (h : ℕ) (values : List (Option ℕ)) → IsDistinct (λ j k. j == k) (needed r h values)

-- An entry that has reserved what it needs holds the handlers of all values.
abbrev pub EntryHolds : Type 0
EntryHolds =
    (r : Rights) (h k : ℕ) (values : List (Option ℕ)) → list_any (is_on k) values ≡ true →
    held (reserve h (needed r h values) r) h k ≡ true

-- Where an entry has newly reserved nothing, no clause is waited for.
abbrev pub NothingWaitedFor : Type 0
NothingWaitedFor = (values : List (Option ℕ)) → clause_kind [] values ≡ CorrectnessCondition

-- A body starts exactly where every clause is true.
abbrev pub StartsWhereAllHold : Type 0
StartsWhereAllHold = (cs : List ClauseResult) →
    (verdict cs ≡ Start) ↔ (list_all (λ (c : ClauseResult). c.holds) cs ≡ true)

-- The first false clause decides, whatever follows it.
abbrev pub FirstFalseDecides : Type 0
FirstFalseDecides =
    (before : List ClauseResult) (c : ClauseResult) (after : List ClauseResult) → verdict before ≡ Start →
    c.holds ≡ false →
    verdict (before ++ c ∷ after) ≡ verdict_of_false c.kind

-- An entry that has begun to wait isn't tried again as long as no session of its handlers ends.
abbrev pub WaitsAtFirst : Type 0
WaitsAtFirst =
    (sessions later : ℕ → ℕ) (k : ℕ) (ks : List ℕ) → ((j : ℕ) → is_among j (k ∷ ks) ≡ true → later j ≡ sessions j) →
    mark_allows later (mark_of sessions (k ∷ ks)) ≡ false

-- It may be tried once a session of one of them has ended.
abbrev pub IsTriedAgain : Type 0
IsTriedAgain =
    (sessions later : ℕ → ℕ) (k : ℕ) (ks : List ℕ) → is_among k ks ≡ true → sessions k < later k →
    mark_allows later (mark_of sessions ks) ≡ true

-- What may be reserved is free, and idle with an empty queue; then the reserve step doesn't fail.
abbrev pub ReservesUnreserved : Type 0
ReservesUnreserved =
    (standing : ℕ → Standing) (r : Rights) (ks : List ℕ) (mark : List Marked) → may_reserve standing r ks mark ≡ true →
    AreUnreserved ks r

abbrev pub ReservesIdle : Type 0
ReservesIdle =
    (standing : ℕ → Standing) (r : Rights) (ks : List ℕ) (mark : List Marked) (k : ℕ) →
    may_reserve standing r ks mark ≡ true → is_among k ks ≡ true →
    (is_idle (standing k) ≡ true) × ((standing k).has_requests ≡ false)

abbrev pub EitherReservesOrFails : Type 0
EitherReservesOrFails =
    (standing : ℕ → Standing) (r : Rights) (ks : List ℕ) (mark : List Marked) → may_reserve standing r ks mark ≡ true →
    reserve_fails standing r ks ≡ false
