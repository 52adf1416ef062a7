-- The laws of conditions, marks and reservations.
use Rattle.std.proofs.Common.{◌≡◌, ℕ, ◌<◌, ◌==◌, ◌&&◌, Bool, true, false, not, List, [], ◌∷◌, Option, Some, None, refl, sym, ap, ◌∙◌, inl, inr, arith}
use Rattle.std.proofs.lemmas.Bool.{cases_Bool, eqb-true, eq-eqb, and_parts, and_left, or_left, or_right, or_from, not-true, lt-ltb, le-ltb}
use Rattle.std.specs.List.{list_any, list_all}
use Rattle.std.specs.Option.{is_none}
use Rattle.sc_lockpass.specs.Rights.{Rights, is_among}
use Rattle.sc_lockpass.specs.declared.wait_conditions.condition.ClauseKind.{ClauseKind}
use Rattle.sc_lockpass.specs.declared.wait_conditions.condition.ClauseKind.TheVariants.{WaitCondition, CorrectnessCondition}
use Rattle.sc_lockpass.specs.declared.wait_conditions.condition.ClauseResult.{ClauseResult}
use Rattle.sc_lockpass.specs.declared.wait_conditions.condition.EntryVerdict.TheVariants.{Start}
use Rattle.sc_lockpass.specs.wait_conditions.Conditions.{lies_on_any, kind_where, verdict, verdict_of_false}
use Rattle.sc_lockpass.specs.wait_conditions.Reservations.{Standing, is_idle, may_be_reserved, is_lost, has_risen, mark_of, reserve_fails}
use Rattle.sc_lockpass.specs.wait_conditions.Laws.{NothingWaitedFor, StartsWhereAllHold, FirstFalseDecides, WaitsAtFirst, IsTriedAgain, ReservesUnreserved, ReservesIdle, EitherReservesOrFails}

-- ---- conditions

none_listed : (values : List (Option ℕ)) → list_any (lies_on_any []) values ≡ false
none_listed [] = refl
none_listed (None ∷ vs) = none_listed vs
none_listed (Some k ∷ vs) = none_listed vs

pub nothing_waited_for : NothingWaitedFor
nothing_waited_for values = ap kind_where (none_listed values)

-- a false clause doesn't let the body start
false_stops : (kind : ClauseKind) → verdict_of_false kind ≡ Start → ⊥
false_stops WaitCondition e = cc
false_stops CorrectnessCondition e = cc

-- a body that starts has a first clause that is true, and starts by the others
starts-parts : (c : ClauseResult) (cs : List ClauseResult) → verdict (c ∷ cs) ≡ Start → (c.holds ≡ true) × (verdict cs ≡ Start)
starts-parts c cs starts = elim (cases_Bool c.holds) [
  | inl e ↦ (e, rw e at starts)
  | inr e ↦ absurd (false_stops c.kind (rw e at starts))
]

starts-all : (cs : List ClauseResult) → verdict cs ≡ Start → list_all (λ (c : ClauseResult). c.holds) cs ≡ true
starts-all [] starts = refl
starts-all (c ∷ cs) starts = let parts = starts-parts c cs starts in rw parts.0 (starts-all cs parts.1)

all-starts : (cs : List ClauseResult) → list_all (λ (c : ClauseResult). c.holds) cs ≡ true → verdict cs ≡ Start
all-starts [] all = refl
all-starts (c ∷ cs) all = let parts = and_parts c.holds (list_all (λ (c : ClauseResult). c.holds) cs) all in rw parts.0 (all-starts cs parts.1)

pub starts_where_all_hold : StartsWhereAllHold
starts_where_all_hold cs = (starts-all cs, all-starts cs)

pub first_false_decides : FirstFalseDecides
first_false_decides [] c after starts e = rw e refl
first_false_decides (b ∷ bs) c after starts e =
    let parts = starts-parts b bs starts in rw parts.0 (first_false_decides bs c after parts.1 e)

-- ---- marks

unrisen : (sessions later : ℕ → ℕ) (ks : List ℕ) → ((j : ℕ) → is_among j ks ≡ true → later j ≡ sessions j) →
    list_any (has_risen later) (mark_of sessions ks) ≡ false
unrisen sessions later [] same = refl
unrisen sessions later (k ∷ ks) same =
    rw (same k (or_left (k == k) (is_among k ks) (eq-eqb k k refl)), le-ltb (sessions k) (sessions k) (omega arith))
    (unrisen sessions later ks (λ j e. same j (or_right (k == j) (is_among j ks) e)))

pub waits_at_first : WaitsAtFirst
waits_at_first sessions later k ks same = unrisen sessions later (k ∷ ks) same

risen : (sessions later : ℕ → ℕ) (k : ℕ) (ks : List ℕ) → is_among k ks ≡ true → sessions k < later k →
    list_any (has_risen later) (mark_of sessions ks) ≡ true
risen sessions later k [] e more = cc
risen sessions later k (x ∷ xs) e more = elim (cases_Bool (x == k)) [
  | inl same ↦ rw (eqb-true x k same) (or_left _ _ (lt-ltb (sessions k) (later k) more))
  | inr other ↦ let rest = rw other at e in or_right _ _ (risen sessions later k xs rest more)
]

pub is_tried_again : IsTriedAgain
is_tried_again sessions later k [] e more = refl
is_tried_again sessions later k (x ∷ xs) e more = risen sessions later k (x ∷ xs) e more

-- ---- reservations

all-among : (p : ℕ → Bool) (ks : List ℕ) (k : ℕ) → list_all p ks ≡ true → is_among k ks ≡ true → p k ≡ true
all-among p [] k all e = cc
all-among p (x ∷ xs) k all e =
    let parts = and_parts (p x) (list_all p xs) all in
    elim (cases_Bool (x == k)) [
      | inl same ↦ ap p (sym (eqb-true x k same)) ∙ parts.0
      | inr other ↦ let rest = rw other at e in all-among p xs k parts.1 rest
    ]

none_of : (o : Option ℕ) → is_none o ≡ true → o ≡ None
none_of None e = refl
none_of (Some k) e = cc

-- one that may be reserved is idle, has an empty queue, and is nobody's
reservable-parts : (s : Standing) (o : Option ℕ) → may_be_reserved s o ≡ true → (is_idle s ≡ true) × (s.has_requests ≡ false) × (o ≡ None)
reservable-parts s o e =
    let outer = and_parts (is_idle s && not s.has_requests) (is_none o) e in
    let inner = and_parts (is_idle s) (not s.has_requests) outer.0 in
    (inner.0, not-true s.has_requests inner.1, none_of o outer.1)

pub reserves_unreserved : ReservesUnreserved
reserves_unreserved standing r ks mark may k there =
    (reservable-parts (standing k) (r.queue k) (all-among (λ k. may_be_reserved (standing k) (r.queue k)) ks k (and_parts _ _ may).0 there)).2

pub reserves_idle : ReservesIdle
reserves_idle standing r ks mark k may there =
    let parts = reservable-parts (standing k) (r.queue k) (all-among (λ k. may_be_reserved (standing k) (r.queue k)) ks k (and_parts _ _ may).0 there) in
    (parts.0, parts.1)

-- one that may be reserved isn't lost
reservable-lost : (s : Standing) (o : Option ℕ) → may_be_reserved s o ≡ true → is_lost s o ≡ false
reservable-lost s o e =
    let parts = reservable-parts s o e in
    and_left s.has_failed (is_none o) (not-true s.has_failed (and_parts (not s.has_frames) (not s.has_failed) parts.0).1)

none_lost : (standing : ℕ → Standing) (r : Rights) (ks : List ℕ) → list_all (λ k. may_be_reserved (standing k) (r.queue k)) ks ≡ true →
    reserve_fails standing r ks ≡ false
none_lost standing r [] all = refl
none_lost standing r (k ∷ ks) all =
    let parts = and_parts (may_be_reserved (standing k) (r.queue k)) (list_all (λ k. may_be_reserved (standing k) (r.queue k)) ks) all in
    or_from _ _ (reservable-lost (standing k) (r.queue k) parts.0) (none_lost standing r ks parts.1)

pub reserves_or_fails : EitherReservesOrFails
reserves_or_fails standing r ks mark may = none_lost standing r ks (and_parts _ _ may).0
