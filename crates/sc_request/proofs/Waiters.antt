-- Who is known to wait for which handler: while that is held, whoever doesn't hold it has nothing to do.
use Rattle.std.proofs.Common.{◌≡◌, ◌==◌, ◌&&◌, ◌||◌, ◌++◌, ◌<◌, ◌≤◌, ℕ, zero, suc, Bool, true, false, not, List, [], ◌∷◌, Option, Some, None, map, refl, sym, ap, subst, ◌∙◌, inl, inr, length, slice_set, take, arith}
use Rattle.std.proofs.lemmas.Bool.{and_from, and_left, and_parts, and_right, cases_Bool, cases_eq, eq-eqb, eqb-true, ne_eqb, or_from, or_left, or_parts, or_right}
use Rattle.std.proofs.lemmas.Option.{slice_get_past}
use Rattle.std.specs.Prelude.{is_some, nat_lt, slice_get, if◌then◌else◌}
use Rattle.std.specs.List.{list_all, list_any}
use Rattle.std.specs.Option.{is_none}
use Rattle.sc_lockpass.specs.Rights.{held, is_among}
use Rattle.sc_lockpass.specs.Tables.{is_member}
use Rattle.sc_lockpass.specs.wait_conditions.Laws.{is_on}
use Rattle.sc_lockpass.specs.wait_conditions.Reservations.{is_idle, is_lost, mark_allows, may_be_reserved, may_reserve, reserve_fails}
use Rattle.sc_lockpass.specs.declared.wait_conditions.mark.Marked.{Marked}
use Rattle.sc_lockpass.proofs.wait_conditions.EntryLaws.{needs_unheld}
use Rattle.sc_model.specs.declared.cause.Cause.{Cause}
use Rattle.sc_region.specs.declared.job.Job.{Job}
use Rattle.sc_region.specs.declared.job.Want.{Want}
use Rattle.sc_handler.specs.declared.handler.Handler as coded
use Rattle.sc_handler.specs.Handlers.{HandlerStage, Idle, Runs, HasMade, Reserves, Awaits, Handler, State, standing_in}
use Rattle.sc_handler.specs.Picking.{job_at, job_for_entry, job_reserving, job_with, needs}
use Rattle.sc_request.specs.declared.handler_set.HandlerSet.{HandlerSet}
use Rattle.sc_request.specs.Candidates.{AreCandidates}
use Rattle.sc_request.specs.Crowds.{AreCrowds, Disbands, LeavesCrowds, LeavesEach, Notes, WaitsFor, crowd_at, reserved_by, words_in}
use Rattle.sc_request.specs.Logs.{Center, pick_for}
use Rattle.sc_request.specs.Settling.{settled}
use Rattle.sc_request.specs.Tables.{handler_at}
use Rattle.sc_request.proofs.Bits.{none_in_nothing}
use Rattle.sc_request.proofs.GrantedReservations.{below_there}
use Rattle.sc_request.proofs.KeptStages.{settled_stands}
use Rattle.sc_request.proofs.Outs.{get_other, get_same, same_handler, some_is, with_job}

-- ---- whoever waits for a handler that is held has nothing to do

among_itself : (n : ℕ) (ns : List ℕ) → is_among n (n ∷ ns) ≡ true
among_itself n ns = or_left (n == n) (is_among n ns) (eq-eqb n n refl)

none_lost : (ns : List ℕ) (s : State) → ((j : ℕ) → is_among j ns ≡ true → (s.handlers j).failure ≡ None) → reserve_fails (standing_in s) s.rights ns ≡ false
none_lost [] s f = refl
none_lost (n ∷ ns) s f =
    or_from (is_lost (standing_in s n) (s.rights.queue n)) (reserve_fails (standing_in s) s.rights ns)
    (ap (λ (o : Option Cause). is_some o && is_none (s.rights.queue n)) (f n (among_itself n ns)))
    (none_lost ns s (λ j is. f j (or_right (n == j) (is_among j ns) is)))

one_taken : (ns : List ℕ) (b : ℕ) (s : State) → is_among b ns ≡ true → is_none (s.rights.queue b) ≡ false →
    list_all (λ k. may_be_reserved (standing_in s k) (s.rights.queue k)) ns ≡ false
one_taken [] b s is taken = cc
one_taken (n ∷ ns) b s is taken =
    let rest = list_all (λ k. may_be_reserved (standing_in s k) (s.rights.queue k)) ns in
    elim (cases_Bool (n == b)) [
      | inl same ↦
          and_left (may_be_reserved (standing_in s n) (s.rights.queue n)) rest
          (and_right (is_idle (standing_in s n) && not (standing_in s n).has_requests) (is_none (s.rights.queue n))
          (ap (λ i. is_none (s.rights.queue i)) (eqb-true n b same) ∙ taken))
      | inr apart ↦
          let later = rw apart at is in
          and_right (may_be_reserved (standing_in s n) (s.rights.queue n)) rest (one_taken ns b s later taken)
    ]

none_reserving : (lost may : Bool) (ks : List ℕ) → lost ≡ false → may ≡ false → is_some (job_reserving lost may ks) ≡ false
none_reserving true may ks e f = cc
none_reserving false true ks e f = cc
none_reserving false false ks e f = refl

on_one : (b : ℕ) (ks : List ℕ) → list_any (is_on b) (map Some ks) ≡ is_among b ks
on_one b [] = refl
on_one b (k ∷ ks) = ap (λ x. k == b || x) (on_one b ks)

none_for : (k b : ℕ) (ks : List ℕ) (mark : List Marked) (s : State) → is_among b ks ≡ true → ((j : ℕ) → is_among j ks ≡ true → (s.handlers j).failure ≡ None) →
    held s.rights k b ≡ false → is_none (s.rights.queue b) ≡ false → is_some (job_for_entry (needs k ks s.rights) mark s) ≡ false
none_for k b ks mark s is unfailed apart taken =
    let ns = needs k ks s.rights in
    let needed = λ (j : ℕ). needs_unheld s.rights k j (map Some ks) ∙ ap (λ x. x && not (held s.rights k j)) (on_one j ks) in
    none_reserving (reserve_fails (standing_in s) s.rights ns) (may_reserve (standing_in s) s.rights ns mark) ns
    (none_lost ns s (λ j among. unfailed j (and_parts (is_among j ks) (not (held s.rights k j)) (sym (needed j) ∙ among)).0))
    (and_left (list_all (λ i. may_be_reserved (standing_in s i) (s.rights.queue i)) ns) (mark_allows (λ i. (standing_in s i).sessions) mark)
    (one_taken ns b s (needed b ∙ and_from (is_among b ks) (not (held s.rights k b)) is (ap not apart)) taken))

none_at : (k b : ℕ) (st : HandlerStage) (x : Handler) (s : State) → is_among b (reserved_by st) ≡ true →
    ((j : ℕ) → is_among j (reserved_by st) ≡ true → (s.handlers j).failure ≡ None) →
    held s.rights k b ≡ false → is_none (s.rights.queue b) ≡ false → is_some (job_at k st x s) ≡ false
none_at k b Idle x s is f apart taken = cc
none_at k b Runs x s is f apart taken = cc
none_at k b (HasMade i) x s is f apart taken = cc
none_at k b (Reserves ks mark) x s is f apart taken = none_for k b ks mark s is f apart taken
none_at k b (Awaits i c) x s is f apart taken = cc

none_with : (k b : ℕ) (why : Option Cause) (x : Handler) (s : State) → is_among b (reserved_by x.stage) ≡ true →
    ((j : ℕ) → is_among j (reserved_by x.stage) ≡ true → (s.handlers j).failure ≡ None) →
    held s.rights k b ≡ false → is_none (s.rights.queue b) ≡ false → is_some (job_with k why x s) ≡ false
none_with k b (Some why) x s is f apart taken = refl
none_with k b None x s is f apart taken = none_at k b x.stage x s is f apart taken

none_if : (out below : Bool) (o : Option Job) → is_some o ≡ false → is_some (if out then None else (if below then o else None)) ≡ false
none_if true below o e = refl
none_if false true o e = e
none_if false false o e = refl

kept_off : (k b : ℕ) (c : Center) → WaitsFor b k c.state.handlers → held c.state.rights k b ≡ false → is_none (c.state.rights.queue b) ≡ false →
    is_some (pick_for k c) ≡ false
kept_off k b c waits apart taken =
    let x = c.state.handlers k in
    none_if (is_some (c.out k)) (nat_lt k c.state.count) (job_with k x.failure x c.state)
    (none_with k b x.failure x c.state waits.needs waits.unfailed apart taken)

not_true : (b : Bool) → not b ≡ true → b ≡ false
not_true true e = cc
not_true false e = refl

pub is_taken : (o : Option ℕ) → is_some o ≡ true → is_none o ≡ false
is_taken None e = cc
is_taken (Some k) e = refl

pub by_each : (a b c m : Bool) → (not c && (not b && (not a && m))) ≡ (not (a || b || c) && m)
by_each true true true m = refl
by_each true true false m = refl
by_each true false true m = refl
by_each true false false m = refl
by_each false true true m = refl
by_each false true false m = refl
by_each false false true m = refl
by_each false false false m = refl

-- Those of the set of a handler that is held may leave the candidates, but for those that hold it.
pub left_out : (c : Center) (crowds : List HandlerSet) (b : ℕ) (words others later : List ℕ) → c.state.count ≤ 512 → is_none (c.state.rights.queue b) ≡ false →
    AreCandidates words c → AreCrowds crowds c.state.count c.state.handlers →
    ((k : ℕ) → k < 512 → is_member others k ≡ (not (held c.state.rights k b) && is_member (crowd_at crowds b) k)) →
    ((k : ℕ) → is_member later k ≡ (not (is_member others k) && is_member words k)) → AreCandidates later c
left_out c crowds b words others later within taken all crowded o l k is =
    let there = below_there c k is in
    let below : k < 512 = omega (arith, there, within) in
    elim (cases_Bool (is_member others k)) [
      | inl left ↦
          let parts = and_parts (not (held c.state.rights k b)) (is_member (crowd_at crowds b) k) (sym (o k below) ∙ left) in
          let waits = crowded b k parts.1 in
          let never : false ≡ true = sym (kept_off k b c waits.1 (not_true (held c.state.rights k b) parts.0) taken) ∙ is in cc
      | inr stays ↦ l k ∙ and_from (not (is_member others k)) (is_member words k) (ap not stays) (all k is)
    ]

-- ---- who is noted

only_first : (b : Bool) → (b && true) ≡ false → b ≡ false
only_first true e = cc
only_first false e = refl

flip_apart : (b n : ℕ) → (b == n) ≡ false → (n == b) ≡ false
flip_apart b n e = ne_eqb n b (λ same. let never : false ≡ true = sym e ∙ eq-eqb b n (sym same) in cc)

-- one is set in the set of a number
pub noted : (crowds : List HandlerSet) (n h : ℕ) (is_so : Bool) (x y : HandlerSet) → slice_get crowds n ≡ Some x →
    ((k : ℕ) → is_member y.words k ≡ (if k == h then is_so else is_member x.words k)) → Notes n h is_so crowds (slice_set crowds n y)
noted crowds n h is_so x y e set b k is = elim (cases_eq b n) [
  | inl same ↦
      let now : is_member y.words k ≡ true =
      ap (λ (o : Option HandlerSet). is_member (words_in o) k) (sym (ap (slice_get (slice_set crowds n y)) same ∙ get_same crowds n x y e)) ∙ is in
      let before : is_member (crowd_at crowds b) k ≡ is_member x.words k =
      ap (λ (o : Option HandlerSet). is_member (words_in o) k) (ap (slice_get crowds) same ∙ e) in
      rw (eq-eqb b n same, before) (sym (set k) ∙ now)
  | inr apart ↦
      rw (ne_eqb b n apart) (ap (λ (o : Option HandlerSet). is_member (words_in o) k) (sym (get_other crowds n b y apart)) ∙ is)
]

-- there is no set of the number
pub unnoted : (crowds : List HandlerSet) (n h : ℕ) (is_so : Bool) → length crowds ≤ n → Notes n h is_so crowds crowds
unnoted crowds n h is_so past b k is = elim (cases_eq b n) [
  | inl same ↦
      let none = ap (λ (o : Option HandlerSet). is_member (words_in o) k) (ap (slice_get crowds) same ∙ slice_get_past crowds n past) ∙ none_in_nothing k in
      let never : false ≡ true = sym none ∙ is in cc
  | inr apart ↦ rw (ne_eqb b n apart) is
]

-- Sets with the same members are crowds, too.
pub extended : (crowds later : List HandlerSet) (count : ℕ) (xs : ℕ → Handler) → AreCrowds crowds count xs →
    ((b k : ℕ) → is_member (crowd_at later b) k ≡ is_member (crowd_at crowds b) k) → AreCrowds later count xs
extended crowds later count xs all same b k is = all b k (sym (same b k) ∙ is)

-- An empty set that is added has no members, as past the end.
pub empty_added : (crowds : List HandlerSet) (e : HandlerSet) → ((k : ℕ) → is_member e.words k ≡ false) → (b k : ℕ) →
    is_member (crowd_at (crowds ++ e ∷ []) b) k ≡ is_member (crowd_at crowds b) k
empty_added [] e none zero k = none k ∙ sym (none_in_nothing k)
empty_added [] e none (suc b) k = refl
empty_added (c ∷ crowds) e none zero k = refl
empty_added (c ∷ crowds) e none (suc b) k = empty_added crowds e none b k

-- whoever waits for a handler may be noted
pub joined : (crowds later : List HandlerSet) (count : ℕ) (xs : ℕ → Handler) (n h : ℕ) → AreCrowds crowds count xs → nat_lt h count ≡ true →
    WaitsFor n h xs → Notes n h true crowds later → AreCrowds later count xs
joined crowds later count xs n h all there waits notes b k is =
    let was = notes b k is in
    elim (cases_Bool (b == n && k == h)) [
      | inl own ↦
          let parts = and_parts (b == n) (k == h) own in
          subst (λ i. (nat_lt i count ≡ true) × WaitsFor b i xs) (sym (eqb-true k h parts.1))
          (there, subst (λ i. WaitsFor i h xs) (sym (eqb-true b n parts.0)) waits)
      | inr other ↦ let before = rw other at was in all b k before
    ]

-- one more of those that a handler waited for
pub left_one : (crowds mid later : List HandlerSet) (ks : List ℕ) (n h : ℕ) (more : List ℕ) → LeavesEach h ks crowds mid → Notes n h false mid later →
    ((b : ℕ) → is_among b more ≡ (is_among b ks || n == b)) → LeavesEach h more crowds later
left_one crowds mid later ks n h more left notes m b k is =
    let was = notes b k is in
    elim (cases_Bool (b == n && k == h)) [
      | inl own ↦ let never = rw own at was in cc
      | inr other ↦
          let now = rw other at was in
          let before = left b k now in (
            before.0,
            elim (cases_Bool (k == h)) [
              | inl who ↦
                  let away = rw who at before.1 in
                  let apart = rw who at other in
                  rw who (ap (λ x. x && true) (m b) ∙ and_left (is_among b ks || n == b) true (or_from (is_among b ks) (n == b) (only_first (is_among b ks) away)
                  (flip_apart b n (only_first (b == n) apart))))
              | inr else_who ↦ rw else_who (and_right (is_among b more) false refl)
            ],
          )
    ]

-- whoever leaves the sets of all that it waits for is in none
pub left_crowds : (crowds later : List HandlerSet) (count : ℕ) (xs : ℕ → Handler) (h : ℕ) (ks : List ℕ) → AreCrowds crowds count xs →
    ks ≡ reserved_by (xs h).stage → LeavesEach h ks crowds later → LeavesCrowds h crowds later
left_crowds crowds later count xs h ks all e left b k is =
    let was = left b k is in (
      was.0,
      ne_eqb k h (λ who.
          let mine = ap (λ (js : List ℕ). is_among b js) e ∙ ap (λ i. is_among b (reserved_by (xs i).stage)) (sym who) ∙ (all b k was.0).1.needs in
          let never : false ≡ true = sym was.1 ∙ and_from (is_among b ks) (k == h) mine (eq-eqb k h who) in cc),
    )

-- ---- what a handler reserves

listed : (xs : List ℕ) (i x : ℕ) → slice_get xs i ≡ Some x → is_among x xs ≡ true
listed [] i x e = cc
listed (y ∷ ys) zero x e = or_left (y == x) (is_among x ys) (eq-eqb y x (some_is y x e))
listed (y ∷ ys) (suc i) x e = or_right (y == x) (is_among x ys) (listed ys i x e)

none_of_any : (p : ℕ → Bool) (xs : List ℕ) (j : ℕ) → list_any p xs ≡ false → is_among j xs ≡ true → p j ≡ false
none_of_any p [] j e is = cc
none_of_any p (x ∷ xs) j e is =
    let parts = or_parts (p x) (list_any p xs) e in
    elim (cases_Bool (x == j)) [
      | inl same ↦ ap p (sym (eqb-true x j same)) ∙ parts.0
      | inr apart ↦ let rest = rw apart at is in none_of_any p xs j parts.1 rest
    ]

no_failure : (o : Option Cause) → is_some o ≡ false → o ≡ None
no_failure None e = refl
no_failure (Some why) e = cc

-- one of those that a handler reserves, of which none has failed
pub held_off : (xs : ℕ → Handler) (ks : List ℕ) (k i n : ℕ) → ks ≡ reserved_by (xs k).stage → list_any (λ j. is_some (xs j).failure) ks ≡ false →
    slice_get ks i ≡ Some n → WaitsFor n k xs
held_off xs ks k i n e none there = record {
  needs = ap (λ (js : List ℕ). is_among n js) (sym e) ∙ listed ks i n there;
  unfailed = λ j is. no_failure (xs j).failure (none_of_any (λ g. is_some (xs g).failure) ks j none (ap (λ (js : List ℕ). is_among j js) e ∙ is));
}

or_false : (b : Bool) → (b || false) ≡ b
or_false true = refl
or_false false = refl

or_more : (a b c : Bool) → (a || (b || c)) ≡ ((a || b) || c)
or_more true b c = refl
or_more false b c = refl

-- those up to the next one
pub among_more : (xs : List ℕ) (i x b : ℕ) → slice_get xs i ≡ Some x → is_among b (take (suc i) xs) ≡ (is_among b (take i xs) || x == b)
among_more [] i x b e = cc
among_more (y ∷ ys) zero x b e = or_false (y == b) ∙ ap (λ n. n == b) (some_is y x e)
among_more (y ∷ ys) (suc i) x b e = ap (λ t. y == b || t) (among_more ys i x b e) ∙ or_more (y == b) (is_among b (take i ys)) (x == b)

-- ---- the core opens, handlers go out, and are settled

pub opening_crowds : (crowds : List HandlerSet) (count : ℕ) (xs : ℕ → Handler) → crowds ≡ [] → AreCrowds crowds count xs
opening_crowds crowds count xs same b k is =
    let never : false ≡ true = sym (ap (λ (cs : List HandlerSet). is_member (crowd_at cs b) k) same ∙ none_in_nothing k) ∙ is in cc

waits_alike : (b k : ℕ) (xs ys : ℕ → Handler) → ((i : ℕ) → ys i ≡ xs i) → WaitsFor b k xs → WaitsFor b k ys
waits_alike b k xs ys same waits = record {
  needs = ap (λ (x : Handler). is_among b (reserved_by x.stage)) (same k) ∙ waits.needs;
  unfailed = λ j is. ap (λ (x : Handler). x.failure) (same j)
      ∙ waits.unfailed j (ap (λ (x : Handler). is_among j (reserved_by x.stage)) (sym (same k)) ∙ is);
}

-- whoever is out with whatever
pub same_crowds : (crowds : List HandlerSet) (count : ℕ) (xs : List coded.Handler) (sessions : List ℕ) (h : ℕ) (x : coded.Handler) (o : Option Job) →
    slice_get xs h ≡ Some x → AreCrowds crowds count (handler_at xs sessions) → AreCrowds crowds count (handler_at (slice_set xs h (with_job o x)) sessions)
same_crowds crowds count xs sessions h x o e all b k is =
    let waits = all b k is in
    (waits.0, waits_alike b k (handler_at xs sessions) (handler_at (slice_set xs h (with_job o x)) sessions) (λ i. same_handler xs sessions h i x o e) waits.1)

-- the handler that is settled is in no set from then on, and nobody is where it has failed
pub settled_crowds : (most h : ℕ) (j : Job) (turns : ℕ) (w : Want) (s : State) (crowds mid later : List HandlerSet) → AreCrowds crowds s.count s.handlers →
    LeavesCrowds h crowds mid → Disbands (is_some ((settled most h j turns w s).handlers h).failure) mid later →
    AreCrowds later (settled most h j turns w s).count (settled most h j turns w s).handlers
settled_crowds most h j turns w s crowds mid later all left disbands b k is =
    let t = settled most h j turns w s in
    let still = disbands b k is in
    let was = left b k still.1 in
    let waits = all b k was.0 in
    let stands = (settled_stands most h j turns w s k was.1).stage waits.0 in (
      stands.1,
      record {
        needs = ap (λ (st : HandlerStage). is_among b (reserved_by st)) stands.0 ∙ waits.1.needs;
        unfailed = λ i among.
            let before = waits.1.unfailed i (ap (λ (st : HandlerStage). is_among i (reserved_by st)) (sym stands.0) ∙ among) in
            elim (cases_eq i h) [
              | inl own ↦ ap (λ n. (t.handlers n).failure) own ∙ no_failure (t.handlers h).failure still.0
              | inr other ↦ (settled_stands most h j turns w s i (ne_eqb i h other)).unfailed before
            ];
      },
    )
