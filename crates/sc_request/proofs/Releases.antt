-- Rights are released and reserved one by one, and sessions end.
use Rattle.std.proofs.Common.{◌≡◌, ◌+◌, ◌==◌, ◌||◌, ℕ, Bool, true, false, List, [], ◌∷◌, Option, Some, None, refl, sym, ap, ◌∙◌, inl, inr}
use Rattle.std.proofs.Math.Path.{fun_ext}
use Rattle.std.proofs.lemmas.Bool.{cases_eq, eq-eqb, ne_eqb, or_left, or_right}
use Rattle.std.proofs.lemmas.List.Elements.{All-nil, All-cons}
use Rattle.std.specs.Prelude.{is_some, slice_get, slice_index, if◌then◌else◌}
use Rattle.std.specs.List.{All}
use Rattle.sc_lockpass.specs.Rights as maps
use Rattle.sc_lockpass.specs.Rights.{Rights, is_among, unreserved}
use Rattle.sc_lockpass.specs.Passing.{Passed, give_back, passed_by, returned}
use Rattle.sc_lockpass.specs.Tables.{Table, rights_of}
use Rattle.sc_lockpass.specs.declared.wait_conditions.session.Release.TheVariants as release_at
use Rattle.sc_handler.specs.declared.handler.Handler as coded
use Rattle.sc_handler.specs.Handlers.{State, Reserves, with_stage}
use Rattle.sc_handler.specs.Changes.{session_ended}
use Rattle.sc_request.specs.Settling.{waits_again}
use Rattle.sc_request.specs.Sessions.{given_to, release}
use Rattle.sc_request.specs.Tables.{handler_in, state_of}
use Rattle.sc_lockpass.specs.wait_conditions.Reservations.{mark_of}
use Rattle.sc_lockpass.specs.declared.wait_conditions.mark.Marked.{Marked}

pub all_listed : (P : ℕ → Type 0) (ks : List ℕ) → ((k : ℕ) → is_among k ks ≡ true → P k) → All P ks
all_listed P [] f = All-nil P
all_listed P (k ∷ ks) f =
    All-cons P k ks (f k (or_left (k == k) (is_among k ks) (eq-eqb k k refl))) (all_listed P ks (λ j e. f j (or_right (k == j) (is_among j ks) e)))

-- ---- rights

-- who holds what after these were released
abbrev pub IsReleased : List ℕ → Rights → Rights → Type 0
IsReleased ks r r' = ((k : ℕ) → r'.queue k ≡ (if is_among k ks then None else r.queue k)) × ((k : ℕ) → r'.top k ≡ r.top k)

pub released : (ks : List ℕ) (r r' : Rights) → IsReleased ks r r' → r' ≡ maps.release ks r
released ks r r' e = λ i. record { queue = fun_ext e.0 i; top = fun_ext e.1 i }

released_free : (b : Bool) (o p : Option ℕ) → o ≡ (if b then None else p) → b ≡ true → o ≡ None
released_free true o p e is = e
released_free false o p e is = cc

pub free_then : (ks : List ℕ) (r r' : Rights) → IsReleased ks r r' → All (λ k. r'.queue k ≡ None) ks
free_then ks r r' e = all_listed (λ k. r'.queue k ≡ None) ks (λ k is. released_free (is_among k ks) (r'.queue k) (r.queue k) (e.0 k) is)

over_released : (b : Bool) (h : ℕ) (o p : Option ℕ) → o ≡ (if b then None else p) → (if b then Some h else o) ≡ (if b then Some h else p)
over_released true h o p e = refl
over_released false h o p e = e

pub reserved_over : (h : ℕ) (ks : List ℕ) (r r' : Rights) → IsReleased ks r r' → maps.reserve h ks r' ≡ maps.reserve h ks r
reserved_over h ks r r' e = λ i. record { queue = fun_ext (λ k. over_released (is_among k ks) h (r'.queue k) (r.queue k) (e.0 k)) i; top = fun_ext e.1 i }

-- ---- a new handler

one_given : (h k j : ℕ) (o : Option ℕ) → (if k == j || false then Some h else o) ≡ (if j == k then Some h else o)
one_given h k j o = elim (cases_eq j k) [
  | inl is ↦ rw (is, eq-eqb k k refl) refl
  | inr apart ↦ rw (ne_eqb j k apart, ne_eqb k j (λ e. apart (sym e))) refl
]

pub given_queue : (h k j : ℕ) (r r' : Rights) → r' ≡ maps.reserve h (k ∷ []) r → r'.queue j ≡ given_to k (Some h) r.queue j
given_queue h k j r r' e = ap (λ (z : Rights). z.queue j) e ∙ one_given h k j (r.queue j)

pub given_top : (h k j : ℕ) (r r' : Rights) → r' ≡ maps.reserve h (k ∷ []) r → r'.top k ≡ None → r'.top j ≡ given_to k None r.top j
given_top h k j r r' e none = elim (cases_eq j k) [
  | inl is ↦ rw (is, eq-eqb k k refl) none
  | inr apart ↦ rw (ne_eqb j k apart) (ap (λ (z : Rights). z.top j) e)
]

-- what was passed where nobody holds anything is the right on the own waiting stack, which is nobody's
cleared : (k : ℕ) (p : Passed) (r0 r r' : Rights) → p ≡ passed_by k r0 → r0 ≡ unreserved → r' ≡ give_back p r → r' ≡ give_back (passed_by k unreserved) r
cleared k p r0 r r' e f g = g ∙ ap (λ (q : Passed). give_back q r) e ∙ ap (λ (z : Rights). give_back (passed_by k z) r) f

pub cleared_queue : (h k j : ℕ) (p : Passed) (r0 r r' r'' : Rights) → p ≡ passed_by k r0 → r0 ≡ unreserved → r' ≡ maps.reserve h (k ∷ []) r →
    r'' ≡ give_back p r' → r''.queue j ≡ given_to k (Some h) r.queue j
cleared_queue h k j p r0 r r' r'' e f g b = ap (λ (z : Rights). z.queue j) (cleared k p r0 r' r'' e f b) ∙ given_queue h k j r r' g

top_cleared : (b : Bool) (o : Option ℕ) → returned (if b then Some None else None) o ≡ (if b then None else o)
top_cleared true o = refl
top_cleared false o = refl

pub cleared_top : (h k j : ℕ) (p : Passed) (r0 r r' r'' : Rights) → p ≡ passed_by k r0 → r0 ≡ unreserved → r' ≡ maps.reserve h (k ∷ []) r →
    r'' ≡ give_back p r' → r''.top j ≡ given_to k None r.top j
cleared_top h k j p r0 r r' r'' e f g b =
    ap (λ (z : Rights). z.top j) (cleared k p r0 r' r'' e f b) ∙ top_cleared (j == k) (r'.top j)
    ∙ ap (λ (z : Rights). if j == k then None else z.top j) g

-- ---- sessions

ended_at : (b : Bool) (o : Option coded.Handler) (n m : ℕ) → n ≡ (if b then m + 1 else m) →
    record (handler_in o) { sessions = n } ≡ session_ended b (record (handler_in o) { sessions = m })
ended_at true o n m e = ap (λ (i : ℕ). record (handler_in o) { sessions = i }) e
ended_at false o n m e = ap (λ (i : ℕ). record (handler_in o) { sessions = i }) e

pub sessions_ended : (count : ℕ) (xs : List coded.Handler) (ss ss' : List ℕ) (t t' : Table) (ks : List ℕ) →
    ((k : ℕ) → slice_index ss' k ≡ (if is_among k ks then slice_index ss k + 1 else slice_index ss k)) → IsReleased ks (rights_of t) (rights_of t') →
    state_of count xs ss' t' ≡ release release_at.Exit ks (state_of count xs ss t)
sessions_ended count xs ss ss' t t' ks e f = λ i. record {
  count = count;
  handlers = fun_ext (λ k. ended_at (is_among k ks) (slice_get xs k) (slice_index ss' k) (slice_index ss k) (e k)) i;
  rights = released ks (rights_of t) (rights_of t') f i;
}

-- other rights
pub with_rights : (count : ℕ) (xs : List coded.Handler) (ss : List ℕ) (t t' : Table) (s : State) (r : Rights) → state_of count xs ss t ≡ s → rights_of t' ≡ r →
    state_of count xs ss t' ≡ record s { rights = r }
with_rights count xs ss t t' s r e f = ap (λ (z : Rights). record (state_of count xs ss t) { rights = z }) f ∙ ap (λ (z : State). record z { rights = r }) e

pub waits : (count : ℕ) (xs : List coded.Handler) (ss : List ℕ) (t t' : Table) (s : State) (h : ℕ) (ks : List ℕ) (mark : List Marked) →
    mark ≡ mark_of (λ k. (s.handlers k).sessions) ks → state_of count xs ss t ≡ with_stage h (Reserves (s.handlers h).entry mark) s →
    rights_of t' ≡ maps.release ks (rights_of t) → state_of count xs ss t' ≡ waits_again h ks s
waits count xs ss t t' s h ks mark m e f =
    with_rights count xs ss t t' _ _ e (f ∙ ap (λ (z : State). maps.release ks z.rights) e)
    ∙ ap (λ (n : List Marked). record (with_stage h (Reserves (s.handlers h).entry n) s) { rights = maps.release ks s.rights }) m

pub none_of : (o : Option ℕ) → is_some o ≡ false → o ≡ None
none_of None e = refl
none_of (Some k) e = cc
