-- What a pick reserves, and what a put-back releases.
use Rattle.std.proofs.Common.{◌≡◌, ◌==◌, ◌&&◌, ◌||◌, ◌<◌, ◌≤◌, ℕ, Bool, true, false, not, List, [], Option, Some, None, refl, sym, ◌∙◌, slice_set, slice_index_or, length, inl, inr, arith, ap, subst}
use Rattle.std.proofs.lemmas.Bool.{cases_Bool, cases_eq, eq-eqb, ltb-true, ne_eqb, or_left, or_right}
use Rattle.std.proofs.lemmas.List.Elements.{All-nil}
use Rattle.std.proofs.lemmas.Option.{slice_get-get_or}
use Rattle.std.specs.Prelude.{is_some, nat_lt, slice_get, if◌then◌else◌}
use Rattle.std.specs.List.{All, list_all}
use Rattle.sc_lockpass.specs.Rights.{Rights, is_among}
use Rattle.sc_lockpass.specs.Tables.{Table, rights_of, is_member}
use Rattle.sc_region.specs.declared.job.Job.{Job}
use Rattle.sc_region.specs.declared.job.Job.TheVariants as job
use Rattle.sc_handler.specs.declared.handler.Handler as coded
use Rattle.sc_handler.specs.Handlers.{State, is_reserving}
use Rattle.sc_handler.specs.Picking.{job_of}
use Rattle.sc_handler.specs.InMemory.{fresh}
use Rattle.sc_request.specs.Tables.{center, handler_at, handler_in, out_at, state_of}
use Rattle.sc_request.specs.Candidates.{AreCandidates, AreReserving, HasGrantsBelow, HasOutsBelow, entry_below, granted_items, is_granted, is_granting}
use Rattle.sc_request.specs.Logs.{Center, pick_for, granted, ungranted}
use Rattle.sc_request.specs.Sound.{IsHeldBelow, IsSound}
use Rattle.sc_request.proofs.Outs.{IsGrant, all_among_below, back_with, grant_is, out_is, out_set, picked_center, with_job}
use Rattle.sc_request.proofs.SoundHandlers.{release_below, reserve_below}
use Rattle.sc_request.proofs.Elsewhere.{same_job}

-- ---- who is picked isn't out

none_out_of : (o p : Option Job) (j : Job) → (if is_some o then None else p) ≡ Some j → o ≡ None
none_out_of None p j e = refl
none_out_of (Some i) p j e = cc

pub not_out : (count : ℕ) (xs : List coded.Handler) (sessions : List ℕ) (t : Table) (last h : ℕ) (x : coded.Handler) (j : Job) → slice_get xs h ≡ Some x →
    pick_for h (center count xs sessions t last) ≡ Some j → x.out ≡ None
not_out count xs sessions t last h x j e is = sym (out_is xs h x e) ∙ none_out_of (out_at xs h) _ j is

-- ---- what is reserved

no_items : (count : ℕ) → IsGrant count []
no_items count = record { below = λ k is. cc }

pub grants_of : (count : ℕ) (xs : List coded.Handler) (sessions : List ℕ) (t : Table) (last h : ℕ) (x : coded.Handler) (j : Job) →
    slice_get xs h ≡ Some x → entry_below count x ≡ true → pick_for h (center count xs sessions t last) ≡ Some j → IsGrant count (granted_items j)
grants_of count xs sessions t last h x (job.Take p) e all is = no_items count
grants_of count xs sessions t last h x (job.Reply v) e all is = no_items count
grants_of count xs sessions t last h x job.Failed e all is = no_items count
grants_of count xs sessions t last h x job.Refused e all is = no_items count
grants_of count xs sessions t last h x (job.Granted ks) e all is = grant_is count xs sessions t last h x ks e all is
grants_of count xs sessions t last h x (job.Made k) e all is = no_items count
grants_of count xs sessions t last h x job.Go e all is = no_items count

below_of : (out below : Bool) (p : Option Job) (j : Job) → (if out then None else (if below then p else None)) ≡ Some j → below ≡ true
below_of true below p j e = cc
below_of false true p j e = refl
below_of false false p j e = cc

pub below_count : (count : ℕ) (xs : List coded.Handler) (sessions : List ℕ) (t : Table) (last h : ℕ) (j : Job) →
    pick_for h (center count xs sessions t last) ≡ Some j → h < count
below_count count xs sessions t last h j is = ltb-true h count (below_of (is_some (out_at xs h)) (nat_lt h count) _ j is)

entry_there : (count : ℕ) (xs : List coded.Handler) (sessions : List ℕ) (h : ℕ) (x : coded.Handler) → slice_get xs h ≡ Some x →
    list_all (λ k. nat_lt k count) (handler_at xs sessions h).entry ≡ true → entry_below count x ≡ true
entry_there count xs sessions h x e all = ap (λ (o : Option coded.Handler). list_all (λ k. nat_lt k count) (handler_in o).entry) (sym e) ∙ all

pub grants_there : (count : ℕ) (xs : List coded.Handler) (sessions : List ℕ) (t : Table) (last h : ℕ) (j : Job) → count ≤ length xs →
    list_all (λ k. nat_lt k count) (handler_at xs sessions h).entry ≡ true → pick_for h (center count xs sessions t last) ≡ Some j → IsGrant count (granted_items j)
grants_there count xs sessions t last h j within all is =
    let below = below_count count xs sessions t last h j is in
    let x = slice_index_or xs h fresh in
    let e = slice_get-get_or xs h fresh (omega (arith, below, within)) in
    grants_of count xs sessions t last h x j e (entry_there count xs sessions h x e all) is

-- ---- who is out

pub outs_picked : (most : ℕ) (xs : List coded.Handler) (h : ℕ) (x : coded.Handler) (j : Job) → slice_get xs h ≡ Some x → h < most → HasOutsBelow most xs →
    HasOutsBelow most (slice_set xs h (with_job (Some j) x))
outs_picked most xs h x j e own below g i is = elim (cases_eq g h) [
  | inl same ↦ omega (arith, own, same)
  | inr apart ↦ below g i (rw (ne_eqb g h apart) at (sym (out_set xs h g x (Some j) e) ∙ is))
]

pub outs_back : (most : ℕ) (xs : List coded.Handler) (h : ℕ) (x : coded.Handler) → slice_get xs h ≡ Some x → HasOutsBelow most xs →
    HasOutsBelow most (slice_set xs h (with_job None x))
outs_back most xs h x e below g i is = elim (cases_eq g h) [
  | inl same ↦ let never = rw (eq-eqb g h same) at (sym (out_set xs h g x None e) ∙ is) in cc
  | inr apart ↦ below g i (rw (ne_eqb g h apart) at (sym (out_set xs h g x None e) ∙ is))
]

own_below : (most : ℕ) (j : Job) (k : ℕ) → ((i : ℕ) → is_among i (granted_items j) ≡ true → i < most) → is_granted (Some j) k ≡ true → k < most
own_below most (job.Take p) k f is = cc
own_below most (job.Reply v) k f is = cc
own_below most job.Failed k f is = cc
own_below most job.Refused k f is = cc
own_below most (job.Granted ks) k f is = f k is
own_below most (job.Made i) k f is = cc
own_below most job.Go k f is = cc

pub grants_picked : (most : ℕ) (xs : List coded.Handler) (h : ℕ) (x : coded.Handler) (j : Job) → slice_get xs h ≡ Some x →
    ((i : ℕ) → is_among i (granted_items j) ≡ true → i < most) → HasGrantsBelow most xs → HasGrantsBelow most (slice_set xs h (with_job (Some j) x))
grants_picked most xs h x j e own below g k is =
    let now : is_granted (if g == h then Some j else out_at xs g) k ≡ true = ap (λ (o : Option Job). is_granted o k) (sym (out_set xs h g x (Some j) e)) ∙ is in
    elim (cases_eq g h) [
      | inl same ↦ let mine = rw (eq-eqb g h same) at now in own_below most j k own mine
      | inr apart ↦ let other = rw (ne_eqb g h apart) at now in below g k other
    ]

pub grants_back : (most : ℕ) (xs : List coded.Handler) (h : ℕ) (x : coded.Handler) → slice_get xs h ≡ Some x → HasGrantsBelow most xs →
    HasGrantsBelow most (slice_set xs h (with_job None x))
grants_back most xs h x e below g k is =
    let now : is_granted (if g == h then None else out_at xs g) k ≡ true = ap (λ (o : Option Job). is_granted o k) (sym (out_set xs h g x None e)) ∙ is in
    elim (cases_eq g h) [
      | inl same ↦ let none = rw (eq-eqb g h same) at now in cc
      | inr apart ↦ let other = rw (ne_eqb g h apart) at now in below g k other
    ]

pub granted_below : (most : ℕ) (xs : List coded.Handler) (h : ℕ) (j : Job) → out_at xs h ≡ Some j → HasGrantsBelow most xs → All (λ k. k < most) (granted_items j)
granted_below most xs h (job.Take p) e below = All-nil (λ k. k < most)
granted_below most xs h (job.Reply v) e below = All-nil (λ k. k < most)
granted_below most xs h job.Failed e below = All-nil (λ k. k < most)
granted_below most xs h job.Refused e below = All-nil (λ k. k < most)
granted_below most xs h (job.Granted ks) e below =
    all_among_below most ks.items (λ k is. below h k (ap (λ (o : Option Job). is_granted o k) e ∙ is))
granted_below most xs h (job.Made k) e below = All-nil (λ k. k < most)
granted_below most xs h job.Go e below = All-nil (λ k. k < most)

-- ---- the candidates

only_below : (out below : Bool) (o : Option Job) → is_some (if out then None else (if below then o else None)) ≡ true → below ≡ true
only_below true below o e = cc
only_below false true o e = refl
only_below false false o e = cc

pub below_there : (c : Center) (k : ℕ) → is_some (pick_for k c) ≡ true → k < c.state.count
below_there c k is = ltb-true k c.state.count (only_below (is_some (c.out k)) (nat_lt k c.state.count) _ is)

-- what was in the set is, and those that wait to reserve are, where the job is a grant
abbrev pub Adds : Job → List ℕ → List ℕ → List ℕ → Type 0
Adds j words reserving later = (k : ℕ) → is_member later k ≡ (is_member words k || (is_granting j && is_member reserving k))

-- with other rights, one that has something to do is in the set, or waits to reserve
tried_with : (c : Center) (r : Rights) (k : ℕ) (words reserving later : List ℕ) → AreCandidates words c → AreReserving reserving c.state.handlers →
    is_member later k ≡ (is_member words k || is_member reserving k) →
    is_some (if is_some (c.out k) then None else job_of k (record c.state { rights = r })) ≡ true → is_member later k ≡ true
tried_with c r k words reserving later all wait adds is = elim (cases_Bool (is_reserving (c.state.handlers k).stage)) [
  | inl reserves ↦ adds ∙ or_right (is_member words k) (is_member reserving k) (wait k reserves)
  | inr apart ↦
      let same = same_job k c.state (record c.state { rights = r }) refl refl apart in
      let before = ap (λ (o : Option Job). is_some (if is_some (c.out k) then None else o)) (sym same) ∙ is in
      adds ∙ or_left (is_member words k) (is_member reserving k) (all k before)
]

-- a handler that isn't this one has something to do: it is in the later set
tried_granted : (j : Job) (c : Center) (h k : ℕ) (words reserving later : List ℕ) → AreCandidates words c → AreReserving reserving c.state.handlers →
    Adds j words reserving later →
    is_some (if is_some (c.out k) then None else job_of k (record c.state { rights = granted h j c.state.rights })) ≡ true → is_member later k ≡ true
tried_granted (job.Take p) c h k words reserving later all wait adds is = adds k ∙ or_left (is_member words k) false (all k is)
tried_granted (job.Reply v) c h k words reserving later all wait adds is = adds k ∙ or_left (is_member words k) false (all k is)
tried_granted job.Failed c h k words reserving later all wait adds is = adds k ∙ or_left (is_member words k) false (all k is)
tried_granted job.Refused c h k words reserving later all wait adds is = adds k ∙ or_left (is_member words k) false (all k is)
tried_granted (job.Granted ks) c h k words reserving later all wait adds is =
    tried_with c (granted h (job.Granted ks) c.state.rights) k words reserving later all wait (adds k) is
tried_granted (job.Made i) c h k words reserving later all wait adds is = adds k ∙ or_left (is_member words k) false (all k is)
tried_granted job.Go c h k words reserving later all wait adds is = adds k ∙ or_left (is_member words k) false (all k is)

pub candidates_picked : (count : ℕ) (xs : List coded.Handler) (sessions : List ℕ) (t t' : Table) (last h : ℕ) (x : coded.Handler) (j : Job) (words reserving mid later : List ℕ) →
    slice_get xs h ≡ Some x → rights_of t' ≡ granted h j (rights_of t) → AreCandidates words (center count xs sessions t last) →
    AreReserving reserving (handler_at xs sessions) → Adds j words reserving mid →
    ((k : ℕ) → is_member later k ≡ (not (k == h) && is_member mid k)) → AreCandidates later (center count (slice_set xs h (with_job (Some j) x)) sessions t' h)
candidates_picked count xs sessions t t' last h x j words reserving mid later e f all wait adds l =
    subst (AreCandidates later) (sym (picked_center count xs sessions t t' last h x j e f)) (λ k is. elim (cases_eq k h) [
      | inl same ↦ let never = rw (eq-eqb k h same) at is in cc
      | inr apart ↦
          let other = rw (ne_eqb k h apart) at is in
          l k ∙ rw (ne_eqb k h apart) (tried_granted j (center count xs sessions t last) h k words reserving mid all wait adds other)
    ])

tried_ungranted : (j : Job) (c : Center) (k : ℕ) (words reserving later : List ℕ) → AreCandidates words c → AreReserving reserving c.state.handlers →
    Adds j words reserving later →
    is_some (if is_some (c.out k) then None else job_of k (record c.state { rights = ungranted j c.state.rights })) ≡ true → is_member later k ≡ true
tried_ungranted (job.Take p) c k words reserving later all wait adds is = adds k ∙ or_left (is_member words k) false (all k is)
tried_ungranted (job.Reply v) c k words reserving later all wait adds is = adds k ∙ or_left (is_member words k) false (all k is)
tried_ungranted job.Failed c k words reserving later all wait adds is = adds k ∙ or_left (is_member words k) false (all k is)
tried_ungranted job.Refused c k words reserving later all wait adds is = adds k ∙ or_left (is_member words k) false (all k is)
tried_ungranted (job.Granted ks) c k words reserving later all wait adds is =
    tried_with c (ungranted (job.Granted ks) c.state.rights) k words reserving later all wait (adds k) is
tried_ungranted (job.Made i) c k words reserving later all wait adds is = adds k ∙ or_left (is_member words k) false (all k is)
tried_ungranted job.Go c k words reserving later all wait adds is = adds k ∙ or_left (is_member words k) false (all k is)

pub candidates_back : (count : ℕ) (xs : List coded.Handler) (sessions : List ℕ) (t t' : Table) (last h : ℕ) (x : coded.Handler) (j : Job) (words reserving mid later : List ℕ) →
    slice_get xs h ≡ Some x → rights_of t' ≡ ungranted j (rights_of t) → AreCandidates words (center count xs sessions t last) →
    AreReserving reserving (handler_at xs sessions) → Adds j words reserving mid →
    ((k : ℕ) → is_member later k ≡ (k == h || is_member mid k)) → AreCandidates later (center count (slice_set xs h (with_job None x)) sessions t' last)
candidates_back count xs sessions t t' last h x j words reserving mid later e f all wait adds l =
    subst (AreCandidates later) (sym (back_with count xs sessions t t' last h x j e f)) (λ k is. elim (cases_eq k h) [
      | inl same ↦ l k ∙ or_left (k == h) (is_member mid k) (eq-eqb k h same)
      | inr apart ↦
          let other = rw (ne_eqb k h apart) at is in
          l k ∙ or_right (k == h) (is_member mid k) (tried_ungranted j (center count xs sessions t last) k words reserving mid all wait adds other)
    ])

-- ---- the state stays sound

sound_under : (c n : ℕ) (s : State) (r : Rights) → IsHeldBelow r → IsSound c n s → IsSound c n (record s { rights = r })
sound_under c n s r below all = record { within = all.within; rights = below; handlers = all.handlers }

granted_held : (h : ℕ) (j : Job) (r : Rights) → All (λ k. k < 512) (granted_items j) → IsHeldBelow r → IsHeldBelow (granted h j r)
granted_held h (job.Take p) r there below = below
granted_held h (job.Reply v) r there below = below
granted_held h job.Failed r there below = below
granted_held h job.Refused r there below = below
granted_held h (job.Granted ks) r there below = reserve_below h ks.items r there below
granted_held h (job.Made i) r there below = below
granted_held h job.Go r there below = below

ungranted_held : (j : Job) (r : Rights) → IsHeldBelow r → IsHeldBelow (ungranted j r)
ungranted_held (job.Take p) r below = below
ungranted_held (job.Reply v) r below = below
ungranted_held job.Failed r below = below
ungranted_held job.Refused r below = below
ungranted_held (job.Granted ks) r below = release_below ks.items r below
ungranted_held (job.Made i) r below = below
ungranted_held job.Go r below = below

pub sound_picked : (c n count : ℕ) (xs : List coded.Handler) (sessions : List ℕ) (t t' : Table) (h : ℕ) (x : coded.Handler) (j : Job) →
    slice_get xs h ≡ Some x → rights_of t' ≡ granted h j (rights_of t) → All (λ k. k < 512) (granted_items j) → IsSound c n (state_of count xs sessions t) →
    IsSound c n (state_of count (slice_set xs h (with_job (Some j) x)) sessions t')
sound_picked c n count xs sessions t t' h x j e f there all =
    subst (IsSound c n) (sym (ap (λ (m : Center). m.state) (picked_center count xs sessions t t' 0 h x j e f)))
    (sound_under c n (state_of count xs sessions t) (granted h j (rights_of t)) (granted_held h j (rights_of t) there all.rights) all)

pub sound_back : (c n count : ℕ) (xs : List coded.Handler) (sessions : List ℕ) (t t' : Table) (h : ℕ) (x : coded.Handler) (j : Job) →
    slice_get xs h ≡ Some x → rights_of t' ≡ ungranted j (rights_of t) → IsSound c n (state_of count xs sessions t) →
    IsSound c n (state_of count (slice_set xs h (with_job None x)) sessions t')
sound_back c n count xs sessions t t' h x j e f all =
    subst (IsSound c n) (sym (ap (λ (m : Center). m.state) (back_with count xs sessions t t' 0 h x j e f)))
    (sound_under c n (state_of count xs sessions t) (ungranted j (rights_of t)) (ungranted_held j (rights_of t) all.rights) all)
