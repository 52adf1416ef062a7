-- The tables of a core where a handler goes out with a job, or comes back from it.
use Rattle.std.proofs.Common.{◌≡◌, ◌+◌, ◌<◌, ◌≤◌, ◌==◌, ℕ, zero, suc, Bool, true, false, List, [], ◌∷◌, Option, Some, None, refl, sym, ap, ◌∙◌, inl, inr, length, slice_set, arith}
use Rattle.std.proofs.Math.Path.{fun_ext}
use Rattle.std.proofs.lemmas.Bool.{cases_Bool, cases_eq, eq-eqb, ne_eqb, eqb-true, and_parts, or_left, or_right, ltb-true}
use Rattle.std.proofs.lemmas.List.Elements.{All-nil, All-cons}
use Rattle.std.specs.Prelude.{is_some, map, slice_get, slice_index, nat_lt, if◌then◌else◌}
use Rattle.std.specs.List.{All, list_all, list_any}
use Rattle.std.specs.Option.{option_and_then}
use Rattle.sc_lockpass.specs.Rights.{is_among}
use Rattle.sc_lockpass.specs.Tables.{Table, rights_of}
use Rattle.sc_lockpass.specs.wait_conditions.Laws.{is_on}
use Rattle.sc_lockpass.specs.wait_conditions.Reservations.{may_reserve}
use Rattle.sc_lockpass.specs.declared.wait_conditions.mark.Marked.{Marked}
use Rattle.sc_lockpass.proofs.wait_conditions.EntryLaws.{needs_unheld}
use Rattle.sc_model.specs.declared.cause.Cause.{Cause}
use Rattle.arrayvec.specs.ArrayVec.{ArrayVec}
use Rattle.sc_region.specs.declared.job.Job.{Job}
use Rattle.sc_region.specs.declared.job.Job.TheVariants as job
use Rattle.sc_handler.specs.declared.handler.HandlerStage as coded_stage
use Rattle.sc_handler.specs.declared.handler.HandlerStage.TheVariants as stage
use Rattle.sc_handler.specs.declared.handler.Handler as coded
use Rattle.sc_handler.specs.Handlers.{Posted, Answer, Replied, SupplierFailed, Refused, Handler, State, standing_in, is_reserving}
use Rattle.sc_handler.specs.Picking.{needs, job_for_entry, job_reserving, job_idle, job_awaiting, job_at, job_with, job_of}
use Rattle.sc_handler.specs.InMemory.{handler_with, stage_of}
use Rattle.sc_request.specs.Tables.{handler_in, handler_at, state_of, center, out_at, out_total}
use Rattle.sc_request.specs.Candidates.{entry_below, granted_items}
use Rattle.sc_request.specs.Logs.{Center, pick_for, granted, ungranted, picked, put_back_with, put_back}

-- ---- one element of a list is changed

pub some_is : {A : Type 0} (x y : A) → Some x ≡ Some y → x ≡ y
some_is x y e = cc

pub get_same : {A : Type 0} (xs : List A) (h : ℕ) (x y : A) → slice_get xs h ≡ Some x → slice_get (slice_set xs h y) h ≡ Some y
get_same [] h x y e = cc
get_same (z ∷ xs) zero x y e = refl
get_same (z ∷ xs) (suc h) x y e = get_same xs h x y e

pub get_other : {A : Type 0} (xs : List A) (h k : ℕ) (y : A) → (k ≡ h → ⊥) → slice_get (slice_set xs h y) k ≡ slice_get xs k
get_other [] h k y apart = refl
get_other (z ∷ xs) zero zero y apart = absurd (apart refl)
get_other (z ∷ xs) zero (suc k) y apart = refl
get_other (z ∷ xs) (suc h) zero y apart = refl
get_other (z ∷ xs) (suc h) (suc k) y apart = get_other xs h k y (λ e. apart (ap suc e))

-- what is the same of both elements stays
pub kept_at : {A B : Type 0} (f : Option A → B) (xs : List A) (h k : ℕ) (x y : A) → slice_get xs h ≡ Some x → f (Some y) ≡ f (Some x) →
    f (slice_get (slice_set xs h y) k) ≡ f (slice_get xs k)
kept_at f xs h k x y e same = elim (cases_eq k h) [
  | inl is ↦ rw is (ap f (get_same xs h x y e) ∙ same ∙ sym (ap f e))
  | inr apart ↦ ap f (get_other xs h k y apart)
]

-- ---- the handler is out with a job, or with none

abbrev pub with_job : Option Job → coded.Handler → coded.Handler
with_job o x = record x { out = o }

pub same_handler : (xs : List coded.Handler) (sessions : List ℕ) (h k : ℕ) (x : coded.Handler) (o : Option Job) → slice_get xs h ≡ Some x →
    handler_at (slice_set xs h (with_job o x)) sessions k ≡ handler_at xs sessions k
same_handler xs sessions h k x o e =
    kept_at (λ (z : Option coded.Handler). record (handler_in z) { sessions = slice_index sessions k }) xs h k x (with_job o x) e refl

own_handler : (xs : List coded.Handler) (sessions : List ℕ) (h : ℕ) (x : coded.Handler) → slice_get xs h ≡ Some x →
    handler_at xs sessions h ≡ handler_with (slice_index sessions h) x
own_handler xs sessions h x e = ap (λ (o : Option coded.Handler). record (handler_in o) { sessions = slice_index sessions h }) e

-- the handler is out with what it has to do as it stands
pub stands_out : (xs : List coded.Handler) (sessions : List ℕ) (h : ℕ) (x y z : coded.Handler) (s : State) → slice_get xs h ≡ Some x → slice_get xs h ≡ Some y →
    z ≡ with_job (job_at h (handler_with (slice_index sessions h) y).stage (handler_with (slice_index sessions h) y) s) y →
    slice_set xs h z ≡ slice_set xs h (with_job (job_at h (handler_at xs sessions h).stage (handler_at xs sessions h) s) x)
stands_out xs sessions h x y z s ex ey ez =
    ap (λ (w : coded.Handler). slice_set xs h w)
    (ez
    ∙ ap (λ (v : Handler). with_job (job_at h v.stage v s) y) (sym (own_handler xs sessions h y ey))
    ∙ ap (λ (w : coded.Handler). with_job (job_at h (handler_at xs sessions h).stage (handler_at xs sessions h) s) w) (some_is y x (sym ey ∙ ex)))

pub out_of : Option coded.Handler → Option Job
out_of o = option_and_then (λ (x : coded.Handler). x.out) o

pub out_set : (xs : List coded.Handler) (h k : ℕ) (x : coded.Handler) (o : Option Job) → slice_get xs h ≡ Some x →
    out_at (slice_set xs h (with_job o x)) k ≡ (if k == h then o else out_at xs k)
unfolding out_of
out_set xs h k x o e = elim (cases_eq k h) [
  | inl is ↦ rw (is, eq-eqb h h refl) (ap out_of (get_same xs h x (with_job o x) e))
  | inr apart ↦ rw (ne_eqb k h apart) (ap out_of (get_other xs h k (with_job o x) apart))
]

pub out_is : (xs : List coded.Handler) (h : ℕ) (x : coded.Handler) → slice_get xs h ≡ Some x → out_at xs h ≡ x.out
unfolding out_of
out_is xs h x e = ap out_of e

-- the handler that goes out with a job is out with it
pub out_now : (xs ys : List coded.Handler) (h : ℕ) (x y : coded.Handler) (j : Job) → slice_get xs h ≡ Some x → ys ≡ slice_set xs h (with_job (Some j) x) →
    slice_get ys h ≡ Some y → y.out ≡ Some j
out_now xs ys h x y j e set read =
    ap (λ (w : coded.Handler). w.out)
    (some_is y (with_job (Some j) x) (sym read ∙ ap (λ (zs : List coded.Handler). slice_get zs h) set ∙ get_same xs h x (with_job (Some j) x) e))

-- ---- how many are out

pub more_out : (xs : List coded.Handler) (h : ℕ) (x : coded.Handler) (j : Job) → slice_get xs h ≡ Some x → x.out ≡ None →
    out_total (slice_set xs h (with_job (Some j) x)) ≡ out_total xs + 1
more_out [] h x j e none = cc
more_out (z ∷ xs) zero x j e none = rw (ap (λ (y : coded.Handler). y.out) (some_is z x e) ∙ none) refl
more_out (z ∷ xs) (suc h) x j e none = elim (cases_Bool (is_some z.out)) [
  | inl b ↦ rw (b, more_out xs h x j e none) refl
  | inr b ↦ rw (b, more_out xs h x j e none) refl
]

pub fewer_out : (xs : List coded.Handler) (h : ℕ) (x : coded.Handler) (j : Job) → slice_get xs h ≡ Some x → x.out ≡ Some j →
    out_total xs ≡ out_total (slice_set xs h (with_job None x)) + 1
fewer_out [] h x j e some = cc
fewer_out (z ∷ xs) zero x j e some = rw (ap (λ (y : coded.Handler). y.out) (some_is z x e) ∙ some) refl
fewer_out (z ∷ xs) (suc h) x j e some = elim (cases_Bool (is_some z.out)) [
  | inl b ↦ rw (b, fewer_out xs h x j e some) refl
  | inr b ↦ rw (b, fewer_out xs h x j e some) refl
]

pub outs_within : (xs : List coded.Handler) → out_total xs ≤ length xs
outs_within [] = omega arith
outs_within (x ∷ xs) = let rest = outs_within xs in elim (cases_Bool (is_some x.out)) [
  | inl b ↦ rw b (omega (arith, rest))
  | inr b ↦ rw b (omega (arith, rest))
]

none_if : (o : Option Job) (n : ℕ) → (if is_some o then n + 1 else n) ≡ 0 → (o ≡ None) × (n ≡ 0)
none_if None n e = (refl, e)
none_if (Some j) n e = absurd (omega (arith, e))

-- where nobody counts as out, nobody is
pub none_out : (xs : List coded.Handler) (h : ℕ) → out_total xs ≡ 0 → out_at xs h ≡ None
none_out [] h e = refl
none_out (x ∷ xs) zero e = (none_if x.out (out_total xs) e).0
none_out (x ∷ xs) (suc h) e = none_out xs h (none_if x.out (out_total xs) e).1

-- one that is out counts
pub is_counted : (xs : List coded.Handler) (h : ℕ) → is_some (out_at xs h) ≡ true → 1 ≤ out_total xs
is_counted [] h is = cc
is_counted (x ∷ xs) zero is = rw is (omega arith)
is_counted (x ∷ xs) (suc h) is = let rest = is_counted xs h is in elim (cases_Bool (is_some x.out)) [
  | inl b ↦ rw b (omega arith)
  | inr b ↦ rw b rest
]

pub none_is_out : {o : Option Job} → o ≡ None → is_some o ≡ true → ⊥
none_is_out none is = let bad : false ≡ true = sym (ap is_some none) ∙ is in cc

-- ---- the center

pub picked_center : (count : ℕ) (xs : List coded.Handler) (sessions : List ℕ) (t t' : Table) (last h : ℕ) (x : coded.Handler) (j : Job) →
    slice_get xs h ≡ Some x → rights_of t' ≡ granted h j (rights_of t) →
    center count (slice_set xs h (with_job (Some j) x)) sessions t' h ≡ picked h j (center count xs sessions t last)
picked_center count xs sessions t t' last h x j e f = λ i. record {
  state = record { count = count; handlers = fun_ext (λ k. same_handler xs sessions h k x (Some j) e) i; rights = f i };
  out = fun_ext (λ k. out_set xs h k x (Some j) e) i;
  last = h;
}

pub back_with : (count : ℕ) (xs : List coded.Handler) (sessions : List ℕ) (t t' : Table) (last h : ℕ) (x : coded.Handler) (j : Job) → slice_get xs h ≡ Some x →
    rights_of t' ≡ ungranted j (rights_of t) →
    center count (slice_set xs h (with_job None x)) sessions t' last ≡ put_back_with h (Some j) (center count xs sessions t last)
back_with count xs sessions t t' last h x j e f = λ i. record {
  state = record { count = count; handlers = fun_ext (λ k. same_handler xs sessions h k x None e) i; rights = f i };
  out = fun_ext (λ k. out_set xs h k x None e) i;
  last = last;
}

pub back_center : (count : ℕ) (xs : List coded.Handler) (sessions : List ℕ) (t t' : Table) (last h : ℕ) (x : coded.Handler) (j : Job) →
    slice_get xs h ≡ Some x → x.out ≡ Some j → rights_of t' ≡ ungranted j (rights_of t) →
    center count (slice_set xs h (with_job None x)) sessions t' last ≡ put_back h (center count xs sessions t last)
back_center count xs sessions t t' last h x j e some f =
    back_with count xs sessions t t' last h x j e f
    ∙ ap (λ (o : Option Job). put_back_with h o (center count xs sessions t last)) (sym (out_is xs h x e ∙ some))

-- where the handler isn't out, or there is none of the number, nothing is undone
pub stays : (count : ℕ) (xs : List coded.Handler) (sessions : List ℕ) (t : Table) (last h : ℕ) → out_at xs h ≡ None →
    center count xs sessions t last ≡ put_back h (center count xs sessions t last)
stays count xs sessions t last h none = ap (λ (o : Option Job). put_back_with h o (center count xs sessions t last)) (sym none)

-- ---- what a handler has to do

reserving_stage : (h : ℕ) (st : coded_stage.HandlerStage) (es : List ℕ) (mark : List Marked) (y : Handler) (s : State) → is_reserving (stage_of es mark st) ≡ true →
    job_at h (stage_of es mark st) y s ≡ job_for_entry (needs h es s.rights) mark s
reserving_stage h stage.Idle es mark y s is = cc
reserving_stage h stage.Runs es mark y s is = cc
reserving_stage h (stage.HasMade k) es mark y s is = cc
reserving_stage h stage.Reserves es mark y s is = refl
reserving_stage h (stage.Awaits k c) es mark y s is = cc

-- a handler whose next step is a reserve step has that to do
pub stands_reserving : (xs : List coded.Handler) (sessions : List ℕ) (h : ℕ) (x : coded.Handler) (s : State) → slice_get xs h ≡ Some x →
    is_reserving (handler_at xs sessions h).stage ≡ true →
    job_for_entry (needs h x.entry.items s.rights) x.mark s ≡ job_at h (handler_with (slice_index sessions h) x).stage (handler_with (slice_index sessions h) x) s
stands_reserving xs sessions h x s e is =
    sym (reserving_stage h x.stage x.entry.items x.mark (handler_with (slice_index sessions h) x) s
    (ap (λ (v : Handler). is_reserving v.stage) (sym (own_handler xs sessions h x e)) ∙ is))

-- and any other one stands so
pub stands_otherwise : (xs : List coded.Handler) (sessions : List ℕ) (h : ℕ) (x : coded.Handler) → slice_get xs h ≡ Some x →
    is_reserving (handler_at xs sessions h).stage ≡ false → is_reserving (handler_with (slice_index sessions h) x).stage ≡ false
stands_otherwise xs sessions h x e is = ap (λ (v : Handler). is_reserving v.stage) (sym (own_handler xs sessions h x e)) ∙ is

-- ---- what a pick reserves

all_among : (P : ℕ → Type 0) (ks : List ℕ) → ((k : ℕ) → is_among k ks ≡ true → P k) → All P ks
all_among P [] f = All-nil P
all_among P (k ∷ ks) f =
    All-cons P k ks (f k (or_left (k == k) (is_among k ks) (eq-eqb k k refl))) (all_among P ks (λ j e. f j (or_right (k == j) (is_among j ks) e)))

listed_below : (count k : ℕ) (ks : List ℕ) → list_all (λ j. nat_lt j count) ks ≡ true → list_any (is_on k) (map Some ks) ≡ true → k < count
listed_below count k [] all e = cc
listed_below count k (j ∷ ks) all e =
    let parts = and_parts (nat_lt j count) (list_all (λ j. nat_lt j count) ks) all in
    elim (cases_Bool (j == k)) [
      | inl is ↦ ltb-true k count (ap (λ n. nat_lt n count) (sym (eqb-true j k is)) ∙ parts.0)
      | inr apart ↦ let rest = rw apart at e in listed_below count k ks parts.1 rest
    ]

-- What a reserve step is granted is there.
pub record IsGrant (count : ℕ) (ks : List ℕ) : Type 0 where
  pub below : (k : ℕ) → is_among k ks ≡ true → k < count

grant_reserving : (lost may : Bool) (es : List ℕ) (ks : ArrayVec ℕ) → job_reserving lost may es ≡ Some (job.Granted ks) → (may ≡ true) × (ks.items ≡ es)
grant_reserving true may es ks e = cc
grant_reserving false true es ks e = (refl, ap granted_items (sym (some_is (job.Granted (record { items = es })) (job.Granted ks) e)))
grant_reserving false false es ks e = cc

no_grant_idle : (ps : List Posted) (ks : ArrayVec ℕ) → job_idle ps ≡ Some (job.Granted ks) → ⊥
no_grant_idle [] ks e = cc
no_grant_idle (p ∷ ps) ks e = cc

no_grant_awaiting : (k : ℕ) (c : Bool) (p : Option Posted) (a : Option Answer) (ks : ArrayVec ℕ) → job_awaiting k c p a ≡ Some (job.Granted ks) → ⊥
no_grant_awaiting k c (Some p) a ks e = cc
no_grant_awaiting k true None (Some (Replied v)) ks e = cc
no_grant_awaiting k false None (Some (Replied v)) ks e = cc
no_grant_awaiting k c None (Some SupplierFailed) ks e = cc
no_grant_awaiting k c None (Some Refused) ks e = cc
no_grant_awaiting k c None None ks e = cc

grant_at : (h : ℕ) (st : coded_stage.HandlerStage) (es : List ℕ) (mark : List Marked) (y : Handler) (s : State) (ks : ArrayVec ℕ) →
    job_at h (stage_of es mark st) y s ≡ Some (job.Granted ks) →
    (may_reserve (standing_in s) s.rights (needs h es s.rights) mark ≡ true) × (ks.items ≡ needs h es s.rights)
grant_at h stage.Idle es mark y s ks e = absurd (no_grant_idle y.queue ks e)
grant_at h stage.Runs es mark y s ks e = cc
grant_at h (stage.HasMade k) es mark y s ks e = cc
grant_at h stage.Reserves es mark y s ks e = grant_reserving _ _ (needs h es s.rights) ks e
grant_at h (stage.Awaits k c) es mark y s ks e = absurd (no_grant_awaiting k c y.callback y.answer ks e)

some_if : (b : Bool) (o : Option Job) (j : Job) → (if b then o else None) ≡ Some j → o ≡ Some j
some_if true o j e = e
some_if false o j e = cc

some_unless : (b : Bool) (o : Option Job) (j : Job) → (if b then None else o) ≡ Some j → o ≡ Some j
some_unless true o j e = cc
some_unless false o j e = e

some_with : (h : ℕ) (why : Option Cause) (y : Handler) (s : State) (j : Job) → job_with h why y s ≡ Some j → job_at h y.stage y s ≡ Some j
some_with h (Some why) y s j e = cc
some_with h None y s j e = e

-- a handler that has something to do has it as it stands
pub job_stands : (h : ℕ) (c : Center) (j : Job) → pick_for h c ≡ Some j → job_at h (c.state.handlers h).stage (c.state.handlers h) c.state ≡ Some j
job_stands h c j is =
    let y = c.state.handlers h in
    some_with h y.failure y c.state j (some_if (nat_lt h c.state.count) (job_with h y.failure y c.state) j (some_unless (is_some (c.out h)) (job_of h c.state) j is))

pub grant_is : (count : ℕ) (xs : List coded.Handler) (sessions : List ℕ) (t : Table) (last h : ℕ) (x : coded.Handler) (ks : ArrayVec ℕ) →
    slice_get xs h ≡ Some x → entry_below count x ≡ true → pick_for h (center count xs sessions t last) ≡ Some (job.Granted ks) →
    IsGrant count ks.items
grant_is count xs sessions t last h x ks e all is =
    let s = state_of count xs sessions t in
    let y = handler_at xs sessions h in
    let own = some_if (nat_lt h count) (job_with h y.failure y s) (job.Granted ks) (some_unless (is_some (out_at xs h)) (job_of h s) (job.Granted ks) is) in
    let there = some_with h y.failure y s (job.Granted ks) own in
    let stands = ap (λ (o : Option coded.Handler). job_at h (handler_in o).stage y s) (sym e) ∙ there in
    let parts = grant_at h x.stage x.entry.items x.mark y s ks stands in
    record {
      below = λ k among.
          let listed = sym (needs_unheld (rights_of t) h k (map Some x.entry.items)) ∙ ap (is_among k) (sym parts.1) ∙ among in
          listed_below count k x.entry.items all (and_parts _ _ listed).0;
    }

pub all_among_below : (most : ℕ) (ks : List ℕ) → ((k : ℕ) → is_among k ks ≡ true → k < most) → All (λ k. k < most) ks
all_among_below most ks f = all_among (λ k. k < most) ks f

pub below_most : (count most : ℕ) (ks : List ℕ) → count ≤ most → IsGrant count ks → All (λ k. k < most) ks
below_most count most ks within g = all_among (λ k. k < most) ks (λ k is. let l = g.below k is in omega (arith, l))
