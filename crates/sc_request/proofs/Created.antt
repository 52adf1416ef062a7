-- A new handler, and the requests that are sent.
use Rattle.std.proofs.Common.{◌≡◌, ◌+◌, ◌<◌, ◌≤◌, ◌==◌, ℕ, zero, suc, Bool, true, false, List, [], ◌∷◌, Option, Some, None, refl, sym, ap, ◌∙◌, inl, inr, slice_set, arith}
use Rattle.std.proofs.Math.Path.{fun_ext}
use Rattle.std.proofs.lemmas.Bool.{cases_eq, eq-eqb, lt-ltb, ne_eqb}
use Rattle.arrayvec.specs.ArrayVec.{ArrayVec}
use Rattle.sc_region.specs.declared.value.Value.{Value}
use Rattle.std.specs.Prelude.{slice_get, slice_index, if◌then◌else◌}
use Rattle.sc_lockpass.specs.Rights.{Rights}
use Rattle.sc_lockpass.specs.Passing.{Passed}
use Rattle.sc_lockpass.specs.Tables.{Table, rights_of}
use Rattle.sc_lockpass.specs.declared.wait_conditions.session.Release.TheVariants as release_at
use Rattle.sc_region.specs.declared.job.Request.{Request}
use Rattle.sc_handler.specs.declared.handler.Handler as coded
use Rattle.sc_handler.specs.Handlers.{Posted, posted, HandlerStage, Idle, Runs, HasMade, Reserves, Awaits, State, new_handler, put, with_stage}
use Rattle.sc_handler.specs.Changes.{takes_answer}
use Rattle.sc_handler.specs.InMemory.{handler_with}
use Rattle.sc_request.specs.Places.{awaited}
use Rattle.sc_request.specs.Sessions.{given_to, is_callback, passed_if, passes, release, send, with_handler}
use Rattle.sc_request.specs.Settling.{awaits_if, creates, creates_with, creation, made_at, sends}
use Rattle.sc_request.specs.Tables.{handler_in, handler_at, state_of}
use Rattle.sc_request.proofs.Outs.{get_same, get_other}
use Rattle.sc_request.proofs.ChangedTables.{handler_is}

-- ---- a new handler

none_there : (ns : List ℕ) (m : ℕ) → slice_index (slice_set ns m 0) m ≡ 0
none_there [] m = refl
none_there (n ∷ ns) zero = refl
none_there (n ∷ ns) (suc m) = none_there ns m

same_there : (ns : List ℕ) (m j : ℕ) → (j ≡ m → ⊥) → slice_index (slice_set ns m 0) j ≡ slice_index ns j
same_there [] m j apart = refl
same_there (n ∷ ns) zero zero apart = absurd (apart refl)
same_there (n ∷ ns) zero (suc j) apart = refl
same_there (n ∷ ns) (suc m) zero apart = refl
same_there (n ∷ ns) (suc m) (suc j) apart = same_there ns m j (λ e. apart (ap suc e))

one_made : (xs : List coded.Handler) (ns : List ℕ) (m j : ℕ) (x y : coded.Handler) → slice_get xs m ≡ Some x →
    ((n : ℕ) → handler_with n y ≡ record new_handler { sessions = n }) →
    handler_at (slice_set xs m y) (slice_set ns m 0) j ≡ (if j == m then new_handler else handler_at xs ns j)
one_made xs ns m j x y e same = elim (cases_eq j m) [
  | inl is ↦ rw (is, eq-eqb m m refl)
      (handler_is (slice_set xs m y) (slice_set ns m 0) m y (get_same xs m x y e) ∙ same (slice_index (slice_set ns m 0) m)
      ∙ ap (λ (n : ℕ). record new_handler { sessions = n }) (none_there ns m))
  | inr apart ↦ rw (ne_eqb j m apart)
      (ap (λ (o : Option coded.Handler). record (handler_in o) { sessions = slice_index (slice_set ns m 0) j }) (get_other xs m j y apart)
      ∙ ap (λ (n : ℕ). record (handler_in (slice_get xs j)) { sessions = n }) (same_there ns m j apart))
]

pub made_is : (count : ℕ) (xs : List coded.Handler) (ns : List ℕ) (t t' : Table) (h m : ℕ) (x y : coded.Handler) → slice_get xs m ≡ Some x →
    ((n : ℕ) → handler_with n y ≡ record new_handler { sessions = n }) → ((k : ℕ) → (rights_of t').queue k ≡ given_to m (Some h) (rights_of t).queue k) →
    ((k : ℕ) → (rights_of t').top k ≡ given_to m None (rights_of t).top k) →
    state_of (count + 1) (slice_set xs m y) (slice_set ns m 0) t' ≡ with_handler m h (state_of count xs ns t)
made_is count xs ns t t' h m x y e same q p = λ i. record {
  count = count + 1;
  handlers = fun_ext (λ j. one_made xs ns m j x y e same) i;
  rights = record { queue = fun_ext q i; top = fun_ext p i };
}

pub new_queue : (m h : ℕ) (s : State) → ((with_handler m h s).handlers m).queue ≡ []
new_queue m h s = rw (eq-eqb m m refl) refl

pub sessions_with : (m h k n : ℕ) (s : State) → (s.handlers k).sessions ≤ n → ((with_handler m h s).handlers k).sessions ≤ n
sessions_with m h k n s e = elim (cases_eq k m) [
  | inl is ↦ rw (is, eq-eqb m m refl) (omega arith)
  | inr apart ↦ rw (ne_eqb k m apart) e
]

pub creates_so : (most h class : ℕ) (procedure : Option ℕ) (actuals : ArrayVec Value) (p : Bool) (s s1 s2 : State) (r : Request) → s.count < most →
    s1 ≡ with_handler s.count h s → r ≡ creation h s.count class procedure actuals p → s2 ≡ creates_with p h s.count r s1 →
    s2 ≡ creates most h class procedure actuals p s
creates_so most h class procedure actuals p s s1 s2 r below e f g =
    rw (lt-ltb s.count most below)
    (g ∙ ap (λ (z : Request). creates_with p h s.count z s1) f
    ∙ ap (λ (z : State). creates_with p h s.count (creation h s.count class procedure actuals p) z) e)

-- ---- requests

pub stage_queue : (h k : ℕ) (st : HandlerStage) (s : State) → ((with_stage h st s).handlers k).queue ≡ (s.handlers k).queue
stage_queue h k st s = elim (cases_eq k h) [
  | inl is ↦ rw (is, eq-eqb h h refl) refl
  | inr apart ↦ rw (ne_eqb k h apart) refl
]

pub await_queue : (w : Bool) (h j k : ℕ) (s : State) → ((awaits_if w h j s).handlers k).queue ≡ (s.handlers k).queue
await_queue true h j k s = stage_queue h k (Awaits j false) s
await_queue false h j k s = refl

pub pass_queue : (p : Bool) (h j k : ℕ) (s : State) → ((passes p h j s).handlers k).queue ≡ (s.handlers k).queue
pass_queue true h j k s = refl
pass_queue false h j k s = refl

pub await_rights : (w : Bool) (h k : ℕ) (s : State) → (awaits_if w h k s).rights ≡ s.rights
await_rights true h k s = refl
await_rights false h k s = refl

sent_passing : (p b : Bool) (h k : ℕ) (q : Posted) (s : State) → send b k q (passes p h k s) ≡ passes p h k (send b k q s)
sent_passing true b h k q s = refl
sent_passing false b h k q s = refl

-- the request is sent with what was passed
pub sent_all : (p b : Bool) (h k : ℕ) (r : Request) (s0 s1 s2 s3 : State) (o : Option Passed) (m : Rights) → s0.rights ≡ m → s1 ≡ s0 → s2 ≡ passes p h k s1 →
    o ≡ passed_if p h s1.rights → s3 ≡ send b k (posted r o) s2 → s3 ≡ passes p h k (send b k (posted r (passed_if p h m)) s0)
sent_all p b h k r s0 s1 s2 s3 o m same e f g i =
    i ∙ ap (λ (z : State). send b k (posted r o) z) f
    ∙ sent_passing p b h k (posted r o) s1
    ∙ ap (λ (z : Option Passed). passes p h k (send b k (posted r z) s1)) g
    ∙ ap (λ (z : State). passes p h k (send b k (posted r (passed_if p h z.rights)) z)) e
    ∙ ap (λ (z : Rights). passes p h k (send b k (posted r (passed_if p h z)) s0)) same

pub sent_by : (w p b : Bool) (h k : ℕ) (r r' : Request) (s s1 s2 s3 : State) (o : Option Passed) → b ≡ is_callback h k s → r' ≡ record r { is_waited = w } →
    s1 ≡ awaits_if w h k s → s2 ≡ passes p h k s1 → o ≡ passed_if p h s1.rights → s3 ≡ send b k (posted r' o) s2 → s3 ≡ sends h k r p w s
sent_by w p b h k r r' s s1 s2 s3 o c d e f g i =
    sent_all p b h k r' (awaits_if w h k s) s1 s2 s3 o s.rights (await_rights w h k s) e f g i
    ∙ ap (λ (z : Bool). passes p h k (send z k (posted r' (passed_if p h s.rights)) (awaits_if w h k s))) c
    ∙ ap (λ (z : Request). passes p h k (send (is_callback h k s) k (posted z (passed_if p h s.rights)) (awaits_if w h k s))) d

-- ---- the handler that was made

some_handler : (k j : ℕ) → Some k ≡ Some j → k ≡ j
some_handler k j e = cc

pub awaited_made : (h k : ℕ) (st : HandlerStage) (s : State) → awaited st ≡ Some k →
    release release_at.Creation (k ∷ []) (put h (takes_answer (s.handlers h)) s) ≡ made_at h st s
awaited_made h k Idle s e = cc
awaited_made h k Runs s e = cc
awaited_made h k (HasMade j) s e = cc
awaited_made h k (Reserves ks mark) s e = cc
awaited_made h k (Awaits j c) s e = ap (λ (i : ℕ). release release_at.Creation (i ∷ []) (put h (takes_answer (s.handlers h)) s)) (sym (some_handler j k e))
