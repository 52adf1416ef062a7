-- Handlers serve as many requests as before where they are asked and created.
use Rattle.std.proofs.Common.{◌≡◌, ◌⊎◌, inl, inr, ◌≤◌, ◌+◌, ◌==◌, ◌&&◌, ◌||◌, not, ℕ, Bool, true, false, List, [], ◌∷◌, Option, Some, None, length, refl, sym, ap, subst, ◌∙◌, arith}
use Rattle.std.proofs.lemmas.Bool.{cases_Bool, cases_eq, eq-eqb, ne_eqb, ltb-true, lt-ltb, ltb-false, le-ltb}
use Rattle.std.specs.Prelude.{if◌then◌else◌, is_some, nat_lt}
use Rattle.std.specs.List.{list_any}
use Rattle.arrayvec.specs.ArrayVec.{ArrayVec}
use Rattle.sc_lockpass.specs.Rights.{is_among, is_handler}
use Rattle.sc_lockpass.specs.Passing.{Passed}
use Rattle.sc_lockpass.specs.wait_conditions.Reservations.{ends_session}
use Rattle.sc_lockpass.specs.declared.wait_conditions.session.Release.{Release}
use Rattle.sc_lockpass.specs.declared.wait_conditions.session.Release.TheVariants as release_at
use Rattle.sc_model.specs.declared.cause.Cause.{Cause}
use Rattle.sc_model.specs.declared.cause.Cause.TheVariants as cause
use Rattle.sc_model.specs.Limits.{max_queue}
use Rattle.sc_region.specs.declared.value.Value.{Value}
use Rattle.sc_region.specs.declared.job.Request.{Request}
use Rattle.sc_handler.specs.Handlers.{Posted, posted, Answer, HandlerStage, Idle, Runs, HasMade, Reserves, Awaits, Service, Handler, State, has_frames, new_handler, put, with_stage}
use Rattle.sc_handler.specs.Changes.{answered, fallen, is_waited_by, placed, requests_at, session_ended, told, counted_refusal, takes_answer}
use Rattle.sc_request.specs.Sessions.{answer_to, fail, finish, is_callback, passed_if, passes, release, return_rights, send, with_handler}
use Rattle.sc_request.specs.Settling.{asks_of, awaits_if, creates, creates_with, creation, made_at, sends}
use Rattle.sc_world.specs.Requests.Serving.{HasFrames}
use Rattle.sc_world.specs.Requests.Settlements.{KeepsServices, known}

-- ---- one handler

pub some_none : {A B : Type 0} (x : A) → Some x ≡ None → B
some_none x e = cc

pub keeps : (x : Handler) → KeepsServices x x
keeps x e = (e, refl, λ f. f)

pub keeps_then : (x y z : Handler) → KeepsServices x y → KeepsServices y z → KeepsServices x z
keeps_then x y z p q e =
    let later = q e in
    let first = p later.0 in
    (first.0, later.1 ∙ first.1, λ f. later.2 (first.2 f))

-- what serves requests has frames at this stage, too
pub staged : (x : Handler) (stage : HandlerStage) → has_frames stage ≡ true → KeepsServices x (record x { stage = stage })
staged x stage has e = (e, refl, by x.services)
  where
    by : (vs : List Service) → HasFrames x.stage vs → HasFrames stage vs
    by [] f = tt
    by (v ∷ vs) f = (has, f.1)

ended_keeps : (b : Bool) (x : Handler) → KeepsServices x (session_ended b x)
ended_keeps true x e = (e, refl, λ f. f)
ended_keeps false x e = (e, refl, λ f. f)

told_keeps : (b : Bool) (x : Handler) → KeepsServices x (told b x)
told_keeps true x e = (e, refl, λ f. f)
told_keeps false x e = (e, refl, λ f. f)

placed_keeps : (b : Bool) (p : Posted) (x : Handler) → KeepsServices x (placed b p x)
placed_keeps true p x e = (e, refl, λ f. f)
placed_keeps false p x e = (e, refl, λ f. f)

pub refusal_keeps : (b : Bool) (x : Handler) → KeepsServices x (counted_refusal b x)
refusal_keeps true x e = (e, refl, λ f. f)
refusal_keeps false x e = (e, refl, λ f. f)

-- ---- states

-- as many handlers, each of which keeps what it serves
pub record Alike (s t : State) : Type 0 where
  pub count : t.count ≡ s.count
  pub handlers : (k : ℕ) → KeepsServices (s.handlers k) (t.handlers k)

-- as many handlers, or more, each of which keeps what it serves
pub record Keep (s t : State) : Type 0 where
  pub more : s.count ≤ t.count
  pub handlers : (k : ℕ) → KeepsServices (known k s) (known k t)

keep_then : (s t u : State) → Keep s t → Keep t u → Keep s u
keep_then s t u p q =
    let one = p.more in
    let two = q.more in
    record { more = omega (arith, one, two); handlers = λ k. keeps_then (known k s) (known k t) (known k u) (p.handlers k) (q.handlers k) }

chosen : (b c : Bool) (x y : Handler) → c ≡ b → KeepsServices x y → KeepsServices (if b then x else new_handler) (if c then y else new_handler)
chosen true true x y e p = p
chosen false false x y e p = keeps new_handler
chosen true false x y e p = cc
chosen false true x y e p = cc

pub alike_keep : (s t : State) → Alike s t → Keep s t
alike_keep s t a =
    let same = a.count in
    record {
      more = omega (arith, same);
      handlers = λ k. chosen (nat_lt k s.count) (nat_lt k t.count) (s.handlers k) (t.handlers k) (ap (λ (n : ℕ). nat_lt k n) a.count) (a.handlers k);
    }

pub alike : (s : State) → Alike s s
alike s = record { count = refl; handlers = λ k. keeps (s.handlers k) }

pub alike_then : (s t u : State) → Alike s t → Alike t u → Alike s u
alike_then s t u p q = record {
  count = q.count ∙ p.count;
  handlers = λ k. keeps_then (s.handlers k) (t.handlers k) (u.handlers k) (p.handlers k) (q.handlers k);
}

pub put_alike : (h : ℕ) (x : Handler) (s : State) → KeepsServices (s.handlers h) x → Alike s (put h x s)
put_alike h x s p = record { count = refl; handlers = λ k. by k (cases_eq k h) }
  where
    by : (k : ℕ) → (k ≡ h) ⊎ (k ≡ h → ⊥) → KeepsServices (s.handlers k) (if k == h then x else s.handlers k)
    by k (inl same) = rw (eq-eqb k h same) (subst (λ (i : ℕ). KeepsServices (s.handlers i) x) (sym same) p)
    by k (inr apart) = rw (ne_eqb k h apart) (keeps (s.handlers k))

pub release_alike : (how : Release) (ks : List ℕ) (s : State) → Alike s (release how ks s)
release_alike how ks s = record { count = refl; handlers = λ k. ended_keeps (ends_session how && is_among k ks) (s.handlers k) }

pub stage_alike : (h : ℕ) (stage : HandlerStage) (s : State) → has_frames stage ≡ true → Alike s (with_stage h stage s)
stage_alike h stage s has = put_alike h (record (s.handlers h) { stage = stage }) s (staged (s.handlers h) stage has)

passes_alike : (b : Bool) (h k : ℕ) (s : State) → Alike s (passes b h k s)
passes_alike true h k s = record { count = refl; handlers = λ j. keeps (s.handlers j) }
passes_alike false h k s = alike s

send_alike : (b : Bool) (k : ℕ) (p : Posted) (s : State) → Alike s (send b k p s)
send_alike b k p s = put_alike k (placed b p (s.handlers k)) s (placed_keeps b p (s.handlers k))

returned_alike : (p : Option Passed) (s : State) → Alike s (return_rights p s)
returned_alike None s = alike s
returned_alike (Some p) s = record { count = refl; handlers = λ k. keeps (s.handlers k) }

answer_alike : (b : Bool) (p : Option ℕ) (a : Answer) (s : State) → Alike s (answer_to b p a s)
answer_alike true (Some p) a s = put_alike p (answered a (s.handlers p)) s (λ e. (e, refl, λ f. f))
answer_alike true None a s = alike s
answer_alike false p a s = alike s

pub finish_alike : (p : Posted) (a : Answer) (s : State) → Alike s (finish p a s)
finish_alike p a s =
    alike_then s (return_rights p.passed s) (finish p a s) (returned_alike p.passed s)
    (answer_alike p.request.is_waited p.request.poster a (return_rights p.passed s))

pub fail_alike : (h : ℕ) (why : Cause) (s : State) → Alike s (fail h why s)
fail_alike h why s = record { count = refl; handlers = λ k. by k (k == h) }
  where
    falls : ℕ → Bool
    falls k = ends_session release_at.Failure && is_handler h (s.rights.queue k)

    waits : ℕ → Bool
    waits k = list_any (is_waited_by k) (requests_at (s.handlers h))

    by : (k : ℕ) (c : Bool) → KeepsServices (s.handlers k) (session_ended (falls k) (if c then fallen why (s.handlers k) else told (waits k) (s.handlers k)))
    by k true = keeps_then (s.handlers k) (fallen why (s.handlers k)) (session_ended (falls k) (fallen why (s.handlers k))) (λ e. some_none why e)
        (ended_keeps (falls k) (fallen why (s.handlers k)))
    by k false = keeps_then (s.handlers k) (told (waits k) (s.handlers k)) (session_ended (falls k) (told (waits k) (s.handlers k))) (told_keeps (waits k) (s.handlers k))
        (ended_keeps (falls k) (told (waits k) (s.handlers k)))

if_keep : (b : Bool) (s t u : State) → Keep s t → Keep s u → Keep s (if b then t else u)
if_keep true s t u p q = p
if_keep false s t u p q = q

-- ---- the job begins

pub made_alike : (h : ℕ) (stage : HandlerStage) (s : State) → Alike s (made_at h stage s)
made_alike h (Awaits k c) s =
    let t : State = put h (takes_answer (s.handlers h)) s in
    alike_then s t (release release_at.Creation (k ∷ []) t)
    (put_alike h (takes_answer (s.handlers h)) s (staged (record (s.handlers h) { answer = None }) Runs refl))
    (release_alike release_at.Creation (k ∷ []) t)
made_alike h Idle s = stage_alike h Runs s refl
made_alike h Runs s = stage_alike h Runs s refl
made_alike h (HasMade k) s = stage_alike h Runs s refl
made_alike h (Reserves ks mark) s = stage_alike h Runs s refl

-- ---- what a turn asks

awaits_alike : (b : Bool) (h k : ℕ) (s : State) → Alike s (awaits_if b h k s)
awaits_alike true h k s = stage_alike h (Awaits k false) s refl
awaits_alike false h k s = alike s

sends_alike : (h k : ℕ) (r : Request) (passing waits : Bool) (s : State) → Alike s (sends h k r passing waits s)
sends_alike h k r passing waits s =
    let t : State = awaits_if waits h k s in
    let p : Posted = posted (record r { is_waited = waits }) (passed_if passing h s.rights) in
    let u : State = send (is_callback h k s) k p t in
    alike_then s u (passes passing h k u) (alike_then s t u (awaits_alike waits h k s) (send_alike (is_callback h k s) k p t)) (passes_alike passing h k u)

pub asks_keep : (h k : ℕ) (r : Request) (passing : Bool) (s : State) → Keep s (asks_of h k r passing s)
asks_keep h k r passing s =
    let sent : State = sends h k r passing (passing || r.is_waited || is_callback h k s) s in
    let full : Bool = not (is_callback h k s) && not (nat_lt (length (s.handlers k).queue) max_queue) in
    if_keep (is_some (s.handlers k).failure) s (fail h cause.SupplierFailed s) (if full then fail h cause.QueueFull s else sent)
    (alike_keep s (fail h cause.SupplierFailed s) (fail_alike h cause.SupplierFailed s))
    (if_keep full s (fail h cause.QueueFull s) sent (alike_keep s (fail h cause.QueueFull s) (fail_alike h cause.QueueFull s))
    (alike_keep s sent (sends_alike h k r passing (passing || r.is_waited || is_callback h k s) s)))

-- a new handler serves nothing, as it did before it was there
handler_keeps : (h k : ℕ) (s : State) → KeepsServices (known k s) (known k (with_handler s.count h s))
handler_keeps h k s = elim (cases_eq k s.count) [
  | inl same ↦
      let none : nat_lt k s.count ≡ false = le-ltb k s.count (omega (arith, same)) in
      let there : nat_lt k (s.count + 1) ≡ true = lt-ltb k (s.count + 1) (omega (arith, same)) in
      let here : (k == s.count) ≡ true = eq-eqb k s.count same in
      rw (none, there, here) (keeps new_handler)
  | inr apart ↦ by (cases_Bool (nat_lt k s.count)) apart
]
  where
    by : (nat_lt k s.count ≡ true) ⊎ (nat_lt k s.count ≡ false) → (k ≡ s.count → ⊥) → KeepsServices (known k s) (known k (with_handler s.count h s))
    by (inl is) apart =
        let l = ltb-true k s.count is in
        let there : nat_lt k (s.count + 1) ≡ true = lt-ltb k (s.count + 1) (omega (arith, l)) in
        let other : (k == s.count) ≡ false = ne_eqb k s.count apart in
        rw (is, there, other) (keeps (s.handlers k))
    by (inr is) apart =
        let l = ltb-false k s.count is in
        let none : nat_lt k (s.count + 1) ≡ false = le-ltb k (s.count + 1) (grind (arith, l, apart)) in
        rw (is, none) (keeps new_handler)

handler_keep : (h : ℕ) (s : State) → Keep s (with_handler s.count h s)
handler_keep h s = record { more = omega arith; handlers = λ k. handler_keeps h k s }

pub creates_keep : (most h class : ℕ) (procedure : Option ℕ) (actuals : ArrayVec Value) (passing : Bool) (s : State) →
    Keep s (creates most h class procedure actuals passing s)
creates_keep most h class procedure actuals passing s =
    if_keep (nat_lt s.count most) s
    (creates_with passing h s.count (creation h s.count class procedure actuals passing) (with_handler s.count h s))
    (fail h cause.TooManyHandlers s) (by passing (creation h s.count class procedure actuals passing))
    (alike_keep s (fail h cause.TooManyHandlers s) (fail_alike h cause.TooManyHandlers s))
  where
    u : State
    u = with_handler s.count h s

    then_alike : (t : State) → Alike u t → Keep s t
    then_alike t a = keep_then s u t (handler_keep h s) (alike_keep u t a)

    by : (b : Bool) (r : Request) → Keep s (creates_with b h s.count r u)
    by true r =
        let t : State = with_stage h (Awaits s.count true) u in
        let p : Posted = posted r (passed_if true h u.rights) in
        let v : State = send false s.count p t in
        then_alike (passes true h s.count v)
        (alike_then u v (passes true h s.count v) (alike_then u t v (stage_alike h (Awaits s.count true) u refl) (send_alike false s.count p t)) (passes_alike true h s.count v))
    by false r =
        let t : State = with_stage h (HasMade s.count) u in
        let v : State = send false s.count (posted r None) t in
        then_alike (release release_at.Creation (s.count ∷ []) v)
        (alike_then u v (release release_at.Creation (s.count ∷ []) v)
        (alike_then u t v (stage_alike h (HasMade s.count) u refl) (send_alike false s.count (posted r None) t))
        (release_alike release_at.Creation (s.count ∷ []) v))
