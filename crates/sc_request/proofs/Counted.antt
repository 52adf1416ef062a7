-- A settlement ends at most one session of each handler, and counts at most one refusal of each.
use Rattle.std.proofs.Common.{◌≡◌, ◌+◌, ◌≤◌, ◌==◌, ◌&&◌, ◌||◌, ◌⊎◌, ℕ, Bool, true, false, not, List, [], ◌∷◌, Option, Some, None, refl, sym, ap, subst, ◌∙◌, inl, inr, length, arith}
use Rattle.std.proofs.lemmas.Bool.{cases_Bool, and_parts, or_cases, eq-eqb, eqb-true}
use Rattle.std.specs.Prelude.{is_some, nat_lt, if◌then◌else◌}
use Rattle.std.specs.List.{list_all, list_any}
use Rattle.arrayvec.specs.ArrayVec.{ArrayVec}
use Rattle.sc_lockpass.specs.Rights.{is_among, is_handler}
use Rattle.sc_lockpass.specs.Passing.{Passed}
use Rattle.sc_lockpass.specs.wait_conditions.Reservations.{ends_session}
use Rattle.sc_lockpass.specs.declared.wait_conditions.session.Release.{Release}
use Rattle.sc_lockpass.specs.declared.wait_conditions.session.Release.TheVariants as release_at
use Rattle.sc_model.specs.declared.cause.Cause.{Cause}
use Rattle.sc_model.specs.declared.cause.Cause.TheVariants as cause
use Rattle.sc_model.specs.Limits.{max_queue}
use Rattle.sc_region.specs.declared.value.Value.{Value}
use Rattle.sc_region.specs.declared.job.Request.{Request}
use Rattle.sc_region.specs.declared.job.Job.{Job}
use Rattle.sc_region.specs.declared.job.Want.{Want}
use Rattle.sc_region.specs.declared.job.Want.TheVariants as want
use Rattle.sc_handler.specs.Handlers.{Posted, posted, Answer, Replied, Refused, HandlerStage, HasMade, Reserves, Awaits, Service, Handler, State, new_handler, put, with_stage}
use Rattle.sc_handler.specs.Changes.{session_ended, placed, answered, requests_at, is_waited_by, told, fallen, counted_refusal}
use Rattle.sc_handler.specs.Fits.{fits_turns}
use Rattle.sc_request.specs.Sessions.{release, passed_if, passes, send, is_callback, with_handler, answer_to, return_rights, finish, fail}
use Rattle.sc_request.specs.Settling.{begun, reserves, awaits_if, sends, asks_of, creation, creates_with, creates, ends_service, ends, done, posts_unheld, may_post_to_all, may_ask, done_if, asked_in, settled}
use Rattle.sc_request.proofs.BegunCounts.{Grew, Grows, Same, begun_began, ended_refused, ended_sessions, few_if, grew_then, grown_same, if_same, one_if, placed_refused, placed_sessions, put_same, refl_same, rights_same, same_grew, same_then, told_refused, told_sessions}

-- ---- what is asked

among_all : (p : ℕ → Bool) (k : ℕ) (ks : List ℕ) → list_all p ks ≡ true → is_among k ks ≡ true → p k ≡ true
among_all p k [] all is = cc
among_all p k (j ∷ ks) all is =
    let parts = and_parts (p j) (list_all p ks) all in
    elim (or_cases (j == k) (is_among k ks) is) [
      | inl same ↦ subst (λ (i : ℕ). p i ≡ true) (eqb-true j k same) parts.0
      | inr rest ↦ among_all p k ks parts.1 rest
    ]

-- a session ends only where the handler may post
ends_where : (may b : Bool) (n m : ℕ) → (b ≡ true → may ≡ true) → m ≡ n + one_if b → Grows may n m
ends_where true true n m e f = inl (omega (arith, f))
ends_where true false n m e f = inl (omega (arith, f))
ends_where false true n m e f = let no = e refl in cc
ends_where false false n m e f = inl (omega (arith, f))

ends_and : (a b : Bool) → (a && b) ≡ true → b ≡ true
ends_and true b e = e
ends_and false b e = cc

released_grew : (h : ℕ) (how : Release) (ks : List ℕ) (s : State) → may_post_to_all h ks s ≡ true → Grew h s (release how ks s)
released_grew h how ks s may = record {
  sessions = λ k.
      let b = ends_session how && is_among k ks in
      ends_where (is_handler h (s.rights.queue k)) b (s.handlers k).sessions ((release how ks s).handlers k).sessions
      (λ is. among_all (λ j. is_handler h (s.rights.queue j)) k ks may (ends_and (ends_session how) (is_among k ks) is)) (ended_sessions b (s.handlers k));
  refused = λ k. let e = ended_refused (ends_session how && is_among k ks) (s.handlers k) in omega (arith, e);
}

fallen_sessions : (b : Bool) (why : Cause) (w : Bool) (x : Handler) → (if b then fallen why x else told w x).sessions ≡ x.sessions
fallen_sessions true why w x = refl
fallen_sessions false why w x = told_sessions w x

fallen_refused : (b : Bool) (why : Cause) (w : Bool) (x : Handler) → (if b then fallen why x else told w x).refused ≡ x.refused
fallen_refused true why w x = refl
fallen_refused false why w x = told_refused w x

failed_grew : (h : ℕ) (why : Cause) (s : State) → Grew h s (fail h why s)
failed_grew h why s = record {
  sessions = λ k.
      let b = is_handler h (s.rights.queue k) in
      let w = list_any (is_waited_by k) (requests_at (s.handlers h)) in
      let x = if k == h then fallen why (s.handlers k) else told w (s.handlers k) in
      let e = fallen_sessions (k == h) why w (s.handlers k) in
      ends_where b b (s.handlers k).sessions ((fail h why s).handlers k).sessions (λ is. is) (ended_sessions b x ∙ ap (λ (n : ℕ). n + one_if b) e);
  refused = λ k.
      let b = is_handler h (s.rights.queue k) in
      let w = list_any (is_waited_by k) (requests_at (s.handlers h)) in
      let x = if k == h then fallen why (s.handlers k) else told w (s.handlers k) in
      let e = ended_refused b x ∙ fallen_refused (k == h) why w (s.handlers k) in
      omega (arith, e);
}

-- ---- requests

send_same : (b : Bool) (k : ℕ) (p : Posted) (s : State) → Same s (send b k p s)
send_same b k p s = put_same k (placed b p (s.handlers k)) s (placed_sessions b p (s.handlers k)) (placed_refused b p (s.handlers k))

passes_same : (b : Bool) (h k : ℕ) (s : State) → Same s (passes b h k s)
passes_same true h k s = rights_same s (passes true h k s) refl
passes_same false h k s = refl_same s

stage_same : (h : ℕ) (st : HandlerStage) (s : State) → Same s (with_stage h st s)
stage_same h st s = put_same h (record (s.handlers h) { stage = st }) s refl refl

awaits_same : (b : Bool) (h k : ℕ) (s : State) → Same s (awaits_if b h k s)
awaits_same false h k s = refl_same s
awaits_same true h k s = stage_same h (Awaits k false) s

sends_same : (h k : ℕ) (r : Request) (passing waits : Bool) (s : State) → Same s (sends h k r passing waits s)
sends_same h k r passing waits s =
    let p = posted (record r { is_waited = waits }) (passed_if passing h s.rights) in
    let t = awaits_if waits h k s in
    let u = send (is_callback h k s) k p t in
    same_then s u (sends h k r passing waits s) (same_then s t u (awaits_same waits h k s) (send_same (is_callback h k s) k p t)) (passes_same passing h k u)

if_grew : (h : ℕ) (b : Bool) (s t u : State) → Grew h s t → Grew h s u → Grew h s (if b then t else u)
if_grew h true s t u e f = e
if_grew h false s t u e f = f

asks_grew : (h k : ℕ) (r : Request) (passing : Bool) (s : State) → Grew h s (asks_of h k r passing s)
asks_grew h k r passing s =
    let waits = passing || r.is_waited || is_callback h k s in
    let full = not (is_callback h k s) && not (nat_lt (length (s.handlers k).queue) max_queue) in
    let sent = sends h k r passing waits s in
    if_grew h (is_some (s.handlers k).failure) s (fail h cause.SupplierFailed s) (if full then fail h cause.QueueFull s else sent)
    (failed_grew h cause.SupplierFailed s)
    (if_grew h full s (fail h cause.QueueFull s) sent (failed_grew h cause.QueueFull s) (same_grew h s sent (sends_same h k r passing waits s)))

-- ---- a handler is made

-- The counts of the new handler are one at most, and all others the same.
record Made (k : ℕ) (s t : State) : Type 0 where
  sessions : (j : ℕ) → ((j == k) ≡ true → (t.handlers j).sessions ≤ 1) × ((j == k) ≡ false → (t.handlers j).sessions ≡ (s.handlers j).sessions)
  refused : (j : ℕ) → (t.handlers j).refused ≤ (s.handlers j).refused

made_grew : (h k : ℕ) (s t : State) → Made k s t → Grew h s t
made_grew h k s t m = record {
  sessions = λ j. elim (cases_Bool (j == k)) [
    | inl is ↦ inr ((m.sessions j).0 is)
    | inr other ↦ grown_same (is_handler h (s.rights.queue j)) (s.handlers j).sessions (t.handlers j).sessions ((m.sessions j).1 other)
  ];
  refused = λ j. let l = m.refused j in omega (arith, l);
}

-- none of its sessions has ended
record New (k : ℕ) (s t : State) : Type 0 where
  sessions : (j : ℕ) → ((j == k) ≡ true → (t.handlers j).sessions ≡ 0) × ((j == k) ≡ false → (t.handlers j).sessions ≡ (s.handlers j).sessions)
  refused : (j : ℕ) → (t.handlers j).refused ≤ (s.handlers j).refused

new_sessions : (b : Bool) (x : Handler) → (b ≡ true → (if b then new_handler else x).sessions ≡ 0) × (b ≡ false → (if b then new_handler else x).sessions ≡ x.sessions)
new_sessions true x = (λ e. refl, λ e. cc)
new_sessions false x = (λ e. cc, λ e. refl)

new_refused : (b : Bool) (x : Handler) → (if b then new_handler else x).refused ≤ x.refused
new_refused true x = omega arith
new_refused false x = omega arith

with_new : (k h : ℕ) (s : State) → New k s (with_handler k h s)
with_new k h s = record { sessions = λ j. new_sessions (j == k) (s.handlers j); refused = λ j. new_refused (j == k) (s.handlers j) }

new_then : (k : ℕ) (s t u : State) → New k s t → Same t u → New k s u
new_then k s t u n same = record {
  sessions = λ j. (λ e. same.sessions j ∙ (n.sessions j).0 e, λ e. same.sessions j ∙ (n.sessions j).1 e);
  refused = λ j. let e = same.refused j in let l = n.refused j in omega (arith, e, l);
}

new_made : (k : ℕ) (s t : State) → New k s t → Made k s t
new_made k s t n = record {
  sessions = λ j. (λ e. let z = (n.sessions j).0 e in omega (arith, z), (n.sessions j).1);
  refused = n.refused;
}

among_one : (k j : ℕ) → is_among j (k ∷ []) ≡ true → (j == k) ≡ true
among_one k j e = elim (or_cases (k == j) false e) [
  | inl is ↦ eq-eqb j k (sym (eqb-true k j is))
  | inr nothing ↦ cc
]

apart_one : (k j : ℕ) (x : Handler) → (j == k) ≡ false → (b : Bool) → is_among j (k ∷ []) ≡ b → (session_ended b x).sessions ≡ x.sessions
apart_one k j x e true is = let no = among_one k j is in cc
apart_one k j x e false is = refl

released_made : (k : ℕ) (s t : State) → New k s t → Made k s (release release_at.Creation (k ∷ []) t)
released_made k s t n = record {
  sessions = λ j. (
    λ e. let z = (n.sessions j).0 e in let f = ended_sessions (is_among j (k ∷ [])) (t.handlers j) in let l = few_if (is_among j (k ∷ [])) in omega (arith, z, f, l),
    λ e. apart_one k j (t.handlers j) e (is_among j (k ∷ [])) refl ∙ (n.sessions j).1 e,
  );
  refused = λ j. let e = ended_refused (is_among j (k ∷ [])) (t.handlers j) in let l = n.refused j in omega (arith, e, l);
}

creates_with_grew : (g h k : ℕ) (b : Bool) (r : Request) (s t : State) → New k s t → Grew g s (creates_with b h k r t)
creates_with_grew g h k true r s t n =
    let p = posted r (passed_if true h t.rights) in
    let u = with_stage h (Awaits k true) t in
    let v = send false k p u in
    made_grew g k s (passes true h k v) (new_made k s (passes true h k v) (new_then k s t (passes true h k v) n
    (same_then t v (passes true h k v) (same_then t u v (stage_same h (Awaits k true) t) (send_same false k p u)) (passes_same true h k v))))
creates_with_grew g h k false r s t n =
    let u = with_stage h (HasMade k) t in
    let v = send false k (posted r None) u in
    made_grew g k s (release release_at.Creation (k ∷ []) v) (released_made k s v (new_then k s t v n
    (same_then t u v (stage_same h (HasMade k) t) (send_same false k (posted r None) u))))

creates_grew : (most h class : ℕ) (procedure : Option ℕ) (actuals : ArrayVec Value) (passing : Bool) (s : State) → Grew h s (creates most h class procedure actuals passing s)
creates_grew most h class procedure actuals passing s =
    let t = creates_with passing h s.count (creation h s.count class procedure actuals passing) (with_handler s.count h s) in
    if_grew h (nat_lt s.count most) s t (fail h cause.TooManyHandlers s)
    (creates_with_grew h h s.count passing (creation h s.count class procedure actuals passing) s (with_handler s.count h s) (with_new s.count h s))
    (failed_grew h cause.TooManyHandlers s)

-- ---- a request ends

answer_same : (b : Bool) (o : Option ℕ) (a : Answer) (s : State) → Same s (answer_to b o a s)
answer_same true (Some p) a s = put_same p (answered a (s.handlers p)) s refl refl
answer_same true None a s = refl_same s
answer_same false o a s = refl_same s

return_same : (o : Option Passed) (s : State) → Same s (return_rights o s)
return_same None s = refl_same s
return_same (Some p) s = rights_same s (return_rights (Some p) s) refl

finish_same : (p : Posted) (a : Answer) (s : State) → Same s (finish p a s)
finish_same p a s =
    same_then s (return_rights p.passed s) (finish p a s) (return_same p.passed s) (answer_same p.request.is_waited p.request.poster a (return_rights p.passed s))

counted_sessions : (b : Bool) (x : Handler) → (counted_refusal b x).sessions ≡ x.sessions
counted_sessions true x = refl
counted_sessions false x = refl

counted_refused : (b : Bool) (x : Handler) → (counted_refusal b x).refused ≤ x.refused + 1
counted_refused true x = omega arith
counted_refused false x = omega arith

if_most : (b : Bool) (x y : Handler) (n : ℕ) → (b ≡ true → x.refused ≤ n) → y.refused ≤ n → (if b then x else y).refused ≤ n
if_most true x y n e f = e refl
if_most false x y n e f = f

-- the handler changes, and one refusal at most is counted; then these are released
refusal_grew : (h : ℕ) (how : Release) (ks : List ℕ) (x : Handler) (s : State) → may_post_to_all h ks s ≡ true → x.sessions ≡ (s.handlers h).sessions →
    x.refused ≤ (s.handlers h).refused + 1 → Grew h s (release how ks (put h x s))
refusal_grew h how ks x s may e l = record {
  sessions = λ k.
      let own = if_same (k == h) x (s.handlers k) (s.handlers k).sessions (λ (y : Handler). y.sessions) (λ is. e ∙ ap (λ (j : ℕ). (s.handlers j).sessions) (sym (eqb-true k h is))) refl in
      subst (λ (n : ℕ). Grows (is_handler h (s.rights.queue k)) n ((release how ks (put h x s)).handlers k).sessions) own
      ((released_grew h how ks (put h x s) may).sessions k);
  refused = λ k.
      let f = ended_refused (ends_session how && is_among k ks) ((put h x s).handlers k) in
      let m = if_most (k == h) x (s.handlers k) ((s.handlers k).refused + 1) (λ is. subst (λ (j : ℕ). x.refused ≤ (s.handlers j).refused + 1) (sym (eqb-true k h is)) l) (omega arith) in
      omega (arith, f, m);
}

service_grew : (h : ℕ) (refused : Bool) (v : Option Value) (ks : List ℕ) (e : Service) (x : Handler) (s : State) → may_post_to_all h ks s ≡ true →
    x.sessions ≡ (s.handlers h).sessions → x.refused ≡ (s.handlers h).refused → Grew h s (ends_service refused h v ks e x s)
service_grew h false v ks e x s may same count =
    let t = release release_at.Exit ks (put h x s) in
    grew_then h s t (finish e.posted (Replied v) t) (refusal_grew h release_at.Exit ks x s may same (omega (arith, count))) (finish_same e.posted (Replied v) t)
service_grew h true v ks e x s may same count =
    let w = e.posted.request.is_waited in
    let y = counted_refusal w x in
    let t = release release_at.Refusal ks (put h y s) in
    let l = counted_refused w x in
    grew_then h s t (finish e.posted Refused t) (refusal_grew h release_at.Refusal ks y s may (counted_sessions w x ∙ same) (omega (arith, l, count))) (finish_same e.posted Refused t)

ends_grew : (h : ℕ) (v : Option Value) (ks : List ℕ) (refused : Bool) (vs : List Service) (s : State) → may_post_to_all h ks s ≡ true → Grew h s (ends h v ks refused vs s)
ends_grew h v ks refused [] s may = failed_grew h cause.BadCode s
ends_grew h v ks refused (e ∷ es) s may = service_grew h refused v ks e (record (s.handlers h) { stage = e.over; services = es }) s may refl refl

-- ---- what comes of it

done_grew : (most h : ℕ) (w : Want) (s : State) → may_ask h w s ≡ true → Grew h s (done most h w s)
done_grew most h want.Continue s may = same_grew h s s (refl_same s)
done_grew most h (want.Reserve ks) s may = same_grew h s (reserves h ks.items s) (put_same h (record (s.handlers h) { stage = Reserves ks.items []; entry = ks.items }) s refl refl)
done_grew most h (want.Post r) s may = asks_grew h r.target.handler r false s
done_grew most h (want.Ask r passing) s may = asks_grew h r.target.handler r passing s
done_grew most h (want.Create class procedure actuals passing) s may = creates_grew most h class procedure actuals passing s
done_grew most h (want.Release ks) s may = released_grew h release_at.Leave ks.items s may
done_grew most h (want.Wait ks) s may =
    let t = with_stage h (Reserves (s.handlers h).entry _) s in
    same_grew h s (release release_at.FalseWaitCondition ks.items t)
    (same_then s t (release release_at.FalseWaitCondition ks.items t) (stage_same h (Reserves (s.handlers h).entry _) s) (rights_same t (release release_at.FalseWaitCondition ks.items t) refl))
done_grew most h (want.Done v ks refused) s may = ends_grew h v ks.items refused (s.handlers h).services s may
done_grew most h (want.Fail why) s may = failed_grew h why s

done_if_grew : (most h : ℕ) (unheld fits : Bool) (w : Want) (s : State) → (fits ≡ true → may_ask h w s ≡ true) → Grew h s (done_if unheld fits most h w s)
done_if_grew most h true fits w s may = failed_grew h cause.NotHeld s
done_if_grew most h false true w s may = done_grew most h w s (may refl)
done_if_grew most h false false w s may = failed_grew h cause.BadCode s

asked_grew : (most h : ℕ) (fits : Bool) (w : Want) (s : State) → Grew h s (asked_in fits most h w s)
asked_grew most h fits w s = done_if_grew most h (posts_unheld h w s) (fits && may_ask h w s) w s (λ e. (and_parts fits (may_ask h w s) e).1)

-- ---- a settlement

counts_both : (c h n m l : ℕ) (q : Option ℕ) → n ≤ c → (m ≡ n) ⊎ ((m ≡ n + 1) × (q ≡ None)) → Grows (is_handler h q) m l → l ≤ c + 1
counts_both c h n m l q few (inl same) (inl most) = let b = few_if (is_handler h q) in omega (arith, few, same, most, b)
counts_both c h n m l q few (inr (more, none)) (inl most) =
    let z : l ≤ m + 0 = subst (λ (o : Option ℕ). l ≤ m + one_if (is_handler h o)) none most in
    omega (arith, few, more, z)
counts_both c h n m l q few begun (inr new) = omega (arith, new)

-- Where so many settlements were made, and the counts of a handler aren't more, they aren't more after one more.
pub counted : (c most h : ℕ) (j : Job) (turns : ℕ) (w : Want) (s : State) (k : ℕ) → (s.handlers k).sessions ≤ c → (s.handlers k).refused ≤ c →
    (((settled most h j turns w s).handlers k).sessions ≤ c + 1) × (((settled most h j turns w s).handlers k).refused ≤ c + 1)
counted c most h j turns w s k sessions refused =
    let t = begun h j s in
    let fits = fits_turns turns (s.handlers h).stage j w in
    let began = begun_began h j s in
    let grew = asked_grew most h fits w t in
    let same = began.refused k in
    let more = grew.refused k in (
      counts_both c h (s.handlers k).sessions (t.handlers k).sessions ((settled most h j turns w s).handlers k).sessions (t.rights.queue k) sessions (began.sessions k) (grew.sessions k),
      omega (arith, refused, same, more),
    )
