-- A handler fails, and those that wait for it are told.
use Rattle.std.proofs.Common.{◌≡◌, ◌+◌, ◌==◌, ◌||◌, ◌&&◌, ℕ, Bool, true, false, List, [], ◌∷◌, ◌++◌, Option, Some, None, refl, sym, ap, ◌∙◌, inl, inr}
use Rattle.std.proofs.Math.Path.{fun_ext}
use Rattle.std.proofs.lemmas.Bool.{cases_eq, eq-eqb, ne_eqb}
use Rattle.std.proofs.lemmas.List.Elements.{All-nil, All-cons, All-head, All-tail}
use Rattle.std.specs.Prelude.{map, slice_get, slice_index, if◌then◌else◌}
use Rattle.std.specs.List.{list_any}
use Rattle.sc_lockpass.specs.Rights.{is_handler, release_all}
use Rattle.sc_lockpass.specs.Tables.{Table, rights_of}
use Rattle.sc_model.specs.declared.cause.Cause.{Cause}
use Rattle.sc_handler.specs.declared.handler.Posting.{Posting}
use Rattle.sc_handler.specs.declared.handler.Handler as coded
use Rattle.sc_handler.specs.Handlers.{Answer, SupplierFailed, Posted, Service, Handler, State, put}
use Rattle.sc_handler.specs.Changes.{fallen, heard, is_waited_by, session_ended, to_list, told}
use Rattle.sc_handler.specs.InMemory.{posting_of, service_of}
use Rattle.sc_request.specs.Places.{lets_go, tells}
use Rattle.sc_request.specs.Sessions.{answer_to, fail}
use Rattle.sc_request.specs.Tables.{handler_in, state_of}
use Rattle.sc_request.specs.Sound.{AreServed, ArePlaced, IsPlaced, IsServed}

pub postings_served : (ps : List Posting) → map posting_of ps ≡ map (λ (v : Service). v.posted) (map service_of ps)
postings_served [] = refl
postings_served (p ∷ ps) = ap (λ (l : List Posted). posting_of p ∷ l) (postings_served ps)

-- ---- sessions end

ended_at : (b : Bool) (o : Option coded.Handler) (n m : ℕ) → n ≡ (if b then m + 1 else m) →
    record (handler_in o) { sessions = n } ≡ session_ended b (record (handler_in o) { sessions = m })
ended_at true o n m e = ap (λ (i : ℕ). record (handler_in o) { sessions = i }) e
ended_at false o n m e = ap (λ (i : ℕ). record (handler_in o) { sessions = i }) e

pub goes : (count : ℕ) (xs : List coded.Handler) (ss ss' : List ℕ) (t t' : Table) (h : ℕ) →
    ((k : ℕ) → slice_index ss' k ≡ (if is_handler h ((rights_of t).queue k) then slice_index ss k + 1 else slice_index ss k)) →
    rights_of t' ≡ release_all h (rights_of t) → state_of count xs ss' t' ≡ lets_go h (state_of count xs ss t)
goes count xs ss ss' t t' h e f = λ i. record {
  count = count;
  handlers = fun_ext (λ k. ended_at (is_handler h ((rights_of t).queue k)) (slice_get xs k) (slice_index ss' k) (slice_index ss k) (e k)) i;
  rights = f i;
}

-- ---- those that wait are told

heard_twice : (why : Option Cause) (old : Option Answer) → heard SupplierFailed why (heard SupplierFailed why old) ≡ heard SupplierFailed why old
heard_twice None old = refl
heard_twice (Some c) old = refl

told_or : (a b : Bool) (x : Handler) → told b (told a x) ≡ told (a || b) x
told_or true true x = ap (λ (z : Option Answer). record x { answer = z }) (heard_twice x.failure x.answer)
told_or true false x = refl
told_or false b x = refl

told_one : (w : Bool) (o : Option ℕ) (k : ℕ) (s : State) → (answer_to w o SupplierFailed s).handlers k ≡ told (w && is_handler k o) (s.handlers k)
told_one false o k s = refl
told_one true None k s = refl
told_one true (Some p) k s = elim (cases_eq k p) [
  | inl is ↦ rw (is, eq-eqb p p refl) refl
  | inr apart ↦ rw (ne_eqb k p apart, ne_eqb p k (λ e. apart (sym e))) refl
]

answer_keeps : (w : Bool) (o : Option ℕ) (a : Answer) (s : State) → (answer_to w o a s).rights ≡ s.rights
answer_keeps false o a s = refl
answer_keeps true None a s = refl
answer_keeps true (Some p) a s = refl

answer_counts : (w : Bool) (o : Option ℕ) (a : Answer) (s : State) → (answer_to w o a s).count ≡ s.count
answer_counts false o a s = refl
answer_counts true None a s = refl
answer_counts true (Some p) a s = refl

pub tells_next : (p : Posted) (ps : List Posted) (s s' : State) → s' ≡ answer_to p.request.is_waited p.request.poster SupplierFailed s →
    tells ps s' ≡ tells (p ∷ ps) s
tells_next p ps s s' e = ap (λ (z : State). tells ps z) e ∙ (λ i. record {
  count = answer_counts p.request.is_waited p.request.poster SupplierFailed s i;
  handlers = fun_ext (λ k. ap (λ (x : Handler). told (list_any (is_waited_by k) ps) x) (told_one p.request.is_waited p.request.poster k s)
      ∙ told_or (is_waited_by k p) (list_any (is_waited_by k) ps) (s.handlers k)) i;
  rights = answer_keeps p.request.is_waited p.request.poster SupplierFailed s i;
})

-- ---- the failure

or_parts : (a b c : Bool) → (a || (b || c)) ≡ ((a || b) || c)
or_parts true b c = refl
or_parts false b c = refl

any_both : (p : Posted → Bool) (xs ys : List Posted) → list_any p (xs ++ ys) ≡ (list_any p xs || list_any p ys)
any_both p [] ys = refl
any_both p (x ∷ xs) ys = ap (λ b. p x || b) (any_both p xs ys) ∙ or_parts (p x) (list_any p xs) (list_any p ys)

told_ended : (a b : Bool) (x : Handler) → told a (session_ended b x) ≡ session_ended b (told a x)
told_ended true true x = refl
told_ended true false x = refl
told_ended false b x = refl

told_fallen : (b : Bool) (why : Cause) (x : Handler) → told b (fallen why x) ≡ fallen why x
told_fallen true why x = refl
told_fallen false why x = refl

fallen_ended : (b : Bool) (why : Cause) (x : Handler) → fallen why (session_ended b x) ≡ session_ended b (fallen why x)
fallen_ended true why x = refl
fallen_ended false why x = refl

told_all : (p : Posted → Bool) (q c v : List Posted) (x : Handler) →
    told (list_any p v) (told (list_any p c) (told (list_any p q) x)) ≡ told (list_any p (q ++ c ++ v)) x
told_all p q c v x =
    ap (λ (z : Handler). told (list_any p v) z) (told_or (list_any p q) (list_any p c) x)
    ∙ told_or (list_any p q || list_any p c) (list_any p v) x
    ∙ ap (λ (b : Bool). told (b || list_any p v) x) (sym (any_both p q c))
    ∙ ap (λ (b : Bool). told b x) (sym (any_both p (q ++ c) v))

-- the failure at one handler
fails_at : (h k : ℕ) (why : Cause) (s : State) (q c v : List Posted) →
    told (list_any (is_waited_by k) v) (told (list_any (is_waited_by k) c) (told (list_any (is_waited_by k) q)
    (if k == h then fallen why ((lets_go h s).handlers h) else (lets_go h s).handlers k))) ≡
    session_ended (is_handler h (s.rights.queue k)) (if k == h then fallen why (s.handlers k) else told (list_any (is_waited_by k) (q ++ c ++ v)) (s.handlers k))
fails_at h k why s q c v =
    let b = is_handler h (s.rights.queue k) in
    elim (cases_eq k h) [
      | inl is ↦ rw (is, eq-eqb h h refl)
          (told_all (is_waited_by h) q c v (fallen why (session_ended (is_handler h (s.rights.queue h)) (s.handlers h)))
          ∙ told_fallen (list_any (is_waited_by h) (q ++ c ++ v)) why (session_ended (is_handler h (s.rights.queue h)) (s.handlers h))
          ∙ fallen_ended (is_handler h (s.rights.queue h)) why (s.handlers h))
      | inr apart ↦ rw (ne_eqb k h apart)
          (told_all (is_waited_by k) q c v (session_ended b (s.handlers k)) ∙ told_ended (list_any (is_waited_by k) (q ++ c ++ v)) b (s.handlers k))
    ]

ended_queue : (b : Bool) (x : Handler) → (session_ended b x).queue ≡ x.queue
ended_queue true x = refl
ended_queue false x = refl

ended_callback : (b : Bool) (x : Handler) → (session_ended b x).callback ≡ x.callback
ended_callback true x = refl
ended_callback false x = refl

ended_services : (b : Bool) (x : Handler) → (session_ended b x).services ≡ x.services
ended_services true x = refl
ended_services false x = refl

abbrev all_told : ℕ → Cause → List Posted → List Posted → List Posted → State → State
all_told h why q c v s1 = tells v (tells c (tells q (put h (fallen why (s1.handlers h)) s1)))

fails_so : (h : ℕ) (why : Cause) (s : State) →
    all_told h why (s.handlers h).queue (to_list (s.handlers h).callback) (map (λ (v : Service). v.posted) (s.handlers h).services) (lets_go h s) ≡ fail h why s
fails_so h why s = λ i. record {
  count = s.count;
  handlers = fun_ext (λ k. fails_at h k why s (s.handlers h).queue (to_list (s.handlers h).callback) (map (λ (v : Service). v.posted) (s.handlers h).services)) i;
  rights = release_all h s.rights;
}

pub same_queue : (h : ℕ) (s s1 : State) (q : List Posted) → s1 ≡ lets_go h s → q ≡ (s1.handlers h).queue → q ≡ (s.handlers h).queue
same_queue h s s1 q e f = f ∙ ap (λ (z : State). (z.handlers h).queue) e ∙ ended_queue (is_handler h (s.rights.queue h)) (s.handlers h)

pub same_callback : (h : ℕ) (s s1 : State) (q : List Posted) → s1 ≡ lets_go h s → q ≡ to_list (s1.handlers h).callback → q ≡ to_list (s.handlers h).callback
same_callback h s s1 q e f =
    f ∙ ap (λ (z : State). to_list (z.handlers h).callback) e ∙ ap (λ (o : Option Posted). to_list o) (ended_callback (is_handler h (s.rights.queue h)) (s.handlers h))

pub same_services : (h : ℕ) (s s1 : State) (q : List Posted) → s1 ≡ lets_go h s → q ≡ map (λ (v : Service). v.posted) (s1.handlers h).services →
    q ≡ map (λ (v : Service). v.posted) (s.handlers h).services
same_services h s s1 q e f =
    f ∙ ap (λ (z : State). map (λ (v : Service). v.posted) (z.handlers h).services) e
    ∙ ap (λ (vs : List Service). map (λ (v : Service). v.posted) vs) (ended_services (is_handler h (s.rights.queue h)) (s.handlers h))

-- all that a failure comes to
pub failed_so : (h : ℕ) (why : Cause) (s s1 s2 s3 s4 s5 : State) (q c v : List Posted) → s1 ≡ lets_go h s → s2 ≡ put h (fallen why (s1.handlers h)) s1 →
    q ≡ (s1.handlers h).queue → c ≡ to_list (s1.handlers h).callback → v ≡ map (λ (v : Service). v.posted) (s1.handlers h).services →
    s3 ≡ tells q s2 → s4 ≡ tells c s3 → s5 ≡ tells v s4 → s5 ≡ fail h why s
failed_so h why s s1 s2 s3 s4 s5 q c v e f g i j a b d =
    d ∙ ap (λ (z : State). tells v z) (b ∙ ap (λ (z : State). tells c z) (a ∙ ap (λ (z : State). tells q z) f))
    ∙ ap (λ (z : List Posted). all_told h why z c v s1) (same_queue h s s1 q e g)
    ∙ ap (λ (z : List Posted). all_told h why (s.handlers h).queue z v s1) (same_callback h s s1 c e i)
    ∙ ap (λ (z : List Posted). all_told h why (s.handlers h).queue (to_list (s.handlers h).callback) z s1) (same_services h s s1 v e j)
    ∙ ap (λ (z : State). all_told h why (s.handlers h).queue (to_list (s.handlers h).callback) (map (λ (v : Service). v.posted) (s.handlers h).services) z) e
    ∙ fails_so h why s

pub served_placed : (vs : List Service) → AreServed vs → ArePlaced (map (λ (v : Service). v.posted) vs)
served_placed [] e = All-nil IsPlaced
served_placed (v ∷ vs) e =
    All-cons IsPlaced v.posted (map (λ (u : Service). u.posted) vs) (All-head IsServed v vs e).placed (served_placed vs (All-tail IsServed v vs e))
