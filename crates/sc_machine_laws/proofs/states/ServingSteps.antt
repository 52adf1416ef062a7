-- Steps of one handler, asks, reservations and releases keep each open wait served.
use Rattle.std.proofs.Common.{◌≡◌, ◌≢◌, ⊎_elim, inl, inr, ℕ, suc, ◌≤◌, List, [], ◌∷◌, ◌++◌, Some, None, Bool, true, false, refl, sym, ap, ◌∙◌, subst, arith}
use Rattle.sc_machine_laws.specs.states.World.{Grant, Reservation, Wait, Request, Handler, World, has, put, post, take_request, take_callback, enter, take_answer, begun, rest_of, resumed, arrive, land, request, ask, ask_passing, relisted, relist, reservations, reserve, settle, release, requests_of, and_this, and_begun}
use Rattle.sc_machine_laws.specs.states.Steps.{answered, waits_for, IsActive, IsTold, MayAsk}
use Rattle.sc_machine_laws.specs.states.Consistent.{IsOpen, IsOne, IsConsistent}
use Rattle.sc_machine_laws.specs.states.Served.{Serves, IsServed}
use Rattle.sc_machine_laws.proofs.states.Rights.{put-same, put-other}
use Rattle.sc_machine_laws.proofs.states.Shrinks.{at_each}
use Rattle.sc_machine_laws.proofs.states.PostedRequests.{requests_end, posting_simple}
use Rattle.sc_machine_laws.proofs.states.PushedFrames.{taking_simple, calling_back_simple, entering_simple}
use Rattle.sc_machine_laws.proofs.states.PoppedFrames.{answering_simple, resumed_requests}
use Rattle.sc_machine_laws.proofs.states.Arrivals.{CallsBack}
use Rattle.sc_machine_laws.proofs.states.Posters.{began, began_failed, began_requests, less_open, more_told}
use Rattle.sc_machine_laws.proofs.states.Asks.{plain_calls, passing_calls, passing_queue, passing_top}
use Rattle.sc_machine_laws.proofs.states.Reservations.{relisted_asked, relisting_simple}
use Rattle.sc_machine_laws.proofs.states.Served.{moved_served, simple_served}

one_more : (r q : Request) (rs : List Request) → IsOne r rs → IsOne r (rs ++ q ∷ [])
one_more r q [] i = absurd i
one_more r q (x ∷ rs) (inl e) = inl e
one_more r q (x ∷ rs) (inr i) = inr (one_more r q rs i)

one_last : (q : Request) (rs : List Request) → IsOne q (rs ++ q ∷ [])
one_last q [] = inl refl
one_last q (x ∷ rs) = inr (one_last q rs)

pub posting_served : (h k : ℕ) (w : World) → (w.handlers k).failed ≡ false → IsConsistent w → IsServed w → IsServed
    (post h k w)
posting_served h k w alive fine served =
    let q : Request = record { number = w.next; poster = h; waited = false; passed = None; asked = w.asks } in
    simple_served w k (arrive false (record { number = w.next; poster = h; waited = false; passed = None; asked = w.asks })
    (w.handlers k)) (suc w.next) (posting_simple h k w alive fine)
    (λ p x r o th one num poster waited. inr
    (subst (IsOne r) (sym (requests_end (w.handlers k) q)) (one_more r q (requests_of (w.handlers k)) one)))
    served

pub taking_served : (h : ℕ) (r : Request) (rs : List Request) (w : World) → (w.handlers h).failed ≡ false
    → (w.handlers h).stack ≡ [] → (w.handlers h).requests ≡ r ∷ rs → IsConsistent w → IsServed w → IsServed
    (take_request h r w)
taking_served h r rs w alive idle first fine served =
    let c = fine.clear h (alive, ap waits_for idle) in
    let g : Handler = record (w.handlers h) {
      stack = begun r (w.handlers h).stack;
      requests = rest_of
          (w.handlers h).requests;
    } in
    let same : requests_of g ≡ requests_of (w.handlers h) =
    ap (λ o. and_this o (r ∷ and_begun (w.handlers h).stack (rest_of (w.handlers h).requests))) c.1
    ∙ ap (λ s. r ∷ and_begun s (rest_of (w.handlers h).requests)) idle
    ∙ ap (λ q. r ∷ rest_of q) first ∙ sym first
    ∙ ap (λ s. and_begun s (w.handlers h).requests) (sym idle)
    ∙ ap (λ o. and_this o (and_begun (w.handlers h).stack (w.handlers h).requests)) (sym c.1) in
    simple_served w h (record (w.handlers h) {
      stack = begun r (w.handlers h).stack;
      requests = rest_of
          (w.handlers h).requests;
    }) w.next (taking_simple h r rs w alive idle first fine)
    (λ p x q o th one num poster waited. inr (subst (IsOne q) (sym same) one)) served

pub calling_back_served : (h : ℕ) (r : Request) (w : World) → (w.handlers h).failed ≡ false
    → (w.handlers h).callback ≡ Some r → IsConsistent w → IsServed w → IsServed (take_callback h r w)
calling_back_served h r w alive waits fine served =
    simple_served w h (record (w.handlers h) { stack = begun r (w.handlers h).stack; callback = None }) w.next
    (calling_back_simple h r w alive waits fine)
    (λ p x q o th one num poster waited. inr
    (subst (λ c. IsOne q (and_this c (and_begun (w.handlers h).stack (w.handlers h).requests))) waits one)) served

pub entering_served : (h : ℕ) (w : World) → IsActive (w.handlers h) → IsConsistent w → IsServed w → IsServed
    (enter h w)
entering_served h w active fine served =
    simple_served w h (record (w.handlers h)
    { stack = record { origin = None; reserved = []; needs = []; waits = None } ∷ (w.handlers h).stack }) w.next
    (entering_simple h w active fine)
    (λ p x q o th one num poster waited. inr one) served

pub answering_served : (h : ℕ) (w : World) → (w.handlers h).failed ≡ false → answered (w.handlers h).answer ≡ true
    → IsConsistent w → IsServed w → IsServed (take_answer h w)
answering_served h w alive over fine served =
    simple_served w h (record (w.handlers h) { stack = resumed (w.handlers h).stack; answer = None }) w.next
    (answering_simple h w alive over fine)
    (λ p x q o th one num poster waited. inr
    (subst (λ l. IsOne q (and_this (w.handlers h).callback l))
    (sym (resumed_requests (w.handlers h).stack (w.handlers h).requests)) one)) served

relisting_served : (h : ℕ) (r : List Reservation) (n : List ℕ) (m : ℕ) (w : World) → IsActive (w.handlers h)
    → w.next ≤ m → IsConsistent w → IsServed w → IsServed (relist h r n m w)
relisting_served h r n m w active le fine served =
    simple_served w h (record (w.handlers h) { stack = relisted r n (w.handlers h).stack }) m
    (relisting_simple h r n m w active le fine)
    (λ p x q o th one num poster waited. inr
    (subst (λ l. IsOne q (and_this (w.handlers h).callback l))
    (sym (relisted_asked r n (w.handlers h).stack (w.handlers h).requests)) one)) served

-- worlds of the same handlers
same_served : (w : World) (q : ℕ → List Grant) → IsServed w → IsServed (record w { queue = q })
same_served w q served p x o lives = ⊎_elim (λ t. inl t)
    (λ (s : Serves w p x). inr (record {
      request = s.request;
      stands = s.stands;
      number = s.number;
      poster =
          s.poster;
      waited = s.waited;
    })) (served p x o lives)

pub settling_served : (h : ℕ) (ks : List ℕ) (w : World) → IsActive (w.handlers h) → IsConsistent w → IsServed w
    → IsServed (settle h ks w)
settling_served h ks w active fine served = relisting_served h (reservations (w.handlers h).stack) ks w.next w active
    (omega arith) fine served

pub reserving_served : (h k : ℕ) (w : World) → IsActive (w.handlers h) → IsConsistent w → IsServed w → IsServed
    (reserve h k w)
reserving_served h k w active fine served =
    same_served (relist h (record { handler = k; number = w.next } ∷ reservations (w.handlers h).stack) []
    (suc w.next) w) (put k (record { holder = h; number = w.next } ∷ []) w.queue)
    (relisting_served h (record { handler = k; number = w.next } ∷ reservations (w.handlers h).stack) []
    (suc w.next) w active (omega arith) fine served)

pub releasing_served : (h k : ℕ) (rs : List Reservation) (w : World) → IsActive (w.handlers h) → IsConsistent w
    → IsServed w → IsServed (release h k rs w)
releasing_served h k rs w active fine served = same_served (relist h rs [] w.next w) (put k [] w.queue)
    (relisting_served h rs [] w.next w active (omega arith) fine served)

-- an ask: its own wait is served as the request lands
-- which of the two places a request lands at
arrives : (b : Bool) (q : Request) (g : Handler) → ((b ≡ true) → g.callback ≡ None) → IsOne q
    (requests_of (arrive b q g)) × ((r : Request) → IsOne r (requests_of g) → IsOne r (requests_of (arrive b q g)))
arrives true q g free = (
  inl refl,
  λ r i. inr
      (subst (λ c. IsOne r (and_this c (and_begun g.stack g.requests))) (free refl) i),
)
arrives false q g free = (
  subst (IsOne q) (sym (requests_end g q)) (one_last q (requests_of g)),
  λ r i. subst
      (IsOne r) (sym (requests_end g q)) (one_more r q (requests_of g) i),
)

asked_served : (h k : ℕ) (b : Bool) (q t : ℕ → List Grant) (w : World) → MayAsk h k w → IsConsistent w → (c : Bool)
    → (c ≡ true → CallsBack k (request h b w) (began h k b q t w)) → IsServed w → IsServed
    (land c k (request h b w) (began h k b q t w))
asked_served h k b q t w may fine c calls served =
    let u = began h k b q t w in
    let v = land c k (request h b w) u in
    let r : Request = request h b w in
    let there : v.handlers k ≡ arrive c r (u.handlers k) = put-same k (arrive c r (u.handlers k)) u.handlers in
    let off : (j : ℕ) → j ≢ k → v.handlers j ≡ u.handlers j = λ j ne. put-other k
    (arrive c r (u.handlers k)) u.handlers j ne in
    let come = arrives c r (u.handlers k) (λ e. (calls e).away.no_callback) in
    let open_back : (p : ℕ) (x : Wait) → IsOpen x (v.handlers p) → IsOpen x (u.handlers p) = λ p x. at_each
    (λ y. IsOpen x (v.handlers y) → IsOpen x (u.handlers y)) k p
    (λ o. still c r (u.handlers k) x (subst (IsOpen x) there o)) (λ ne o. subst (IsOpen x) (off p ne) o) in
    moved_served w v
    (λ p x o. ⊎_elim
    (λ a. inr (inr (subst (λ y. Serves v y x) (sym a.0)
    (subst (Serves v h) a.1 (record {
      request = r;
      stands = subst (λ f. IsOne r (requests_of f))
          (sym there) come.0;
      number = refl;
      poster = refl;
      waited = refl;
    })))))
    (λ before. inl before)
    (less_open h k b q t w may fine p x (open_back p x o)))
    (λ j a. sym (began_failed h k b q t w may j) ∙ at_each
    (λ y. (v.handlers y).failed ≡ false → (u.handlers y).failed ≡ false) k j
    (λ z. unfailed c r (u.handlers k) (ap (λ (f : Handler). f.failed) (sym there) ∙ z))
    (λ ne z. ap (λ (f : Handler). f.failed) (sym (off j ne)) ∙ z) a)
    (λ p x o is. at_each (λ y. IsTold (u.handlers y) → IsTold (v.handlers y)) k p
    (λ z. subst IsTold (sym there) (told_still c r (u.handlers k) z)) (λ ne z. subst IsTold (sym (off p ne)) z)
    (more_told h k b q t w may p is))
    (λ p x i o before lives one num poster waited.
    let one_u : IsOne i (requests_of (u.handlers x.target)) = subst (IsOne i)
    (sym (began_requests h k b q t w may x.target)) one in
    inr (at_each (λ y. IsOne i (requests_of (u.handlers y)) → IsOne i (requests_of (v.handlers y))) k x.target
    (λ z. subst (λ f. IsOne i (requests_of f)) (sym there) (come.1 i z))
    (λ ne z. subst (λ f. IsOne i (requests_of f)) (sym (off x.target ne)) z) one_u))
    served
  where
    still : (c : Bool) (r : Request) (g : Handler) (x : Wait) → IsOpen x (arrive c r g) → IsOpen x g
    still true r g x o = o
    still false r g x o = o

    unfailed : (c : Bool) (r : Request) (g : Handler) → (arrive c r g).failed ≡ false → g.failed ≡ false
    unfailed true r g e = e
    unfailed false r g e = e

    told_still : (c : Bool) (r : Request) (g : Handler) → IsTold g → IsTold (arrive c r g)
    told_still true r g e = e
    told_still false r g e = e

pub asking_served : (h k : ℕ) (w : World) → MayAsk h k w → IsConsistent w → IsServed w → IsServed (ask h k w)
asking_served h k w may fine served = asked_served h k false w.queue w.top w may fine (has h (w.top k))
    (plain_calls h k w may fine) served

pub asking_passing_served : (h k : ℕ) (w : World) → MayAsk h k w → IsConsistent w → IsServed w → IsServed
    (ask_passing h k w)
asking_passing_served h k w may fine served = asked_served h k true (passing_queue h k w)
    (passing_top h k w) w may fine (has h (w.top k)) (passing_calls h k w may fine) served
