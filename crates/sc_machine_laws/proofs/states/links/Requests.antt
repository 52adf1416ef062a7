-- The requests that stand at a handler, on both sides, and for whom they stand.
use Rattle.std.proofs.Common.{◌≡◌, inl, inr, ℕ, suc, ◌==◌, ◌&&◌, ◌||◌, Bool, true, false, List, [], ◌∷◌, ◌++◌, Option, Some, None, refl, sym, ap, ◌∙◌, subst}
use Rattle.std.specs.List.{list_any, flat_map}
use Rattle.std.proofs.lemmas.List.Folds.{list_any-append}
use Rattle.std.proofs.lemmas.Bool.{eqb-true}
use Rattle.sc_lockpass.specs.Rights.{is_handler}
use Rattle.sc_machine_laws.specs.states.World.{Request, Frame, Handler, World, is_waited_by, and_this, and_begun, requests_of}
use Rattle.sc_machine_laws.specs.states.Consistent.{StackWaits, IsOne, HasClient, IsConsistent}
use Rattle.sc_machine_laws.specs.states.Stands.{NeedsOf, NamesOf, IsPoster, IsRequest, AreRequests, IsCallback, IsOrigin, IsRoutine, AreBlocks, IsCreation, Place, place_of, IsStaged, IsStack, IsNew}
use Rattle.sc_model.specs.Handlers as machine
use Rattle.sc_model.specs.Failures as failures
use Rattle.sc_model.specs.Failures.{requests_at, to_list, request_of}

-- ---- both sides name the same

and_false : (b : Bool) → (b && false) ≡ false
and_false true = refl
and_false false = refl

pub same_waiter : (k : ℕ) (r : Request) (q : machine.Request) → IsRequest r q → is_waited_by k r ≡ failures.is_waited_by k q
same_waiter k r q is = by q.poster is.poster
  where
    by : (o : Option ℕ) → IsPoster r o → (r.waited && r.poster == k) ≡ (q.is_waited && is_handler k o)
    by None none = ap (λ (b : Bool). b && r.poster == k) none ∙ sym (ap (λ (b : Bool). b && false) (sym is.waited ∙ none))
    by (Some p) e = ap (λ (b : Bool). b && r.poster == k) is.waited ∙ ap (λ x. q.is_waited && x == k) e

abbrev any : ℕ → List Request → Bool
any k rs = list_any (is_waited_by k) rs

abbrev any_of : ℕ → List machine.Request → Bool
any_of k qs = list_any (failures.is_waited_by k) qs

pub same_queue : (k : ℕ) (rs : List Request) (qs : List machine.Request) → AreRequests rs qs
    → list_any (is_waited_by k) rs ≡ list_any (failures.is_waited_by k) qs
same_queue k [] [] is = refl
same_queue k (r ∷ rs) (q ∷ qs) is = ap (λ (b : Bool). b || any k rs) (same_waiter k r q is.0)
    ∙ ap (λ (b : Bool). failures.is_waited_by k q || b) (same_queue k rs qs is.1)
same_queue k [] (q ∷ qs) is = absurd is
same_queue k (r ∷ rs) [] is = absurd is

or_same : (b c d : Bool) → (b || (c || d)) ≡ ((b || c) || d)
or_same true c d = refl
or_same false c d = refl

routine_any : (k : ℕ) (f : machine.Frame) (N : List ℕ → Type 0) (B : List Frame → Type 0) (gs : List Frame) (rs : List Request) (c : Bool)
    → ((hs : List Frame) → B hs → any k (and_begun hs rs) ≡ (c || any k rs))
    → IsRoutine f N B gs → any k (and_begun gs rs) ≡ ((any_of k (request_of f.origin) || c) || any k rs)
routine_any k f N B [] rs c below is = absurd is
routine_any k f N B (g ∷ gs) rs c below is = by g.origin f.origin is.0
  where
    by : (o : Option Request) (p : machine.Origin) → IsOrigin o p
        → any k (and_this o (and_begun gs rs)) ≡ ((any_of k (request_of p) || c) || any k rs)
    by None (machine.Called d) i = below gs is.2
    by (Some r) (machine.Requested q) i =
        ap (λ (b : Bool). b || any k (and_begun gs rs)) (same_waiter k r q i)
        ∙ ap (λ (b : Bool). failures.is_waited_by k q || b) (below gs is.2)
        ∙ or_same (failures.is_waited_by k q) c (any k rs)
        ∙ ap (λ (b : Bool). (b || c) || any k rs) (or_false (failures.is_waited_by k q))
      where
        or_false : (b : Bool) → b ≡ (b || false)
        or_false true = refl
        or_false false = refl
    by None (machine.Requested q) i = absurd i
    by (Some r) (machine.Called d) i = absurd i

blocks_any : (C : ℕ → List ℕ → Type 0) (k : ℕ) (kss : List (List ℕ)) (B : List Frame → Type 0) (gs : List Frame) (rs : List Request) (c : Bool)
    → ((hs : List Frame) → B hs → any k (and_begun hs rs) ≡ c) → AreBlocks C kss B gs → any k (and_begun gs rs) ≡ c
blocks_any C k [] B gs rs c below is = below gs is
blocks_any C k (ks ∷ kss) B [] rs c below is = absurd is
blocks_any C k (ks ∷ kss) B (g ∷ gs) rs c below is =
    ap (λ o. any k (and_this o (and_begun gs rs))) is.0 ∙ blocks_any (λ i. C (suc i)) k kss B gs rs c below is.3

creation_any : (k j : ℕ) (B : List Frame → Type 0) (gs : List Frame) (rs : List Request) (c : Bool)
    → ((hs : List Frame) → B hs → any k (and_begun hs rs) ≡ c) → IsCreation j B gs → any k (and_begun gs rs) ≡ c
creation_any k j B [] rs c below is = absurd is
creation_any k j B (g ∷ gs) rs c below is = ap (λ o. any k (and_this o (and_begun gs rs))) is.0 ∙ below gs is.3

staged_any : (k : ℕ) (stage : machine.Stage) (at : Place) (B : List Frame → Type 0) (gs : List Frame) (rs : List Request) (c : Bool)
    → ((hs : List Frame) → B hs → any k (and_begun hs rs) ≡ c) → IsStaged stage at B gs → any k (and_begun gs rs) ≡ c
staged_any k (machine.Awaits j gives true) at B gs rs c below is = creation_any k j B gs rs c below is.1
staged_any k (machine.Awaits j gives false) at B gs rs c below is = below gs is.1
staged_any k machine.Runs at B gs rs c below is = below gs is.1
staged_any k machine.Reserves at B gs rs c below is = below gs is.1
staged_any k machine.ReservesBlock at B gs rs c below is = below gs is.1
staged_any k (machine.InCall gives) at B gs rs c below is = below gs is.1

pub stack_any : (k : ℕ) (st : List machine.Frame) (gs : List Frame) (rs : List Request) → IsStack st gs
    → list_any (is_waited_by k) (and_begun gs rs) ≡ (list_any (failures.is_waited_by k)
    (flat_map (λ (f : machine.Frame). request_of f.origin) st) || list_any (is_waited_by k) rs)
stack_any k [] [] rs is = refl
stack_any k [] (g ∷ gs) rs is = absurd is
stack_any k (f ∷ st) gs rs is =
    let rest : List machine.Request = flat_map (λ (f : machine.Frame). request_of f.origin) st in
    staged_any k f.stage (place_of f st) (AreBlocks (NamesOf f.stage f) f.blocks (IsRoutine f (NeedsOf f.stage f) (IsStack st))) gs rs
    ((any_of k (request_of f.origin) || any_of k rest) || any k rs)
    (λ hs i. blocks_any (NamesOf f.stage f) k f.blocks (IsRoutine f (NeedsOf f.stage f) (IsStack st)) hs rs
    ((any_of k (request_of f.origin) || any_of k rest) || any k rs)
    (λ ls j. routine_any k f (NeedsOf f.stage f) (IsStack st) ls rs (any_of k rest) (λ ms b. stack_any k st ms rs b) j) i) is
    ∙ ap (λ (b : Bool). b || any k rs) (sym (list_any-append (failures.is_waited_by k) (request_of f.origin) rest))

callback_any : (k : ℕ) (c : Option Request) (d : Option machine.Request) (rs : List Request) → IsCallback c d
    → any k (and_this c rs) ≡ (any_of k (to_list d) || any k rs)
callback_any k None None rs is = refl
callback_any k (Some r) (Some q) rs is = ap (λ (b : Bool). b || any k rs) (same_waiter k r q is) ∙ one (failures.is_waited_by k q)
  where
    one : (b : Bool) → (b || any k rs) ≡ ((b || false) || any k rs)
    one true = refl
    one false = refl
callback_any k None (Some q) rs is = absurd is
callback_any k (Some r) None rs is = absurd is

shuffle : (a b c : Bool) → (a || (b || c)) ≡ ((c || a) || b)
shuffle true true true = refl
shuffle true true false = refl
shuffle true false true = refl
shuffle true false false = refl
shuffle false true true = refl
shuffle false true false = refl
shuffle false false true = refl
shuffle false false false = refl

-- those who wait for a handler are the same
pub same_waiters : (k : ℕ) (g : Handler) (x : machine.Handler) → IsStack x.stack g.stack → AreRequests g.requests x.queue
    → IsCallback g.callback x.callback
    → list_any (is_waited_by k) (requests_of g) ≡ list_any (failures.is_waited_by k) (requests_at x)
same_waiters k g x stack queue callback =
    let on : List machine.Request = flat_map (λ (f : machine.Frame). request_of f.origin) x.stack in
    callback_any k g.callback x.callback (and_begun g.stack g.requests) callback
    ∙ ap (λ (b : Bool). any_of k (to_list x.callback) || b) (stack_any k x.stack g.stack g.requests stack)
    ∙ ap (λ (b : Bool). any_of k (to_list x.callback) || (any_of k on || b)) (same_queue k g.requests x.queue queue)
    ∙ shuffle (any_of k (to_list x.callback)) (any_of k on) (any_of k x.queue)
    ∙ sym (list_any-append (failures.is_waited_by k) (x.queue ++ to_list x.callback) on
    ∙ ap (λ (b : Bool). b || any_of k on) (list_any-append (failures.is_waited_by k) x.queue (to_list x.callback)))

-- ---- nobody waits who was never used

and_left : (b c : Bool) → (b && c) ≡ true → b ≡ true
and_left true c e = refl
and_left false c e = e

and_right : (b c : Bool) → (b && c) ≡ true → c ≡ true
and_right true c e = e
and_right false c e = absurd (no e)
  where
    no : false ≡ true → ⊥
    no e = cc

some_waiter : (k : ℕ) (rs : List Request) → list_any (is_waited_by k) rs ≡ true → (r : Request) × IsOne r rs × (r.waited ≡ true) × (r.poster ≡ k)
some_waiter k [] e = absurd (no e)
  where
    no : false ≡ true → ⊥
    no e = cc
some_waiter k (r ∷ rs) e = by (λ a. some_waiter k rs a) (is_waited_by k r) refl e
  where
    by : (any k rs ≡ true → (q : Request) × IsOne q rs × (q.waited ≡ true) × (q.poster ≡ k)) → (b : Bool) → is_waited_by k r ≡ b
        → (b || any k rs) ≡ true
        → (q : Request) × IsOne q (r ∷ rs) × (q.waited ≡ true) × (q.poster ≡ k)
    by more true is e = (r, inl refl, and_left r.waited (r.poster == k) is, eqb-true r.poster k (and_right r.waited (r.poster == k) is))
    by more false is e = let a = more e in (a.0, inr a.1, a.2, a.3)

pub new_waits_for_none : (h k : ℕ) (w : World) → IsConsistent w → IsNew (w.handlers k)
    → list_any (is_waited_by k) (requests_of (w.handlers h)) ≡ false
new_waits_for_none h k w fine new = by (list_any (is_waited_by k) (requests_of (w.handlers h))) refl
  where
    never : (r : Request) → r.poster ≡ k → HasClient w h r → ⊥
    never r e (inl a) = let yes : true ≡ false = sym a.0 ∙ ap (λ y. (w.handlers y).failed) e ∙ new.failed in no yes
      where
        no : true ≡ false → ⊥
        no e = cc
    never r e (inr (v, o, n, t, p, a)) = subst (StackWaits v) (ap (λ y. (w.handlers y).stack) e ∙ new.stack) o.0

    by : (b : Bool) → list_any (is_waited_by k) (requests_of (w.handlers h)) ≡ b → b ≡ false
    by false is = refl
    by true is = let a = some_waiter k (requests_of (w.handlers h)) is in absurd (never a.0 a.3 (fine.clients h a.0 a.1 a.2))
