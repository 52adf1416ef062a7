-- What the next request asks for may be chosen anew; each wait has what was chosen as it began.
use Rattle.std.proofs.Common.{◌≡◌, ⊎_elim, inl, inr, ℕ, ◌==◌, Bool, true, false, List, [], ◌∷◌, Option, Some, None, refl, sym, ◌∙◌, subst}
use Rattle.std.specs.Prelude.{if◌then◌else◌}
use Rattle.std.specs.List.{list_any}
use Rattle.sc_machine_laws.specs.states.World as world
use Rattle.sc_machine_laws.specs.states.World.{request, begun, rest_of, pop, replied, Asked, Wait, Request, Reservation, Frame, Handler, World, put, has, waiting, arrive, resumed, relisted, popped, give_back_if, passes, told, ruined, is_waited_by, requests_of, reservations}
use Rattle.sc_machine_laws.specs.states.Steps.{Step, Steps, Still, Then, Posts, Asks, AsksPassing, Takes, CallsBack, Enters, Answers, Reserves, Settles, Releases, Pops, Finishes, Fails}
use Rattle.sc_machine_laws.specs.states.Consistent.{StackWaits, HasLost, IsStuckFrom, Lends, Nobody, Told, On, Stuck, IsConsistent}
use Rattle.sc_machine_laws.specs.states.Provided.{IsAssured, KeepsReserved, IsProvided}
use Rattle.sc_machine_laws.specs.states.Served.{IsServed}
use Rattle.sc_machine_laws.specs.states.Returns.{IsReturnable}
use Rattle.sc_machine_laws.specs.states.Lawful.{IsLawful}
use Rattle.sc_machine_laws.proofs.states.Simple.{trail_move}
use Rattle.sc_machine_laws.proofs.states.ProvidedFrames.{frames_same}

abbrev pub named : Option Asked → World → World
named a w = record w { asks = a }

-- ---- the world stays lawful

module _ (a : Option Asked) (w : World) where
  named_stuck : (k m : ℕ) → Stuck w k m → Stuck (named a w) k m
  named_stuck k m (Told t) = Told t
  named_stuck k m (On v j o n has lt s) = On v j o n has lt (named_stuck v.target j s)

  named_from : (p n : ℕ) → IsStuckFrom w p n → IsStuckFrom (named a w) p n
  named_from p n (j, le, has, s) = (j, le, has, named_stuck p j s)

  named_lost : (k : ℕ) (v : Wait) → HasLost w k v → HasLost (named a w) k v
  named_lost k v l = ⊎_elim (λ t. inl t) (λ s. inr (named_stuck k v.number s.0, s.1)) l

  named_assured : (p n k : ℕ) → IsAssured w p n k → IsAssured (named a w) p n k
  named_assured p n k i = ⊎_elim (λ q. inl q) (λ o. inr (⊎_elim (λ t. inl t) (λ s. inr (named_from p n s)) o)) i

  named_reserved : (p n : ℕ) (r : Reservation) → KeepsReserved w p n r → KeepsReserved (named a w) p n r
  named_reserved p n r i = ⊎_elim (λ q. inl q) (λ s. inr (named_from p n s)) i

  named_consistent : IsConsistent w → IsConsistent (named a w)
  named_consistent fine = record {
    tops = fine.tops;
    clear = fine.clear;
    ordered = fine.ordered;
    callbacks = fine.callbacks;
    queue_trails = λ k. trail_move w (named a w) Nobody Nobody (w.queue k) (λ d x m i has. has) (λ x lo y m i l. l) (λ x f. f)
        (fine.queue_trails k);
    top_trails = λ k. trail_move w (named a w) (Lends w k) (Lends (named a w) k) (w.top k) (λ d x m i has. has) (λ x lo y m i l. l)
        (λ x f. f) (fine.top_trails k);
    based = fine.based;
    own_top = λ k v o p. ⊎_elim (λ i. inl i) (λ l. inr (named_lost k v l)) (fine.own_top k v o p);
    queue_grants = fine.queue_grants;
    top_grants = fine.top_grants;
    held = λ p v s. named_assured p v.number v.target (fine.held p v s);
    one_poster = fine.one_poster;
    waits_old = fine.waits_old;
    queue_old = fine.queue_old;
    top_old = fine.top_old;
    spent = fine.spent;
    plain = fine.plain;
    dead = fine.dead;
    failures = fine.failures;
    why_told = fine.why_told;
    clients = fine.clients;
    numbered = fine.numbered;
  }

  named_provided : IsProvided w → IsProvided (named a w)
  named_provided is = record {
    held = λ p. frames_same (IsAssured w p) (IsAssured (named a w) p) (KeepsReserved w p) (KeepsReserved (named a w) p)
        (w.handlers p).stack w.next (λ n le. ((λ k i. named_assured p n k i), (λ r i. named_reserved p n r i))) (is.held p);
    apart = is.apart;
  }

  named_served : IsServed w → IsServed (named a w)
  named_served is p v o lives = ⊎_elim
      (λ t. inl t)
      (λ s. inr (record { request = s.request; stands = s.stands; number = s.number; poster = s.poster; waited = s.waited }))
      (is p v o lives)

  named_returnable : IsReturnable w → IsReturnable (named a w)
  named_returnable is = record {
    listed = λ k r p one passed. let l = is.listed k r p one passed in record {
      queues = λ j. ⊎_elim (λ i. inl i) (λ s. inr (named_from k _ s)) (l.queues j);
      tops = λ j. ⊎_elim (λ i. inl i) (λ s. inr (named_from k _ s)) (l.tops j);
      somebodys = l.somebodys;
    };
    waited = is.waited;
    failures = is.failures;
  }

  pub named_lawful : IsLawful w → IsLawful (named a w)
  named_lawful law = record {
    consistent = named_consistent law.consistent;
    provided = named_provided law.provided;
    served = named_served law.served;
    returnable = named_returnable law.returnable;
  }

-- ---- what waits have asked

abbrev pub OfWait : (Option Asked → Type 0) → Option Wait → Type 0
OfWait P None = Unit {0}
OfWait P (Some v) = P v.asked

-- so it is of what each frame that waits has asked
abbrev pub AllAsk : (Option Asked → Type 0) → List Frame → Type 0
AllAsk P [] = Unit {0}
AllAsk P (f ∷ fs) = OfWait P f.waits × AllAsk P fs

abbrev pub EachAsks : (Option Asked → Type 0) → World → Type 0
EachAsks P w = P w.asks × ((k : ℕ) → AllAsk P (w.handlers k).stack)

pub all_ask : (P : Option Asked → Type 0) (v : Wait) (fs : List Frame) → AllAsk P fs → StackWaits v fs → P v.asked
all_ask P v [] all s = absurd s
all_ask P v (f ∷ fs) all (inl e) = subst (OfWait P) e all.0
all_ask P v (f ∷ fs) all (inr s) = all_ask P v fs all.1 s

module _ (P : Option Asked → Type 0) where
  put_all : (h : ℕ) (g : Handler) (hs : ℕ → Handler) → AllAsk P g.stack → ((k : ℕ) → AllAsk P (hs k).stack) → (k : ℕ)
      → AllAsk P (put h g hs k).stack
  put_all h g hs own all k = by (k == h)
    where
      by : (b : Bool) → AllAsk P (if b then g else hs k).stack
      by true = own
      by false = all k

  waiting_all : (v : Wait) (fs : List Frame) → P v.asked → AllAsk P fs → AllAsk P (waiting v fs)
  waiting_all v [] new all = tt
  waiting_all v (f ∷ fs) new all = (new, all.1)

  resumed_all : (fs : List Frame) → AllAsk P fs → AllAsk P (resumed fs)
  resumed_all [] all = tt
  resumed_all (f ∷ fs) all = (tt, all.1)

  relisted_all : (rs : List Reservation) (ns : List ℕ) (fs : List Frame) → AllAsk P fs → AllAsk P (relisted rs ns fs)
  relisted_all rs ns [] all = tt
  relisted_all rs ns (f ∷ fs) all = all

  popped_all : (fs : List Frame) → AllAsk P fs → AllAsk P (popped fs)
  popped_all [] all = tt
  popped_all (f ∷ fs) all = all.1

  arrive_all : (b : Bool) (r : Request) (g : Handler) → AllAsk P g.stack → AllAsk P (arrive b r g).stack
  arrive_all true r g all = all
  arrive_all false r g all = all

  told_all : (b : Bool) (g : Handler) → AllAsk P g.stack → AllAsk P (told b g).stack
  told_all true g all = all
  told_all false g all = all

  given_all : (b : Bool) (n : ℕ) (w : World) → EachAsks P w → EachAsks P (give_back_if b n w)
  given_all true n w each = each
  given_all false n w each = each

  popped_each : (h : ℕ) (w : World) → EachAsks P w → (k : ℕ)
      → AllAsk P (put h (record (w.handlers h) { stack = popped (w.handlers h).stack }) w.handlers k).stack
  popped_each h w each = put_all h (record (w.handlers h) { stack = popped (w.handlers h).stack }) w.handlers
      (popped_all (w.handlers h).stack (each.1 h)) each.1

  -- the poster waits for what its world asks for
  begun_all : (h : ℕ) (v : Wait) (w : World) → v.asked ≡ w.asks → EachAsks P w → (k : ℕ)
      → AllAsk P (put h (record (w.handlers h) { stack = waiting v (w.handlers h).stack }) w.handlers k).stack
  begun_all h v w e each = put_all h (record (w.handlers h) { stack = waiting v (w.handlers h).stack }) w.handlers
      (waiting_all v (w.handlers h).stack (subst P (sym e) each.0) (each.1 h)) each.1

  asked_all : (h k : ℕ) (b c : Bool) (r : Request) (w : World) → EachAsks P w → (j : ℕ)
      → AllAsk P (put k (arrive c r (put h (record (w.handlers h) {
        stack = waiting (record { number = w.next; target = k; passing = b; asked = w.asks }) (w.handlers h).stack;
      }) w.handlers k)) (put h (record (w.handlers h) {
        stack = waiting (record { number = w.next; target = k; passing = b; asked = w.asks }) (w.handlers h).stack;
      }) w.handlers) j).stack
  asked_all h k b c r w each =
      let v : Wait = record { number = w.next; target = k; passing = b; asked = w.asks } in
      let hs : ℕ → Handler = put h (record (w.handlers h) { stack = waiting v (w.handlers h).stack }) w.handlers in
      put_all k (arrive c r (hs k)) hs (arrive_all c r (hs k) (begun_all h v w refl each k)) (begun_all h v w refl each)

  step_all : (w v : World) → Step w v → EachAsks P w → EachAsks P v
  step_all w v (Posts h k active holds lives) each = (
    each.0,
    put_all k (arrive false (record { number = w.next; poster = h; waited = false; passed = None; asked = w.asks }) (w.handlers k))
        w.handlers (each.1 k) each.1,
  )
  step_all w v (Asks h k may) each =
      (each.0, asked_all h k false (has h (w.top k)) (record { number = w.next; poster = h; waited = true; passed = None; asked = w.asks }) w each)
  step_all w v (AsksPassing h k may) each =
      (each.0, asked_all h k true (has h (w.top k)) (request h true w) w each)
  step_all w v (Takes h r rs alive idle first) each = (
    each.0,
    put_all h (record (w.handlers h) { stack = begun r (w.handlers h).stack; requests = rest_of (w.handlers h).requests }) w.handlers
        (tt, each.1 h) each.1,
  )
  step_all w v (CallsBack h r alive waits) each = (
    each.0,
    put_all h (record (w.handlers h) { stack = begun r (w.handlers h).stack; callback = None }) w.handlers (tt, each.1 h) each.1,
  )
  step_all w v (Enters h active) each = (
    each.0,
    put_all h (record (w.handlers h) {
      stack = record { origin = None; reserved = []; needs = []; waits = None } ∷ (w.handlers h).stack;
    }) w.handlers (tt, each.1 h) each.1,
  )
  step_all w v (Answers h x alive at over) each = (
    each.0,
    put_all h (record (w.handlers h) { stack = resumed (w.handlers h).stack; answer = None }) w.handlers
        (resumed_all (w.handlers h).stack (each.1 h)) each.1,
  )
  step_all w v (Reserves h k f fs active at idle) each = (
    each.0,
    put_all h (record (w.handlers h) {
      stack = relisted (record { handler = k; number = w.next } ∷ reservations (w.handlers h).stack) [] (w.handlers h).stack;
    }) w.handlers
        (relisted_all (record { handler = k; number = w.next } ∷ reservations (w.handlers h).stack) [] (w.handlers h).stack (each.1 h)) each.1,
  )
  step_all w v (Settles h f fs ks active at holds) each = (
    each.0,
    put_all h (record (w.handlers h) { stack = relisted (reservations (w.handlers h).stack) ks (w.handlers h).stack }) w.handlers
        (relisted_all (reservations (w.handlers h).stack) ks (w.handlers h).stack (each.1 h)) each.1,
  )
  step_all w v (Releases h r rs f fs active at its) each = (
    each.0,
    put_all h (record (w.handlers h) { stack = relisted rs [] (w.handlers h).stack }) w.handlers
        (relisted_all rs [] (w.handlers h).stack (each.1 h)) each.1,
  )
  step_all w v (Pops h f fs active at none free) each = (each.0, popped_each h w each)
  step_all w v (Finishes a h r reply ends released) each =
      let u = pop h w in
      given_all (passes r) r.number (world.reply a r.poster u)
      (each.0, put_all r.poster (replied a (u.handlers r.poster)) u.handlers (popped_each h w each r.poster) (popped_each h w each))
  step_all w v (Fails h may) each = (each.0, λ k. by k (k == h))
    where
      by : (k : ℕ) (b : Bool) → AllAsk P (if b then ruined (w.handlers k)
          else told (list_any (is_waited_by k) (requests_of (w.handlers h))) (w.handlers k)).stack
      by k true = tt
      by k false = told_all (list_any (is_waited_by k) (requests_of (w.handlers h))) (w.handlers k) (each.1 k)

  pub steps_all : (w v : World) → Steps w v → EachAsks P w → EachAsks P v
  steps_all w v (Still x) each = each
  steps_all w v (Then x u y step more) each = steps_all u v more (step_all w u step each)

-- ---- no step chooses

given_asks : (b : Bool) (n : ℕ) (w : World) → (give_back_if b n w).asks ≡ w.asks
given_asks true n w = refl
given_asks false n w = refl

step_asks : (w v : World) → Step w v → v.asks ≡ w.asks
step_asks w v (Posts h k active holds lives) = refl
step_asks w v (Asks h k may) = refl
step_asks w v (AsksPassing h k may) = refl
step_asks w v (Takes h r rs alive idle first) = refl
step_asks w v (CallsBack h r alive waits) = refl
step_asks w v (Enters h active) = refl
step_asks w v (Answers h x alive at over) = refl
step_asks w v (Reserves h k f fs active at idle) = refl
step_asks w v (Settles h f fs ks active at holds) = refl
step_asks w v (Releases h r rs f fs active at its) = refl
step_asks w v (Pops h f fs active at none free) = refl
step_asks w v (Finishes a h r reply ends released) = given_asks (passes r) r.number (world.reply a r.poster (pop h w))
step_asks w v (Fails h may) = refl

pub asks_kept : (w v : World) → Steps w v → v.asks ≡ w.asks
asks_kept w v (Still x) = refl
asks_kept w v (Then x u y step more) = asks_kept u v more ∙ step_asks w u step
