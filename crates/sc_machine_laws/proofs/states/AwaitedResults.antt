-- A request of the machine that may end in its handler's next turn, and the frame that waits for it: both say the same of what was asked.
use Rattle.std.proofs.Common.{◌≡◌, ⊎_elim, inl, inr, ℕ, suc, ◌<◌, Bool, true, false, List, [], ◌∷◌, Option, Some, None, refl, sym, ap, ◌∙◌, subst}
use Rattle.std.specs.Prelude.{is_some}
use Rattle.std.specs.Option.{option_map}
use Rattle.sc_rules.specs.declared.entity_types.entity_type.EntityType.{EntityType}
use Rattle.sc_model.specs.Handlers as machine
use Rattle.sc_model.specs.Handlers.{Runs, Reserves, ReservesBlock, InCall, Awaits}
use Rattle.sc_machine_laws.specs.states.World.{Asked, Wait, Request, Frame, World, and_this, and_begun, requests_of}
use Rattle.sc_machine_laws.specs.states.Steps.{waits_for}
use Rattle.sc_machine_laws.specs.states.Consistent.{Asks, HasWait, HasPassed, IsBegun, IsOrdered, IsOne}
use Rattle.sc_machine_laws.specs.states.Lawful.{IsLawful}
use Rattle.sc_machine_laws.specs.states.Stands.{AsksFor, TakesAs, NeedsOf, NamesOf, IsPoster, IsRequest, AreRequests, IsCallback, answer_of, IsOrigin, IsRoutine, AreBlocks, place_of, Awaited, IsStaged, IsStack, Stands}
use Rattle.sc_machine_laws.proofs.states.Rights.{not_some}
use Rattle.sc_machine_laws.proofs.states.Waits.{true_false, some_wait, no_wait, waits_stack}
use Rattle.sc_machine_laws.proofs.states.Named.{all_ask}
use Rattle.sc_machine_laws.proofs.states.TopWaits.{awaits_on_top}
use Rattle.sc_machine_laws.proofs.states.links.Exits.{some_request}
use Rattle.sc_machine_laws.proofs.states.links.Reached.{Paired}

-- ---- the request

-- The world's request that stands for it: its handler waits for nothing newer, and for nothing without passing its rights.
pub record Ends (t : World) (h : ℕ) (q : machine.Request) : Type 0 where
  pub request : Request
  pub is : IsRequest request q
  pub stands : IsOne request (requests_of (t.handlers h))
  pub older : (n : ℕ) → HasWait n (t.handlers h).stack → n < request.number
  pub passes : (k lo hi : ℕ) → Asks (t.handlers h) k lo hi → ⊥

later_this : (o : Option Request) (rs : List Request) (r : Request) → IsOne r rs → IsOne r (and_this o rs)
later_this None rs r i = i
later_this (Some c) rs r i = inr i

later_begun : (fs : List Frame) (rs : List Request) (r : Request) → IsOne r rs → IsOne r (and_begun fs rs)
later_begun [] rs r i = i
later_begun (f ∷ fs) rs r i = later_this f.origin (and_begun fs rs) r (later_begun fs rs r i)

-- a routine that a request began, under its open blocks
record Begins (q : machine.Request) (gs : List Frame) (rs : List Request) : Type 0 where
  request : Request
  is : IsRequest request q
  stands : IsOne request (and_begun gs rs)
  older : (n : ℕ) → HasWait n gs → n < request.number

blocks_begin : (C : ℕ → List ℕ → Type 0) (kss : List (List ℕ)) (f : machine.Frame) (N : List ℕ → Type 0) (B : List Frame → Type 0)
    (q : machine.Request) (gs : List Frame) (rs : List Request) → f.origin ≡ machine.Requested q → waits_for gs ≡ None → IsOrdered gs
    → AreBlocks C kss (IsRoutine f N B) gs → Begins q gs rs
blocks_begin C [] f N B q [] rs begun quiet ordered is = absurd is
blocks_begin C [] f N B q (g ∷ gs) rs begun quiet ordered is =
    let o = some_request g.origin q (subst (IsOrigin g.origin) begun is.0) in
    record {
      request = o.0;
      is = o.2;
      stands = subst (λ x. IsOne o.0 (and_this x (and_begun gs rs))) (sym o.1) (inl refl);
      older = λ n has. ⊎_elim (λ i. no_wait n g.waits quiet i) (λ i. (subst (λ x. IsBegun x gs) o.1 ordered.0).0 n i) has;
    }
blocks_begin C (ks ∷ kss) f N B q [] rs begun quiet ordered is = absurd is
blocks_begin C (ks ∷ kss) f N B q (g ∷ gs) rs begun quiet ordered is =
    let b = blocks_begin (λ i. C (suc i)) kss f N B q gs rs begun is.2 ordered.1 is.3 in
    record {
      request = b.request;
      is = b.is;
      stands = subst (λ x. IsOne b.request (and_this x (and_begun gs rs))) (sym is.0) b.stands;
      older = λ n has. ⊎_elim (λ i. no_wait n g.waits quiet i) (λ i. b.older n i) has;
    }

no_parts : (st : List machine.Frame) (gs : List Frame) → st ≡ [] → IsStack st gs → gs ≡ []
no_parts [] [] e is = refl
no_parts [] (g ∷ gs) e is = absurd is
no_parts (f ∷ st) gs e is = cc

first_request : (rs : List Request) (q : machine.Request) (qs : List machine.Request) → AreRequests rs (q ∷ qs) → (r : Request) × IsRequest r q × IsOne r rs
first_request [] q qs is = absurd is
first_request (r ∷ rs) q qs is = (r, is.0, inl refl)

some_callback : (o : Option Request) (q : machine.Request) → IsCallback o (Some q) → (r : Request) × (o ≡ Some r) × IsRequest r q
some_callback None q is = absurd is
some_callback (Some r) q is = (r, refl, is)

module _ (t : World) (m : machine.World) (law : IsLawful t) (stands : Stands t m) (h : ℕ) (q : machine.Request) where
  -- the routine that it began goes on
  pub begun_ends : (f : machine.Frame) (below : List machine.Frame) → (m.handlers h).stack ≡ f ∷ below → f.stage ≡ Runs
      → f.origin ≡ machine.Requested q → Ends t h q
  begun_ends f below at runs begun =
      let st = subst (λ x. IsStaged x (place_of f below) (AreBlocks (NamesOf f.stage f) f.blocks (IsRoutine f (NeedsOf f.stage f) (IsStack below)))
      (t.handlers h).stack) runs (subst (λ s. IsStack s (t.handlers h).stack) at (stands.handlers h).stack) in
      let b = blocks_begin (NamesOf f.stage f) f.blocks f (NeedsOf f.stage f) (IsStack below) q (t.handlers h).stack (t.handlers h).requests
      begun st.0 (law.consistent.ordered h) st.1 in
      record {
        request = b.request;
        is = b.is;
        stands = later_this (t.handlers h).callback (and_begun (t.handlers h).stack (t.handlers h).requests) b.request b.stands;
        older = b.older;
        passes = λ k lo hi a. not_some a.for (sym st.0 ∙ a.waits);
      }

  -- it is the next of a handler that does nothing
  pub next_ends : (qs : List machine.Request) → (m.handlers h).stack ≡ [] → (m.handlers h).queue ≡ q ∷ qs → Ends t h q
  next_ends qs at first =
      let none = no_parts (m.handlers h).stack (t.handlers h).stack at (stands.handlers h).stack in
      let r = first_request (t.handlers h).requests q qs (subst (AreRequests (t.handlers h).requests) first (stands.handlers h).requests) in
      record {
        request = r.0;
        is = r.1;
        stands = later_this (t.handlers h).callback (and_begun (t.handlers h).stack (t.handlers h).requests) r.0
            (later_begun (t.handlers h).stack (t.handlers h).requests r.0 r.2);
        older = λ n has. absurd (subst (HasWait n) none has);
        passes = λ k lo hi a. not_some a.for (sym (ap waits_for none) ∙ a.waits);
      }

  -- it is a callback
  pub callback_ends : (m.handlers h).callback ≡ Some q → Ends t h q
  callback_ends e =
      let r = some_callback (t.handlers h).callback q (subst (IsCallback (t.handlers h).callback) e (stands.handlers h).callback) in
      let c = law.consistent.callbacks h r.0 r.1 in
      record {
        request = r.0;
        is = r.2;
        stands = subst (λ o. IsOne r.0 (and_this o (and_begun (t.handlers h).stack (t.handlers h).requests))) (sym r.1) (inl refl);
        older = c.0;
        passes = λ k lo hi a. waits_passing (t.handlers h).stack c.1 a.for a.waits a.keeps;
      }
    where
      waits_passing : (fs : List Frame) → HasPassed fs → (v : Wait) → waits_for fs ≡ Some v → v.passing ≡ false → ⊥
      waits_passing fs p v at keeps =
          true_false (sym p.2 ∙ ap (λ (x : Wait). x.passing) (some_wait p.0 v (sym p.1 ∙ at)) ∙ keeps)

-- ---- the frame that waits for it

-- The topmost frame of p waits, and takes what was asked with the request.
pub record Met (P : Option Asked → Type 0) (m : machine.World) (p : ℕ) (q : machine.Request) : Type 0 where
  pub asked : Asked
  pub holds : P (Some asked)
  pub poster : q.poster ≡ Some asked.poster
  pub target : q.target ≡ asked.target
  pub errand : q.errand ≡ asked.errand
  pub frame : machine.Frame
  pub below : List machine.Frame
  pub supplier : ℕ
  pub takes : Option EntityType
  pub is_creation : Bool
  pub stack_is : (m.handlers p).stack ≡ frame ∷ below
  pub stage_is : frame.stage ≡ Awaits supplier takes is_creation
  pub environment : asked.environment ≡ frame.environment
  pub takes_is : asked.takes ≡ takes

-- the machine's frame that waits
record Waiting (m : machine.World) (p : ℕ) (o : Option Asked) : Type 0 where
  frame : machine.Frame
  below : List machine.Frame
  supplier : ℕ
  takes : Option EntityType
  is_creation : Bool
  stack_is : (m.handlers p).stack ≡ frame ∷ below
  stage_is : frame.stage ≡ Awaits supplier takes is_creation
  takes_as : TakesAs o frame.environment takes

staged_waits : (m : machine.World) (p : ℕ) (f : machine.Frame) (below : List machine.Frame) (B : List Frame → Type 0) (gs : List Frame) (v : Wait)
    → (m.handlers p).stack ≡ f ∷ below → waits_for gs ≡ Some v → (x : machine.Stage) → f.stage ≡ x → IsStaged x (place_of f below) B gs
    → Waiting m p v.asked
staged_waits m p f below B gs v at waits x e is = by x e is
  where
    same : (k : ℕ) (gives : Option EntityType) (c : Bool) → f.stage ≡ Awaits k gives c → Awaited k gives (place_of f below) gs → Waiting m p v.asked
    same k gives c e a = record {
      frame = f;
      below = below;
      supplier = k;
      takes = gives;
      is_creation = c;
      stack_is = at;
      stage_is = e;
      takes_as = subst (λ (y : Wait). TakesAs y.asked f.environment gives) (some_wait a.wait v (sym a.waits ∙ waits)) a.takes;
    }

    by : (x : machine.Stage) → f.stage ≡ x → IsStaged x (place_of f below) B gs → Waiting m p v.asked
    by Runs e is = not_some v (sym is.0 ∙ waits)
    by Reserves e is = not_some v (sym is.0 ∙ waits)
    by ReservesBlock e is = not_some v (sym is.0 ∙ waits)
    by (InCall gives) e is = not_some v (sym is.0 ∙ waits)
    by (Awaits k gives true) e is = same k gives true e is.0
    by (Awaits k gives false) e is = same k gives false e is.0

stack_waits : (m : machine.World) (p : ℕ) (gs : List Frame) (v : Wait) → waits_for gs ≡ Some v → (st : List machine.Frame)
    → (m.handlers p).stack ≡ st → IsStack st gs → Waiting m p v.asked
stack_waits m p [] v waits st at is = not_some v waits
stack_waits m p (g ∷ gs) v waits [] at is = absurd is
stack_waits m p (g ∷ gs) v waits (f ∷ below) at is =
    staged_waits m p f below (AreBlocks (NamesOf f.stage f) f.blocks (IsRoutine f (NeedsOf f.stage f) (IsStack below))) (g ∷ gs) v at waits f.stage
    refl is

met : (P : Option Asked → Type 0) (m : machine.World) (p : ℕ) (q : machine.Request) (o : Option Asked) → P o → AsksFor o q → Waiting m p o
    → Met P m p q
met P m p q None holds asks w = absurd asks
met P m p q (Some x) holds asks w = record {
  asked = x;
  holds = holds;
  poster = asks.0;
  target = asks.1;
  errand = asks.2;
  frame = w.frame;
  below = w.below;
  supplier = w.supplier;
  takes = w.takes;
  is_creation = w.is_creation;
  stack_is = w.stack_is;
  stage_is = w.stage_is;
  environment = w.takes_as.0;
  takes_is = w.takes_as.1;
}

-- a failed handler has no request
still_lives : (t : World) → IsLawful t → (h : ℕ) (r : Request) → IsOne r (requests_of (t.handlers h)) → (t.handlers h).failed ≡ false
still_lives t law h r one = by (t.handlers h).failed refl
  where
    by : (b : Bool) → (t.handlers h).failed ≡ b → (t.handlers h).failed ≡ false
    by false i = i
    by true i = absurd (law.returnable.failures h r one i)

-- Where so it is of all that waits have asked, so it is of what was asked with a request that may end.
pub meets : (P : Option Asked → Type 0) (m : machine.World) (l : Paired P m) (h p : ℕ) (q : machine.Request) → Ends l.linked.world h q
    → q.is_waited ≡ true → q.poster ≡ Some p → (m.handlers p).failure ≡ None → (m.handlers p).answer ≡ None → Met P m p q
meets P m l h p q e waited by_p alive none =
    let t = l.linked.world in
    let stands = l.linked.stands in
    let mine : e.request.poster ≡ p = subst (IsPoster e.request) by_p e.is.poster in
    let top = awaits_on_top t l.linked.law.consistent h e.request
    (record {
      stands = e.stands;
      waited = e.is.waited ∙ waited;
      lives = still_lives t l.linked.law h e.request e.stands;
      older = e.older;
      passes = e.passes;
    })
    (ap (λ y. (t.handlers y).failed) mine ∙ (stands.handlers p).failed ∙ ap is_some alive)
    (ap (λ y. (t.handlers y).answer) mine ∙ (stands.handlers p).answer ∙ ap (option_map answer_of) none) in
    let here : waits_for (t.handlers p).stack ≡ Some top.wait = subst (λ y. waits_for (t.handlers y).stack ≡ Some top.wait) mine top.waits in
    met P m p q e.request.asked
    (subst P top.asked (all_ask P top.wait (t.handlers p).stack (l.asks p) (waits_stack (t.handlers p).stack top.wait here)))
    (e.is.asked waited)
    (subst (Waiting m p) top.asked
    (stack_waits m p (t.handlers p).stack top.wait here (m.handlers p).stack refl (stands.handlers p).stack))
