-- Whoever awaits an answer has its request at its target, or has been told of a failure.
use Rattle.std.proofs.Common.{◌≡◌, ◌⊎◌, ⊎_elim, inl, inr, ℕ, suc, Bool, true, false, List, [], ◌∷◌, ◌++◌, Option, Some, None, refl, sym, ap, ◌∙◌, subst}
use Rattle.std.specs.Prelude.{Contains, is_some}
use Rattle.std.specs.Option.{option_map}
use Rattle.sc_tree.specs.Plain.{System}
use Rattle.sc_class.specs.ClassNames.{Root}
use Rattle.sc_rules.specs.declared.entity_types.entity_type.EntityType.{EntityType}
use Rattle.sc_model.specs.Failures.{requests_at}
use Rattle.sc_model.specs.Handlers as machine
use Rattle.sc_model.specs.Handlers.{Awaits, Failed, InCall, Refused, Reply, Reserves, ReservesBlock, Runs}
use Rattle.sc_model.specs.Runs.{IsReached}
use Rattle.sc_machine_laws.specs.states.World.{Frame, Handler, Request, SupplierFailed, Wait, World, and_begun, and_this, popped, requests_of}
use Rattle.sc_machine_laws.specs.states.Consistent.{IsOne, IsOpen, StackWaits}
use Rattle.sc_machine_laws.specs.states.Headline.{lower, topmost}
use Rattle.sc_machine_laws.specs.states.Lawful.{IsLawful}
use Rattle.sc_machine_laws.specs.states.Served.{Serves}
use Rattle.sc_machine_laws.specs.states.Stands.{AreBlocks, AreRequests, Awaited, IsCreation, IsPoster, IsRequest, IsRoutine, IsStack, IsStaged, NamesOf, NeedsOf, Place, Stands, answer_of, place_of}
use Rattle.sc_machine_laws.specs.states.Steps.{IsTold, answered, waits_for}
use Rattle.sc_machine_laws.proofs.states.MachineFrames.{contains_cases, contains_first, contains_later, contains_none}
use Rattle.sc_machine_laws.proofs.states.Waits.{true_false}
use Rattle.sc_machine_laws.proofs.states.links.Reached.{reached_stands}
use Rattle.sc_machine_laws.proofs.StandingRequests.{begun_in, standing, standing_is, this_if}
use Rattle.sc_machine_laws.proofs.Tops.{reply_same}
use Rattle.sc_refines_world.specs.Moving.{HasRequestAt, WaitersHaveRequests}

none_some : {X A : Type 0} (x : X) → None ≡ Some x → A
none_some x e = cc

-- ---- waits of the two stacks

first_waits : (gs : List Frame) (v : Wait) → waits_for gs ≡ Some v → StackWaits v gs
first_waits [] v e = none_some v e
first_waits (g ∷ gs) v e = inl e

popped_waits : (v : Wait) (gs : List Frame) → StackWaits v (popped gs) → StackWaits v gs
popped_waits v [] s = s
popped_waits v (g ∷ gs) s = inr s

-- after the parts of a frame stand those of the frames below
record Under (B : List Frame → Type 0) (gs : List Frame) : Type 0 where
  rest : List Frame
  below : B rest
  more : (v : Wait) → StackWaits v rest → StackWaits v (popped gs)

under_one : {B : List Frame → Type 0} (g : Frame) (gs : List Frame) → Under B gs → Under B (g ∷ gs)
under_one g gs u = record { rest = u.rest; below = u.below; more = λ v s. popped_waits v gs (u.more v s) }

under_blocks : (C : ℕ → List ℕ → Type 0) (kss : List (List ℕ)) (f : machine.Frame) (N : List ℕ → Type 0) (B : List Frame → Type 0) (gs : List Frame) →
    AreBlocks C kss (IsRoutine f N B) gs → Under B gs
under_blocks C [] f N B [] is = absurd is
under_blocks C [] f N B (g ∷ gs) is = record { rest = gs; below = is.2; more = λ v s. s }
under_blocks C (ks ∷ kss) f N B [] is = absurd is
under_blocks C (ks ∷ kss) f N B (g ∷ gs) is = under_one g gs (under_blocks (λ i. C (suc i)) kss f N B gs is.3)

under_creation : (C : ℕ → List ℕ → Type 0) (k : ℕ) (kss : List (List ℕ)) (f : machine.Frame) (N : List ℕ → Type 0) (B : List Frame → Type 0) (gs : List Frame) →
    IsCreation k (AreBlocks C kss (IsRoutine f N B)) gs → Under B gs
under_creation C k kss f N B [] is = absurd is
under_creation C k kss f N B (g ∷ gs) is = under_one g gs (under_blocks C kss f N B gs is.3)

under_frame : (C : ℕ → List ℕ → Type 0) (stage : machine.Stage) (at : Place) (f : machine.Frame) (N : List ℕ → Type 0) (B : List Frame → Type 0) (gs : List Frame) →
    IsStaged stage at (AreBlocks C f.blocks (IsRoutine f N B)) gs → Under B gs
under_frame C Runs at f N B gs is = under_blocks C f.blocks f N B gs is.1
under_frame C Reserves at f N B gs is = under_blocks C f.blocks f N B gs is.1
under_frame C ReservesBlock at f N B gs is = under_blocks C f.blocks f N B gs is.1
under_frame C (InCall gives) at f N B gs is = under_blocks C f.blocks f N B gs is.1
under_frame C (Awaits k gives true) at f N B gs is = under_creation C k f.blocks f N B gs is.1
under_frame C (Awaits k gives false) at f N B gs is = under_blocks C f.blocks f N B gs is.1

under_top : (f : machine.Frame) (below : List machine.Frame) (gs : List Frame) → IsStack (f ∷ below) gs → Under (IsStack below) gs
under_top f below gs is = under_frame (NamesOf f.stage f) f.stage (place_of f below) f (NeedsOf f.stage f) (IsStack below) gs is

top_wait : (k : ℕ) (gives : Option EntityType) (c : Bool) (f : machine.Frame) (below : List machine.Frame) (gs : List Frame) → f.stage ≡ Awaits k gives c → IsStack (f ∷ below) gs →
    Awaited k gives (place_of f below) gs
top_wait k gives c f below gs e is =
    by c (subst (λ x. IsStaged x (place_of f below) (AreBlocks (NamesOf f.stage f) f.blocks (IsRoutine f (NeedsOf f.stage f) (IsStack below))) gs) e is)
  where
    by : (c : Bool) → IsStaged (Awaits k gives c) (place_of f below) (AreBlocks (NamesOf f.stage f) f.blocks (IsRoutine f (NeedsOf f.stage f) (IsStack below))) gs →
        Awaited k gives (place_of f below) gs
    by true i = i.0
    by false i = i.0

-- a frame that awaits an answer waits in the world of rights
waits_in : (k : ℕ) (gives : Option EntityType) (c : Bool) (st : List machine.Frame) (gs : List Frame) (f : machine.Frame) → IsStack st gs → Contains st f → f.stage ≡ Awaits k gives c →
    (v : Wait) × StackWaits v gs × (v.target ≡ k)
waits_in k gives c [] gs f is i e = contains_none f i
waits_in k gives c (g ∷ st) gs f is i e =
    ⊎_elim
    (λ here. let a = top_wait k gives c g st gs (ap (λ (x : machine.Frame). x.stage) here ∙ e) is in (a.wait, first_waits gs a.wait a.waits, a.target))
    (λ there. let u = under_top g st gs is in
    let r = waits_in k gives c st u.rest f u.below there e in (r.0, popped_waits r.0 gs (u.more r.0 r.1), r.2))
    (contains_cases g st f i)

-- ---- requests of the two worlds

one_before : (r : Request) (xs ys : List Request) → IsOne r xs → IsOne r (xs ++ ys)
one_before r [] ys i = absurd i
one_before r (x ∷ xs) ys (inl e) = inl e
one_before r (x ∷ xs) ys (inr i) = inr (one_before r xs ys i)

one_behind : (r : Request) (xs ys : List Request) → IsOne r ys → IsOne r (xs ++ ys)
one_behind r [] ys i = i
one_behind r (x ∷ xs) ys i = inr (one_behind r xs ys i)

one_this : (r : Request) (o : Option Request) (xs : List Request) → IsOne r (and_this o xs) → IsOne r (this_if o) ⊎ IsOne r xs
one_this r None xs i = inr i
one_this r (Some q) xs (inl e) = inl (inl e)
one_this r (Some q) xs (inr i) = inr i

one_begun : (r : Request) (fs : List Frame) (rs : List Request) → IsOne r (and_begun fs rs) → IsOne r (begun_in fs) ⊎ IsOne r rs
one_begun r [] rs i = inr i
one_begun r (f ∷ fs) rs i = by f.origin (⊎_elim (λ a. inl a) (λ b. inr (one_begun r fs rs b)) (one_this r f.origin (and_begun fs rs) i))
  where
    by : (o : Option Request) → IsOne r (this_if o) ⊎ (IsOne r (begun_in fs) ⊎ IsOne r rs) → IsOne r (and_this o (begun_in fs)) ⊎ IsOne r rs
    by None (inl i) = absurd i
    by None (inr i) = i
    by (Some q) (inl (inl e)) = inl (inl e)
    by (Some q) (inl (inr i)) = absurd i
    by (Some q) (inr (inl i)) = inl (inr i)
    by (Some q) (inr (inr i)) = inr i

-- in the order of the machine
one_standing : (g : Handler) (r : Request) → IsOne r (requests_of g) → IsOne r (standing g)
one_standing g r i = ⊎_elim
    (λ a. one_before r (g.requests ++ this_if g.callback) (begun_in g.stack) (one_behind r g.requests (this_if g.callback) a))
    (λ b. ⊎_elim
    (λ c. one_behind r (g.requests ++ this_if g.callback) (begun_in g.stack) c)
    (λ d. one_before r (g.requests ++ this_if g.callback) (begun_in g.stack) (one_before r g.requests (this_if g.callback) d))
    (one_begun r g.stack g.requests b))
    (one_this r g.callback (and_begun g.stack g.requests) i)

-- what stands in the world of rights stands for one of the machine's
one_of : (rs : List Request) (qs : List machine.Request) (r : Request) → AreRequests rs qs → IsOne r rs → (q : machine.Request) × Contains qs q × IsRequest r q
one_of [] qs r are i = absurd i
one_of (a ∷ rs) [] r are i = absurd are
one_of (a ∷ rs) (b ∷ qs) r are (inl e) = (b, contains_first b qs, subst (λ x. IsRequest x b) e are.0)
one_of (a ∷ rs) (b ∷ qs) r are (inr i) = let z = one_of rs qs r are.1 i in (z.0, contains_later b qs z.0 z.1, z.2)

posted_by : (r : Request) (p : ℕ) (o : Option ℕ) → IsPoster r o → r.waited ≡ true → r.poster ≡ p → o ≡ Some p
posted_by r p None is waited e = true_false (sym waited ∙ is)
posted_by r p (Some j) is waited e = ap (λ k. Some k) (sym is ∙ e)

module _ (t : World) (m : machine.World) (law : IsLawful t) (stands : Stands t m) where
  told_there : (p : ℕ) → IsTold (t.handlers p) → (m.handlers p).answer ≡ Some Failed
  told_there p e = by (m.handlers p).answer (sym (stands.handlers p).answer ∙ e)
    where
      by : (a : Option machine.Answer) → option_map answer_of a ≡ Some SupplierFailed → a ≡ Some Failed
      by None i = none_some SupplierFailed i
      by (Some Failed) i = refl
      by (Some (Reply v)) i = cc
      by (Some Refused) i = cc

  served_there : (p k : ℕ) (v : Wait) → IsOpen v (t.handlers p) → v.target ≡ k → (m.handlers k).failure ≡ None → ((m.handlers p).answer ≡ Some Failed) ⊎ HasRequestAt m p k
  served_there p k v still to lives = by (law.served p v still (ap (λ j. (t.handlers j).failed) to ∙ (stands.handlers k).failed ∙ ap is_some lives))
    where
      at : Serves t p v → HasRequestAt m p k
      at z =
          let there = subst (λ j. IsOne z.request (requests_of (t.handlers j))) to z.stands in
          let q = one_of (standing (t.handlers k)) (requests_at (m.handlers k)) z.request (standing_is (t.handlers k) (m.handlers k) (stands.handlers k)) (one_standing (t.handlers k) z.request there) in
          record {
            request = q.0;
            stands = q.1;
            poster_is = posted_by z.request p q.0.poster q.2.poster z.waited z.poster;
            is_waited = sym q.2.waited ∙ z.waited;
          }

      by : IsTold (t.handlers p) ⊎ Serves t p v → ((m.handlers p).answer ≡ Some Failed) ⊎ HasRequestAt m p k
      by (inl e) = inl (told_there p e)
      by (inr z) = inr (at z)

  waiters_have_requests : WaitersHaveRequests m
  waiters_have_requests p k (topmost {f} {below} {gives} {is_creation} at stage none) lives =
      let gs = (t.handlers p).stack in
      let a = top_wait k gives is_creation f below gs stage (subst (λ st. IsStack st gs) at (stands.handlers p).stack) in
      served_there p k a.wait (first_waits gs a.wait a.waits, inl (ap answered (stands.handlers p).answer ∙ reply_same (m.handlers p).answer ∙ none)) a.target lives
  waiters_have_requests p k (lower {f} {g} {below} {gives} {is_creation} at i stage) lives =
      let gs = (t.handlers p).stack in
      let u = under_top g below gs (subst (λ st. IsStack st gs) at (stands.handlers p).stack) in
      let r = waits_in k gives is_creation below u.rest f u.below i stage in
      let low = u.more r.0 r.1 in
      served_there p k r.0 (popped_waits r.0 gs low, inr low) r.2 lives

pub reached_waiters_have_requests : (most : ℕ) (s : System) (root : Root) (w : machine.World) → IsReached most s root w → WaitersHaveRequests w
reached_waiters_have_requests most s root w reached = let t = reached_stands most s root w reached in waiters_have_requests t.0 w t.1 t.2
