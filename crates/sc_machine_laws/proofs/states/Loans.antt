-- A callback stands on a frame that lent all that its handler had reserved.
use Rattle.std.proofs.Common.{◌≡◌, Bool, true, false, List, [], ◌∷◌, Option, Some, None, ℕ, refl, sym, ◌∙◌, subst}
use Rattle.sc_rules.specs.declared.entity_types.entity_type.EntityType.{EntityType}
use Rattle.sc_model.specs.Handlers as machine
use Rattle.sc_model.specs.Handlers.{Runs, Reserves, ReservesBlock, InCall, Awaits}
use Rattle.sc_machine_laws.specs.states.World.{Asked, Wait, Request, Frame}
use Rattle.sc_machine_laws.specs.states.Steps.{waits_for}
use Rattle.sc_machine_laws.specs.states.Stands.{NeedsOf, NamesOf, IsCallback, IsRoutine, AreBlocks, place_of, left_in, LendsAs, Awaited, IsStaged, IsStack}
use Rattle.sc_machine_laws.proofs.states.Rights.{not_some}
use Rattle.sc_machine_laws.proofs.states.Waits.{some_wait, waits_stack}
use Rattle.sc_machine_laws.proofs.states.Named.{all_ask}
use Rattle.sc_machine_laws.proofs.states.links.Reached.{Paired}

-- whether the topmost frame, which waits, has lent, and what was left to do then
staged_lends : (f : machine.Frame) (below : List machine.Frame) (B : List Frame → Type 0) (gs : List Frame) (v : Wait) → waits_for gs ≡ Some v
    → (x : machine.Stage) → IsStaged x (place_of f below) B gs → LendsAs v.asked v.passing (left_in (f ∷ below))
staged_lends f below B gs v waits x is = by x is
  where
    same : (k : ℕ) (gives : Option EntityType) → Awaited k gives (place_of f below) gs → LendsAs v.asked v.passing (left_in (f ∷ below))
    same k gives a = subst (λ (y : Wait). LendsAs y.asked y.passing (left_in (f ∷ below))) (some_wait a.wait v (sym a.waits ∙ waits)) a.lends

    by : (x : machine.Stage) → IsStaged x (place_of f below) B gs → LendsAs v.asked v.passing (left_in (f ∷ below))
    by Runs is = not_some v (sym is.0 ∙ waits)
    by Reserves is = not_some v (sym is.0 ∙ waits)
    by ReservesBlock is = not_some v (sym is.0 ∙ waits)
    by (InCall gives) is = not_some v (sym is.0 ∙ waits)
    by (Awaits k gives true) is = same k gives is.0
    by (Awaits k gives false) is = same k gives is.0

stack_lends : (st : List machine.Frame) (gs : List Frame) (v : Wait) → waits_for gs ≡ Some v → IsStack st gs → LendsAs v.asked v.passing (left_in st)
stack_lends [] [] v waits is = not_some v waits
stack_lends [] (g ∷ gs) v waits is = absurd is
stack_lends (f ∷ below) gs v waits is =
    staged_lends f below (AreBlocks (NamesOf f.stage f) f.blocks (IsRoutine f (NeedsOf f.stage f) (IsStack below))) gs v waits f.stage is

there_is : (o : Option Request) (q : machine.Request) → IsCallback o (Some q) → (r : Request) × (o ≡ Some r)
there_is None q is = absurd is
there_is (Some r) q is = (r, refl)

-- What was asked for with the wait of the topmost frame, as far as it says what was left to do of the handler's stack then.
pub record Lent (P : Option Asked → Type 0) (m : machine.World) (h : ℕ) : Type 0 where
  pub asked : Asked
  pub holds : P (Some asked)
  pub lends : asked.lends ≡ true
  pub left : asked.left ≡ left_in (m.handlers h).stack

lent : (P : Option Asked → Type 0) (m : machine.World) (h : ℕ) (o : Option Asked) → P o → LendsAs o true (left_in (m.handlers h).stack) → Lent P m h
lent P m h None holds is = absurd is
lent P m h (Some a) holds is = record { asked = a; holds = holds; lends = is.0; left = is.1 }

-- Where so it is of all that waits have asked, so it is of what the frame asked on which a callback stands, and it lent.
pub callback_lent : (P : Option Asked → Type 0) (m : machine.World) → Paired P m → (h : ℕ) (q : machine.Request) → (m.handlers h).callback ≡ Some q → Lent P m h
callback_lent P m p h q e =
    let t = p.linked.world in
    let r = there_is (t.handlers h).callback q (subst (IsCallback (t.handlers h).callback) e (p.linked.stands.handlers h).callback) in
    let passed = (p.linked.law.consistent.callbacks h r.0 r.1).1 in
    let v = passed.0 in
    lent P m h v.asked (all_ask P v (t.handlers h).stack (p.asks h) (waits_stack (t.handlers h).stack v passed.1))
    (subst (λ (b : Bool). LendsAs v.asked b (left_in (m.handlers h).stack)) passed.2
    (stack_lends (m.handlers h).stack (t.handlers h).stack v passed.1 (p.linked.stands.handlers h).stack))
