-- The frames of the world of rights that stand for one frame of the machine.
use Rattle.std.proofs.Common.{◌≡◌, ◌⊎◌, ⊎_elim, inl, inr, ℕ, suc, List, [], ◌∷◌, Option, Some, None, Bool, true, false, refl, sym, ap, ◌∙◌, subst, arith}
use Rattle.std.specs.Prelude.{Contains}
use Rattle.std.proofs.lemmas.List.Elements.{Contains-append_left, Contains-append_right, Contains-append_cases, Contains-push, Contains-push_cases}
use Rattle.sc_rules.specs.declared.entity_types.entity_type.EntityType.{EntityType}
use Rattle.sc_model.specs.Handlers as machine
use Rattle.sc_model.specs.Handlers.{Runs, Reserves, ReservesBlock, InCall, Awaits}
use Rattle.sc_machine_laws.specs.states.World.{Wait, Frame, popped}
use Rattle.sc_machine_laws.specs.states.Steps.{waits_for}
use Rattle.sc_machine_laws.specs.states.Consistent.{StackWaits}
use Rattle.sc_machine_laws.specs.states.Stands.{IsRoutine, AreBlocks, Place, Awaited, IsCreation, IsStaged}
use Rattle.sc_machine_laws.proofs.states.Waits.{some_wait, popped_stack}

-- ---- lists

pub contains_first : {X : Type 0} (x : X) (xs : List X) → Contains (x ∷ xs) x
contains_first {X} x xs = Contains-append_left (x ∷ []) xs x (Contains-push [] x)

pub contains_later : {X : Type 0} (y : X) (xs : List X) (x : X) → Contains xs x → Contains (y ∷ xs) x
contains_later {X} y xs x i = Contains-append_right (y ∷ []) xs x i

pub contains_none : {X A : Type 0} (x : X) → Contains [] x → A
contains_none x i = absurd (let lt = i.1 in omega (arith, lt))

pub contains_cases : {X : Type 0} (y : X) (xs : List X) (x : X) → Contains (y ∷ xs) x → (y ≡ x) ⊎ Contains xs x
contains_cases {X} y xs x i = ⊎_elim
    (λ a. ⊎_elim (λ b. contains_none x b) (λ e. inl e) (Contains-push_cases [] y x a))
    (λ b. inr b)
    (Contains-append_cases (y ∷ []) xs x i)

-- ---- the frames of one frame of the machine

-- after them stand those of the frames below, and only the topmost may wait
pub record Parted (B : List Frame → Type 0) (gs : List Frame) : Type 0 where
  pub rest : List Frame
  pub below : B rest
  pub more : (v : Wait) → StackWaits v rest → StackWaits v (popped gs)
  pub less : (v : Wait) → StackWaits v gs → (waits_for gs ≡ Some v) ⊎ StackWaits v rest

pub none_some : {X A : Type 0} (x : X) → None ≡ Some x → A
none_some x e = cc

pub none_waits : {A : Type 0} (v : Wait) (gs : List Frame) → waits_for gs ≡ None → waits_for gs ≡ Some v → A
none_waits v gs e f = none_some v (sym e ∙ f)

routine_parted : (f : machine.Frame) (N : List ℕ → Type 0) (B : List Frame → Type 0) (gs : List Frame) → IsRoutine f N B gs → Parted B gs
routine_parted f N B [] is = absurd is
routine_parted f N B (g ∷ gs) is = record { rest = gs; below = is.2; more = λ v s. s; less = λ v s. s }

blocks_parted : (C : ℕ → List ℕ → Type 0) (kss : List (List ℕ)) (f : machine.Frame) (N : List ℕ → Type 0) (B : List Frame → Type 0)
    (gs : List Frame) → AreBlocks C kss (IsRoutine f N B) gs → Parted B gs
blocks_parted C [] f N B gs is = routine_parted f N B gs is
blocks_parted C (ks ∷ kss) f N B [] is = absurd is
blocks_parted C (ks ∷ kss) f N B (g ∷ gs) is =
    let p = blocks_parted (λ i. C (suc i)) kss f N B gs is.3 in
    record {
      rest = p.rest;
      below = p.below;
      more = λ v s. popped_stack v gs (p.more v s);
      less = λ v s. ⊎_elim (λ e. inl e) (λ i. ⊎_elim (λ e. none_waits v gs is.2 e) (λ r. inr r) (p.less v i)) s;
    }

creation_parted : (C : ℕ → List ℕ → Type 0) (k : ℕ) (kss : List (List ℕ)) (f : machine.Frame) (N : List ℕ → Type 0) (B : List Frame → Type 0)
    (gs : List Frame)
    → IsCreation k (AreBlocks C kss (IsRoutine f N B)) gs → Parted B gs
creation_parted C k kss f N B [] is = absurd is
creation_parted C k kss f N B (g ∷ gs) is =
    let p = blocks_parted C kss f N B gs is.3 in
    record {
      rest = p.rest;
      below = p.below;
      more = λ v s. popped_stack v gs (p.more v s);
      less = λ v s. ⊎_elim (λ e. inl e) (λ i. ⊎_elim (λ e. none_waits v gs is.2 e) (λ r. inr r) (p.less v i)) s;
    }

pub staged_parted : (C : ℕ → List ℕ → Type 0) (stage : machine.Stage) (at : Place) (f : machine.Frame) (N : List ℕ → Type 0) (B : List Frame → Type 0)
    (gs : List Frame)
    → IsStaged stage at (AreBlocks C f.blocks (IsRoutine f N B)) gs → Parted B gs
staged_parted C Runs at f N B gs is = blocks_parted C f.blocks f N B gs is.1
staged_parted C Reserves at f N B gs is = blocks_parted C f.blocks f N B gs is.1
staged_parted C ReservesBlock at f N B gs is = blocks_parted C f.blocks f N B gs is.1
staged_parted C (InCall gives) at f N B gs is = blocks_parted C f.blocks f N B gs is.1
staged_parted C (Awaits k gives true) at f N B gs is = creation_parted C k f.blocks f N B gs is.1
staged_parted C (Awaits k gives false) at f N B gs is = blocks_parted C f.blocks f N B gs is.1

-- who the topmost waits for is whose answer the frame awaits
pub staged_awaits : (k : ℕ) (gives : Option EntityType) (c : Bool) (stage : machine.Stage) (at : Place) (B : List Frame → Type 0)
    (gs : List Frame) → stage ≡ Awaits k gives c → IsStaged stage at B gs → Awaited k gives at gs
staged_awaits k gives c stage at B gs e is = by c (subst (λ t. IsStaged t at B gs) e is)
  where
    by : (c : Bool) → IsStaged (Awaits k gives c) at B gs → Awaited k gives at gs
    by true i = i.0
    by false i = i.0

-- whose answer a frame awaits
pub record AwaitsOf (k : ℕ) (f : machine.Frame) : Type 0 where
  pub gives : Option EntityType
  pub is_creation : Bool
  pub stage : f.stage ≡ Awaits k gives is_creation

pub staged_of : (f : machine.Frame) (at : Place) (B : List Frame → Type 0) (gs : List Frame) (v : Wait) → IsStaged f.stage at B gs
    → waits_for gs ≡ Some v → AwaitsOf v.target f
staged_of f at B gs v is top = by f.stage refl is
  where
    same : (k : ℕ) (gives : Option EntityType) (c : Bool) → f.stage ≡ Awaits k gives c → Awaited k gives at gs
        → AwaitsOf v.target f
    same k gives c e a =
        let to : k ≡ v.target = sym a.target ∙ ap (λ (x : Wait). x.target) (some_wait a.wait v (sym a.waits ∙ top)) in
        subst (λ j. AwaitsOf j f) to (record { gives = gives; is_creation = c; stage = e })

    by : (t : machine.Stage) → f.stage ≡ t → IsStaged t at B gs → AwaitsOf v.target f
    by Runs e i = none_waits v gs i.0 top
    by Reserves e i = none_waits v gs i.0 top
    by ReservesBlock e i = none_waits v gs i.0 top
    by (InCall gives) e i = none_waits v gs i.0 top
    by (Awaits k gives true) e i = same k gives true e i.0
    by (Awaits k gives false) e i = same k gives false e i.0
