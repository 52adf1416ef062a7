-- A routine holds its formals while it runs, and the names of its open blocks.
use Rattle.std.proofs.Common.{◌≡◌, ◌⊎◌, ⊎_elim, inl, inr, arith, length, take, drop, ℕ, zero, suc, ◌<◌, ◌==◌, ◌||◌, Bool, true, false, List, [], ◌∷◌, Some, None, refl, sym, ap, ◌∙◌, subst}
use Rattle.std.specs.Prelude.{is_some, Contains, if◌then◌else◌}
use Rattle.std.proofs.lemmas.Bool.{eq-eqb, eqb-true}
use Rattle.sc_tree.specs.Plain.{System}
use Rattle.sc_class.specs.ClassNames.{Root}
use Rattle.sc_lockpass.specs.Rights.{Rights, held, is_handler, is_among}
use Rattle.sc_machine_laws.specs.states.World.{Frame, World, holder, rights_of}
use Rattle.sc_machine_laws.specs.states.Steps.{waits_for, IsActive, Holds, EachHeld}
use Rattle.sc_machine_laws.specs.states.Laws.{RunsIn}
use Rattle.sc_machine_laws.specs.states.Stands.{IsCovered, AreCovered, names_in, NeedsOf, NamesOf, IsRoutine, AreBlocks, Place, place_of, IsStaged, IsStack}
use Rattle.sc_machine_laws.specs.states.Formals.{goes_on, before_reserve, FormalsAreHeld, NamesAreHeld}
use Rattle.sc_machine_laws.proofs.states.LawProofs.{held_while_it_runs}
use Rattle.sc_machine_laws.proofs.states.MachineFrames.{contains_none, contains_first, contains_later, contains_cases}
use Rattle.sc_machine_laws.proofs.states.links.BlockNames.{IsTidy}
use Rattle.sc_machine_laws.proofs.states.links.Points.{Every, IsOpened, leaves}
use Rattle.sc_machine_laws.proofs.states.links.Sound.{IsStageSound, IsFrameSound}
use Rattle.sc_machine_laws.proofs.states.links.Reached.{Linked, reached_linked}
use Rattle.sc_model.specs.Values.{Value, Integer, Boolean, Void, Attached, handler_of}
use Rattle.sc_rules.specs.Names.{is_block}
use Rattle.sc_model.specs.Environments.{Binding, separate_formals, block_values}
use Rattle.sc_model.specs.Tasks.{Task, Leave}
use Rattle.sc_model.specs.Handlers as machine
use Rattle.sc_model.specs.Handlers.{Runs, Reserves, ReservesBlock, InCall, Awaits}
use Rattle.sc_model.specs.Runs as runs

-- a frame runs, and has what it needs
record Running (N : List ℕ → Type 0) (gs : List Frame) : Type 0 where
  frame : Frame
  stands : RunsIn frame gs
  needs : N frame.needs

under : (N : List ℕ → Type 0) (g : Frame) (gs : List Frame) → g.origin ≡ None → Running N gs → Running N (g ∷ gs)
under N g gs e r = record { frame = r.frame; stands = inr (e, r.stands); needs = r.needs }

-- the routine's own
running : (C : ℕ → List ℕ → Type 0) (kss : List (List ℕ)) (f : machine.Frame) (N : List ℕ → Type 0) (B : List Frame → Type 0) (gs : List Frame)
    → AreBlocks C kss (IsRoutine f N B) gs → Running N gs
running C [] f N B [] is = absurd is
running C [] f N B (g ∷ gs) is = record { frame = g; stands = inl refl; needs = is.3 }
running C (ks ∷ kss) f N B [] is = absurd is
running C (ks ∷ kss) f N B (g ∷ gs) is = under N g gs is.0 (running (λ i. C (suc i)) kss f N B gs is.3)

-- that of an open block
running_block : (C : ℕ → List ℕ → Type 0) (kss : List (List ℕ)) (B : List Frame → Type 0) (gs : List Frame) (i : ℕ) → i < length kss
    → AreBlocks C kss B gs → Running (C i) gs
running_block C [] B gs i lt is = absurd (omega (arith, lt))
running_block C (ks ∷ kss) B [] i lt is = absurd is
running_block C (ks ∷ kss) B (g ∷ gs) zero lt is = record { frame = g; stands = inl refl; needs = is.4 }
running_block C (ks ∷ kss) B (g ∷ gs) (suc i) lt is = under (C (suc i)) g gs is.0 (running_block (λ j. C (suc j)) kss B gs i (omega (arith, lt)) is.3)

-- the parts of a frame that goes on
record GoingOn (t : machine.Stage) (f : machine.Frame) (B : List Frame → Type 0) (gs : List Frame) : Type 0 where
  quiet : waits_for gs ≡ None
  parts : AreBlocks (NamesOf t f) f.blocks (IsRoutine f (λ ks. AreCovered f.current.handler ks (separate_formals f.environment)) B) gs

not_true : {A : Type 0} → false ≡ true → A
not_true e = cc

going_on : (t : machine.Stage) (at : Place) (f : machine.Frame) (B : List Frame → Type 0) (gs : List Frame) → goes_on t ≡ true
    → IsStaged t at (AreBlocks (NamesOf t f) f.blocks (IsRoutine f (NeedsOf t f) B)) gs → GoingOn t f B gs
going_on Runs at f B gs e is = record { quiet = is.0; parts = is.1 }
going_on Reserves at f B gs e is = not_true e
going_on ReservesBlock at f B gs e is = record { quiet = is.0; parts = is.1 }
going_on (InCall gives) at f B gs e is = record { quiet = is.0; parts = is.1 }
going_on (Awaits k gives c) at f B gs e is = not_true e

covered_one : (h : ℕ) (ks : List ℕ) (vs : List Value) (v : Value) → AreCovered h ks vs → Contains vs v → IsCovered h ks v
covered_one h ks [] v is i = contains_none v i
covered_one h ks (u ∷ vs) v is i = ⊎_elim (λ e. subst (IsCovered h ks) e is.0) (λ later. covered_one h ks vs v is.1 later) (contains_cases u vs v i)

held_one : (w : World) (h k : ℕ) (ks : List ℕ) → EachHeld w h ks → is_among k ks ≡ true → Holds w h k
held_one w h k [] is e = not_true e
held_one w h k (j ∷ ks) is e = by (j == k) refl e (λ i. held_one w h k ks is.1 i)
  where
    by : (b : Bool) → (j == k) ≡ b → (b || is_among k ks) ≡ true → (is_among k ks ≡ true → Holds w h k) → Holds w h k
    by true i e rest = subst (Holds w h) (eqb-true j k i) is.0
    by false i e rest = rest e

holds_held : (w : World) (h k : ℕ) → Holds w h k → held (rights_of w) h k ≡ true
holds_held w h k (inl e) = ap (λ o. (k == h || is_handler h o) || is_handler h (holder (w.top k))) e
    ∙ ap (λ b. (k == h || b) || is_handler h (holder (w.top k))) (eq-eqb h h refl) ∙ first (k == h) (is_handler h (holder (w.top k)))
  where
    first : (b c : Bool) → ((b || true) || c) ≡ true
    first true c = refl
    first false c = refl
holds_held w h k (inr e) = ap (λ o. (k == h || is_handler h (holder (w.queue k))) || is_handler h o) e
    ∙ ap (λ b. (k == h || is_handler h (holder (w.queue k))) || b) (eq-eqb h h refl) ∙ last (k == h || is_handler h (holder (w.queue k)))
  where
    last : (b : Bool) → (b || true) ≡ true
    last true = refl
    last false = refl

-- ---- where a name stands

split_names : (d : ℕ) (bs : List Binding) (v : Value) → Contains (block_values bs) v
    → Contains (block_values (take d bs)) v ⊎ Contains (block_values (drop d bs)) v
split_names zero bs v i = inr i
split_names (suc d) [] v i = inl i
split_names (suc d) (b ∷ bs) v i = by (is_block b.role) i (λ j. split_names d bs v j)
  where
    by : (c : Bool) → Contains (if c then b.value ∷ block_values bs else block_values bs) v
        → (Contains (block_values bs) v → Contains (block_values (take d bs)) v ⊎ Contains (block_values (drop d bs)) v)
        → Contains (if c then b.value ∷ block_values (take d bs) else block_values (take d bs)) v ⊎ Contains (block_values (drop d bs)) v
    by false i more = more i
    by true i more = ⊎_elim
        (λ e. inl (subst (Contains (b.value ∷ block_values (take d bs))) e (contains_first b.value (block_values (take d bs)))))
        (λ later. ⊎_elim (λ a. inl (contains_later b.value (block_values (take d bs)) v a)) (λ a. inr a) (more later))
        (contains_cases b.value (block_values bs) v i)

-- it is one of an open block's
record OfBlock (ts : List Task) (bs : List Binding) (v : Value) : Type 0 where
  number : ℕ
  to_leave : number < leaves ts
  is : Contains (names_in ts bs number) v

of_block : (ts : List Task) (bs : List Binding) (v : Value) → IsTidy ts bs → Contains (block_values bs) v → OfBlock ts bs v
of_block [] bs v tidy i = contains_none v (subst (λ l. Contains l v) tidy i)
of_block (Leave depth ∷ ts) bs v tidy i = ⊎_elim
    (λ before. let o = of_block ts (take depth bs) v tidy.1 before in let lt = o.to_leave in
    record { number = suc o.number; to_leave = omega (arith, lt); is = o.is })
    (λ mine. record { number = 0; to_leave = omega arith; is = mine })
    (split_names depth bs v i)
of_block (t ∷ ts) bs v tidy i = let o = of_block ts bs v tidy.1 i in record { number = o.number; to_leave = o.to_leave; is = o.is }

-- ---- what is held

lies_held : (w : World) (m : machine.World) (h j k : ℕ) (v : Value) (ks : List ℕ) → rights_of w ≡ m.rights → handler_of v ≡ Some k
    → IsCovered j ks v → j ≡ h → EachHeld w h ks → held m.rights h k ≡ true
lies_held w m h j k v ks rights lies is mine each = by v lies is
  where
    none : {A : Type 0} → None ≡ Some k → A
    none e = cc

    same : (i : ℕ) → Some i ≡ Some k → i ≡ k
    same i e = cc

    by : (v : Value) → handler_of v ≡ Some k → IsCovered j ks v → held m.rights h k ≡ true
    by (Attached r) e (inl here) = ap (λ (b : Bool). (b || is_handler h (m.rights.queue k)) || is_handler h (m.rights.top k))
        (eq-eqb k h (sym (same r.handler e) ∙ here ∙ mine))
    by (Attached r) e (inr among) =
        ap (λ (i : Rights). held i h k) (sym rights)
        ∙ holds_held w h k (held_one w h k ks each (subst (λ i. is_among i ks ≡ true) (same r.handler e) among))
    by (Integer z) e is = none e
    by (Boolean b) e is = none e
    by Void e is = none e

-- the topmost frame of a handler that goes on
record Topmost (m : machine.World) (l : Linked m) (h : ℕ) (f : machine.Frame) (below : List machine.Frame) : Type 0 where
  active : IsActive (l.world.handlers h)
  going : GoingOn f.stage f (IsStack below) (l.world.handlers h).stack
  sound : IsFrameSound (λ j. j < m.count) h f

topmost : (m : machine.World) (l : Linked m) (h : ℕ) (f : machine.Frame) (below : List machine.Frame) → (m.handlers h).failure ≡ None
    → (m.handlers h).stack ≡ f ∷ below → goes_on f.stage ≡ true → Topmost m l h f below
topmost m l h f below lives at on =
    let x = l.stands.handlers h in
    let gs = (l.world.handlers h).stack in
    let g = going_on f.stage (place_of f below) f (IsStack below) gs on (subst (λ st. IsStack st gs) at x.stack) in
    record {
      active = (x.failed ∙ ap is_some lives, g.quiet);
      going = g;
      sound = (subst (Every (IsFrameSound (λ j. j < m.count) h)) at (l.sound h).stack).0;
    }

linked_formals_are_held : (m : machine.World) → Linked m → FormalsAreHeld m
linked_formals_are_held m l h k f below v lives at on i lies =
    let t = topmost m l h f below lives at on in
    let r = running (NamesOf f.stage f) f.blocks f (λ ks. AreCovered f.current.handler ks (separate_formals f.environment)) (IsStack below)
    (l.world.handlers h).stack t.going.parts in
    lies_held l.world m h f.current.handler k v r.frame.needs l.stands.rights lies
    (covered_one f.current.handler r.frame.needs (separate_formals f.environment) v r.needs i) t.sound.current
    (held_while_it_runs l.world l.law h r.frame t.active r.stands)

pub reached_formals_are_held : (most : ℕ) (s : System) (r : Root) (m : machine.World) → runs.IsReached most s r m → FormalsAreHeld m
reached_formals_are_held most s r m is = linked_formals_are_held m (reached_linked most s r m is)

-- the name is one of a block that has a frame
record Placed (t : machine.Stage) (f : machine.Frame) (v : Value) : Type 0 where
  number : ℕ
  there : number < length f.blocks
  is : (ks : List ℕ) → NamesOf t f number ks → IsCovered f.current.handler ks v

placed : (t : machine.Stage) (f : machine.Frame) (v : Value) → goes_on t ≡ true → IsStageSound t f → IsTidy f.tasks f.environment
    → Contains (block_values (before_reserve t f.tasks f.environment)) v → Placed t f v
placed t f v on staged tidy i = by t on staged i
  where
    running_names : leaves f.tasks ≡ length f.blocks → Contains (block_values f.environment) v → Placed Runs f v
    running_names left i =
        let o = of_block f.tasks f.environment v tidy i in
        record {
          number = o.number;
          there = let lt = o.to_leave in omega (arith, lt, left);
          is = λ ks c. covered_one f.current.handler ks (names_in f.tasks f.environment o.number) v c o.is;
        }

    about : (o : IsOpened f.tasks) → leaves f.tasks ≡ suc (length f.blocks) → Contains (block_values (take o.depth f.environment)) v
        → Placed ReservesBlock f v
    about o left i =
        let b = of_block o.rest (take o.depth f.environment) v (subst (λ l. IsTidy l f.environment) o.is tidy).1.1 i in
        record {
          number = b.number;
          there = let lt = b.to_leave in let e : leaves f.tasks ≡ suc (leaves o.rest) = ap leaves o.is in omega (arith, lt, left, e);
          is = λ ks c. covered_one f.current.handler ks (names_in o.rest (take o.depth f.environment) b.number) v
              (subst (λ l. AreCovered f.current.handler ks (names_in l f.environment (suc b.number))) o.is c) b.is;
        }

    by : (t : machine.Stage) → goes_on t ≡ true → IsStageSound t f → Contains (block_values (before_reserve t f.tasks f.environment)) v
        → Placed t f v
    by Runs on staged i = let p = running_names staged i in record { number = p.number; there = p.there; is = p.is }
    by (InCall gives) on staged i = let p = running_names staged i in record { number = p.number; there = p.there; is = p.is }
    by ReservesBlock on staged i = about staged.1 staged.0
        (subst (λ l. Contains (block_values (before_reserve ReservesBlock l f.environment)) v) staged.1.is i)
    by Reserves on staged i = not_true on
    by (Awaits k gives c) on staged i = not_true on

linked_names_are_held : (m : machine.World) → Linked m → NamesAreHeld m
linked_names_are_held m l h k f below v lives at on i lies =
    let t = topmost m l h f below lives at on in
    let p = placed f.stage f v on t.sound.staged t.sound.formals.tidy i in
    let r = running_block (NamesOf f.stage f) f.blocks
    (IsRoutine f (λ ks. AreCovered f.current.handler ks (separate_formals f.environment)) (IsStack below))
    (l.world.handlers h).stack p.number p.there t.going.parts in
    lies_held l.world m h f.current.handler k v r.frame.needs l.stands.rights lies (p.is r.frame.needs r.needs) t.sound.current
    (held_while_it_runs l.world l.law h r.frame t.active r.stands)

pub reached_names_are_held : (most : ℕ) (s : System) (r : Root) (m : machine.World) → runs.IsReached most s r m → NamesAreHeld m
reached_names_are_held most s r m is = linked_names_are_held m (reached_linked most s r m is)
