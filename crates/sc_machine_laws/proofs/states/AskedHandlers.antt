-- Who asks another handler in a turn holds it.
use Rattle.std.specs.Prelude.{Contains, if◌then◌else◌}
use Rattle.std.proofs.Common.{⊎_elim, ◌<◌, Bool, List, None, Option, Some, [], ap, drop, false, refl, subst, suc, sym, take, true, zero, ℕ, ◌∙◌, ◌∷◌, ◌≡◌, ◌⊎◌, inl, inr}
use Rattle.sc_tree.specs.Plain.{System}
use Rattle.sc_rules.specs.declared.entity_types.entity_type.EntityType.{EntityType}
use Rattle.sc_lockpass.specs.Rights.{held}
use Rattle.sc_rules.specs.Names.{is_block}
use Rattle.sc_machine_laws.specs.states.Formals.{FormalsAreHeld, NamesAreHeld, before_reserve, goes_on}
use Rattle.sc_machine_laws.specs.states.Stands.{names_in}
use Rattle.sc_machine_laws.proofs.states.MachineFrames.{contains_cases, contains_first, contains_later, contains_none}
use Rattle.sc_machine_laws.proofs.states.links.BlockNames.{IsTidy}
use Rattle.sc_machine_laws.proofs.states.links.Points.{Every, IsWell, StepsWell, leaves}
use Rattle.sc_machine_laws.proofs.states.links.Sound.{IsFrameSound, IsSound, formals_of}
use Rattle.sc_machine_laws.proofs.states.links.RoutineSteps.{moves_well}
use Rattle.sc_model.specs.Environments.{Binding, block_values, separate_formals}
use Rattle.sc_model.specs.Handlers.{Frame, Runs, World, point_of}
use Rattle.sc_model.specs.Moves.{moves}
use Rattle.sc_model.specs.Steps.{Does, Point, Requests}
use Rattle.sc_model.specs.Tasks.{Leave, Task}
use Rattle.sc_model.specs.Values.{Operand, Reference, Value, handler_of}
use Rattle.sc_machine_laws.specs.states.ValueSteps.{IsNamed, by_block, by_formal}

-- ---- names of blocks

one_of : (b : Binding) (vs us : List Value) (v : Value) → (m : Bool) → Contains (if m then b.value ∷ vs else vs) v → (Contains vs v → Contains us v) → Contains (if m then b.value ∷ us else us) v
one_of b vs us v true i more = ⊎_elim (λ e. subst (Contains (b.value ∷ us)) e (contains_first b.value us)) (λ j. contains_later b.value us v (more j)) (contains_cases b.value vs v i)
one_of b vs us v false i more = more i

behind_one : (b : Binding) (us : List Value) (v : Value) → (m : Bool) → Contains us v → Contains (if m then b.value ∷ us else us) v
behind_one b us v true i = contains_later b.value us v i
behind_one b us v false i = i

names_taken : (d : ℕ) (bs : List Binding) (v : Value) → Contains (block_values (take d bs)) v → Contains (block_values bs) v
names_taken zero bs v i = contains_none v i
names_taken (suc d) [] v i = i
names_taken (suc d) (b ∷ bs) v i = one_of b (block_values (take d bs)) (block_values bs) v (is_block b.role) i (names_taken d bs v)

names_dropped : (d : ℕ) (bs : List Binding) (v : Value) → Contains (block_values (drop d bs)) v → Contains (block_values bs) v
names_dropped zero bs v i = i
names_dropped (suc d) [] v i = i
names_dropped (suc d) (b ∷ bs) v i = behind_one b (block_values bs) v (is_block b.role) (names_dropped d bs v i)

-- each name of an open block is a name
among_names : (ts : List Task) (bs : List Binding) (i : ℕ) (v : Value) → Contains (names_in ts bs i) v → Contains (block_values bs) v
among_names [] bs i v c = contains_none v c
among_names (Leave depth ∷ ts) bs zero v c = names_dropped depth bs v c
among_names (Leave depth ∷ ts) bs (suc i) v c = names_taken depth bs v (among_names ts (take depth bs) i v c)
among_names (t ∷ ts) bs i v c = among_names ts bs i v c

split_names : (d : ℕ) (bs : List Binding) (v : Value) → Contains (block_values bs) v → Contains (block_values (take d bs)) v ⊎ Contains (block_values (drop d bs)) v
split_names zero bs v i = inr i
split_names (suc d) [] v i = inl i
split_names (suc d) (b ∷ bs) v i = by (is_block b.role) i (split_names d bs v)
  where
    by : (c : Bool) → Contains (if c then b.value ∷ block_values bs else block_values bs) v →
        (Contains (block_values bs) v → Contains (block_values (take d bs)) v ⊎ Contains (block_values (drop d bs)) v) →
        Contains (if c then b.value ∷ block_values (take d bs) else block_values (take d bs)) v ⊎ Contains (block_values (drop d bs)) v
    by false i more = more i
    by true i more = ⊎_elim
        (λ e. inl (subst (Contains (b.value ∷ block_values (take d bs))) e (contains_first b.value (block_values (take d bs)))))
        (λ later. ⊎_elim (λ a. inl (contains_later b.value (block_values (take d bs)) v a)) (λ a. inr a) (more later))
        (contains_cases b.value (block_values bs) v i)

-- and each name is one of an open block
of_block : (ts : List Task) (bs : List Binding) (v : Value) → IsTidy ts bs → Contains (block_values bs) v → (i : ℕ) × Contains (names_in ts bs i) v
of_block [] bs v tidy i = contains_none v (subst (λ l. Contains l v) tidy i)
of_block (Leave depth ∷ ts) bs v tidy i = ⊎_elim
    (λ before. let o = of_block ts (take depth bs) v tidy.1 before in (suc o.0, o.1))
    (λ mine. (0, mine))
    (split_names depth bs v i)
of_block (t ∷ ts) bs v tidy i = of_block ts bs v tidy.1 i

-- ---- who is asked

module _ (s : System) (w : World) (sound : IsSound w) (formals : FormalsAreHeld w) (names : NamesAreHeld w) (h : ℕ) (here : h < w.count) (f : Frame) (below : List Frame)
    (lives : (w.handlers h).failure ≡ None) (at : (w.handlers h).stack ≡ f ∷ below) (runs : f.stage ≡ Runs) where
  frame : IsFrameSound (λ j. j < w.count) h f
  frame = (subst (Every (IsFrameSound (λ j. j < w.count) h)) at (sound h).stack).0

  on : goes_on f.stage ≡ true
  on = ap goes_on runs

  start : IsWell (λ j. j < w.count) (formals_of f) (leaves f.tasks) (point_of f (w.handlers h).objects)
  start = record {
    objects = (sound h).objects;
    environment = frame.environment;
    result = frame.result;
    olds = frame.olds;
    values = frame.values;
    tasks = frame.tasks;
    left = refl;
    formals = frame.formals;
  }

  module _ (o : Reference) (x : List ℕ) (us : List Operand) (t : Option EntityType) (c : Bool) (p : Point)
      (move : moves s f.current (point_of f (w.handlers h).objects) ≡ Does (Requests o x us t c) p) where
    after : IsWell (λ j. j < w.count) (formals_of f) (leaves f.tasks) p
    after = (subst (StepsWell (λ j. j < w.count) (formals_of f) f.current.handler (leaves f.tasks)) move
        (moves_well (λ j. j < w.count) (formals_of f) s f.current (subst (λ k. k < w.count) (sym frame.current) here) (leaves f.tasks) (point_of f (w.handlers h).objects) start)).2

    pub asked_is_held : IsNamed p.environment o.handler → held w.rights h o.handler ≡ true
    asked_is_held (by_formal {v} i lies) = formals h o.handler f below v lives at on (subst (λ vs. Contains vs v) after.formals.same i) lies
    asked_is_held (by_block {v} i lies) =
        let b = of_block p.tasks p.environment v after.formals.tidy i in
        let known = among_names f.tasks f.environment b.0 v (subst (λ vs. Contains vs v) (after.formals.named b.0) b.1) in
        names h o.handler f below v lives at on (subst (λ st. Contains (block_values (before_reserve st f.tasks f.environment)) v) (sym runs) known) lies
