-- What a turn is asked for fits its frame.
use Rattle.std.proofs.Common.{inl, inr, ◌≡◌, ℕ, zero, suc, ◌<◌, ◌==◌, ◌&&◌, ◌||◌, not, Bool, true, false, List, [], ◌∷◌, length, map, filter, drop, cond, refl, sym, ap, ◌∙◌, subst, arith}
use Rattle.std.specs.List.{list_any}
use Rattle.std.proofs.lemmas.Bool.{eqb-true}
use Rattle.sc_tree.specs.Plain.{System}
use Rattle.sc_lockpass.specs.Rights.{held}
use Rattle.sc_lockpass.specs.wait_conditions.Laws.{is_on}
use Rattle.sc_lockpass.proofs.wait_conditions.EntryLaws.{needs_unheld}
use Rattle.sc_model.specs.Values.{Value, Integer, Boolean, Void, Attached, handler_of}
use Rattle.sc_model.specs.Environments.{Binding, is_separate_formal, separate_formals, block_values}
use Rattle.sc_model.specs.Tasks.{Task, Do, Leave}
use Rattle.sc_model.specs.Steps.{Point, Act, Prints, Until, Creates, CreatesHandler, Enters, Requests, Starts, Refuses, Opens, Leaves, Exits, Fails, Step, Goes, Does}
use Rattle.sc_model.specs.Moves.{moves}
use Rattle.sc_model.specs.Handlers.{Stage, Runs, Reserves, ReservesBlock, InCall, Awaits, Frame, World, point_of}
use Rattle.sc_model.specs.Entries.{opened_in, needed_for}
use Rattle.sc_machine_laws.proofs.states.links.BlockNames.{none_names}
use Rattle.sc_machine_laws.proofs.states.links.Points.{Known, Every, BindingKnown, DoesWell, StepsWell}
use Rattle.sc_machine_laws.proofs.states.links.Sound.{formals_of, IsStageSound, IsFrameSound, IsSound}
use Rattle.sc_machine_laws.proofs.states.links.Exits.{FormalsStay}
use Rattle.sc_machine_laws.proofs.states.links.Turns.{NamesStay, ActFits, StepFits, AreThere, FrameFits, StackFits}
use Rattle.sc_machine_laws.proofs.states.links.SoundEffects.{no_blocks}
use Rattle.sc_machine_laws.proofs.states.links.SoundTurns.{moves_sound}

-- ---- what a turn is asked for

and_left : (b c : Bool) → (b && c) ≡ true → b ≡ true
and_left true c e = refl
and_left false c e = e

lies_known : (K : ℕ → Type 0) (k : ℕ) (vs : List Value) → Every (Known K) vs → list_any (is_on k) (map handler_of vs) ≡ true → K k
lies_known K k [] is e = no e
  where
    no : {A : Type 0} → false ≡ true → A
    no e = cc
lies_known K k (Attached r ∷ vs) is e = by (r.handler == k) refl e (λ e. lies_known K k vs is.1 e)
  where
    by : (b : Bool) → (r.handler == k) ≡ b → (b || list_any (is_on k) (map handler_of vs)) ≡ true
        → (list_any (is_on k) (map handler_of vs) ≡ true → K k) → K k
    by true i e rest = subst K (eqb-true r.handler k i) is.0
    by false i e rest = rest e
lies_known K k (Integer z ∷ vs) is e = lies_known K k vs is.1 e
lies_known K k (Boolean b ∷ vs) is e = lies_known K k vs is.1 e
lies_known K k (Void ∷ vs) is e = lies_known K k vs is.1 e

needs_there : (h : ℕ) (vs : List Value) (m : World) → Every (Known (λ j. j < m.count)) vs → AreThere m (needed_for h vs m)
needs_there h vs m known k e =
    lies_known (λ j. j < m.count) k vs known (and_left (list_any (is_on k) (map handler_of vs)) (not (held m.rights h k))
    (sym (needs_unheld m.rights h k (map handler_of vs)) ∙ e))

bound_known : (K : ℕ → Type 0) (bs : List Binding) → Every (BindingKnown K) bs → Every (Known K) (map (λ (b : Binding). b.value) bs)
bound_known K [] is = tt
bound_known K (b ∷ bs) is = (is.0, bound_known K bs is.1)

filter_known : (K : ℕ → Type 0) (bs : List Binding) → Every (BindingKnown K) bs → Every (BindingKnown K) (filter is_separate_formal bs)
filter_known K [] is = tt
filter_known K (b ∷ bs) is = by (is_separate_formal b) (filter_known K bs is.1)
  where
    by : (c : Bool) → Every (BindingKnown K) (filter is_separate_formal bs)
        → Every (BindingKnown K) (cond c (b ∷ filter is_separate_formal bs) (filter is_separate_formal bs))
    by true rest = (is.0, rest)
    by false rest = rest

drop_known : (K : ℕ → Type 0) (n : ℕ) (bs : List Binding) → Every (BindingKnown K) bs → Every (BindingKnown K) (drop n bs)
drop_known K zero bs is = is
drop_known K (suc n) [] is = tt
drop_known K (suc n) (b ∷ bs) is = drop_known K n bs is.1

opened_known : (K : ℕ → Type 0) (bs : List Binding) (ts : List Task) → Every (BindingKnown K) bs → Every (Known K) (opened_in bs ts)
opened_known K bs (Do body ∷ Leave depth ∷ ts) is = bound_known K (drop depth bs) (drop_known K depth bs is)
opened_known K bs ts is = tt

act_fits : (K : ℕ → Type 0) (h : ℕ) (f : Frame) (a : Act) (p : Point) → DoesWell K (formals_of f) h (length f.blocks) a p → ActFits h f a
act_fits K h f (Prints text) p w = tt
act_fits K h f Until p w = tt
act_fits K h f Creates p w = tt
act_fits K h f Starts p w = tt
act_fits K h f (CreatesHandler class procedure us t passing) p w = tt
act_fits K h f (Enters c r x us gives) p w = tt
act_fits K h f (Requests r x us gives passing) p w = w.0
act_fits K h f (Refuses k) p w = no_blocks f.blocks w.0
act_fits K h f Opens p w = tt
act_fits K h f Leaves p w = λ none. no_length f.blocks none w.0 w.1
  where
    no_length : {X : Type 0} (xs : List X) → xs ≡ [] → (j : ℕ) → length xs ≡ suc j → ⊥
    no_length [] e j i = omega (arith, i)
    no_length (x ∷ xs) e j i = absurd (empty e)
      where
        empty : x ∷ xs ≡ [] → ⊥
        empty e = cc
act_fits K h f Exits p w = no_blocks f.blocks w.0
act_fits K h f (Fails why) p w = tt

formals_stay : (K : ℕ → Type 0) (h : ℕ) (f : Frame) (a : Act) (p : Point) → DoesWell K (formals_of f) h (length f.blocks) a p → FormalsStay f p
formals_stay K h f (Prints text) p w = inl w.formals.same
formals_stay K h f Until p w = inl w.formals.same
formals_stay K h f Creates p w = inl w.formals.same
formals_stay K h f Starts p w = inl w.formals.same
formals_stay K h f (CreatesHandler class procedure us t passing) p w = inl w.1.formals.same
formals_stay K h f (Enters c r x us gives) p w = inl w.2.formals.same
formals_stay K h f (Requests r x us gives passing) p w = inl w.2.formals.same
formals_stay K h f (Refuses k) p w = inl w.1.formals.same
formals_stay K h f Opens p w = inl w.0.formals.same
formals_stay K h f Leaves p w = inl w.2.formals.same
formals_stay K h f Exits p w = inl w.1.formals.same
formals_stay K h f (Fails why) p w = inr (ap separate_formals w.1)

names_stay : (K : ℕ → Type 0) (h : ℕ) (f : Frame) (a : Act) (p : Point) → DoesWell K (formals_of f) h (length f.blocks) a p → NamesStay f a p
names_stay K h f (Prints text) p w = w.formals.named
names_stay K h f Until p w = w.formals.named
names_stay K h f Creates p w = w.formals.named
names_stay K h f Starts p w = w.formals.named
names_stay K h f (CreatesHandler class procedure us t passing) p w = w.1.formals.named
names_stay K h f (Enters c r x us gives) p w = w.2.formals.named
names_stay K h f (Requests r x us gives passing) p w = w.2.formals.named
names_stay K h f (Refuses k) p w = w.1.formals.named
names_stay K h f Opens p w = w.2
names_stay K h f Leaves p w = w.2.formals.named
names_stay K h f Exits p w = w.1.formals.named
names_stay K h f (Fails why) p w = λ i. none_names p.tasks p.environment i (ap block_values w.1)

step_fits : (K : ℕ → Type 0) (h : ℕ) (f : Frame) (st : Step) → StepsWell K (formals_of f) h (length f.blocks) st → StepFits h f st
step_fits K h f (Goes p) w = tt
step_fits K h f (Does a p) w = (act_fits K h f a p w, formals_stay K h f a p w, names_stay K h f a p w)

frame_fits : (s : System) (h : ℕ) (m : World) (f : Frame) (stage : Stage) → IsSound m → h < m.count → IsFrameSound (λ j. j < m.count) h f
    → f.stage ≡ stage → FrameFits s h m f stage
frame_fits s h m f Runs sound here is e = step_fits (λ j. j < m.count) h f (moves s f.current (point_of f (m.handlers h).objects))
    (moves_sound s h f m sound here is e)
frame_fits s h m f Reserves sound here is e =
    let staged = subst (λ t. IsStageSound t f) e is.staged in (
      staged.1,
      staged.2,
      is.current,
      needs_there h (separate_formals f.environment) m
          (bound_known (λ j. j < m.count) (filter is_separate_formal f.environment) (filter_known (λ j. j < m.count) f.environment is.environment)),
    )
frame_fits s h m f ReservesBlock sound here is e = (
  is.current,
  (subst (λ t. IsStageSound t f) e is.staged).1,
  needs_there h (opened_in f.environment f.tasks) m
      (opened_known (λ j. j < m.count) f.environment f.tasks is.environment),
)
frame_fits s h m f (InCall gives) sound here is e = tt
frame_fits s h m f (Awaits k gives b) sound here is e = tt

pub stack_fits : (s : System) (h : ℕ) (m : World) → IsSound m → h < m.count → StackFits s h m (m.handlers h).stack
stack_fits s h m sound here = by (m.handlers h).stack (sound h).stack
  where
    by : (st : List Frame) → Every (IsFrameSound (λ j. j < m.count) h) st → StackFits s h m st
    by [] is = tt
    by (f ∷ below) is = frame_fits s h m f f.stage sound here is.0 refl
