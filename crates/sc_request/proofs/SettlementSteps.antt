-- The law of settlements: whatever the turn comes to, the core stays the half of the machine.
use Rattle.std.proofs.Common.{ℕ, ◌≡◌, ◌==◌, ◌⊎◌, Bool, true, false, List, ◌∷◌, ◌++◌, Option, refl, sym, ap, subst, ◌∙◌, inl, inr}
use Rattle.std.proofs.lemmas.Bool.{eq-eqb, eqb-true}
use Rattle.std.specs.Prelude.{length, if◌then◌else◌}
use Rattle.sc_tree.specs.Plain.{System}
use Rattle.sc_model.specs.Values.{values_of}
use Rattle.sc_model.specs.Objects.{Object}
use Rattle.sc_model.specs.Routines.{routine_named}
use Rattle.sc_model.specs.Steps.{Act, Prints, Until, Creates, CreatesHandler, Enters, Requests, Starts, Refuses, Opens, Leaves, Exits, Fails, Step, Goes, Does}
use Rattle.sc_model.specs.Moves.{moves}
use Rattle.sc_model.specs.Preconditions.{verdict_on}
use Rattle.sc_model.specs.Turns as turns
use Rattle.sc_model.specs.Turns.{effect, turn}
use Rattle.sc_model.specs.Handlers as machine
use Rattle.sc_model.specs.Handlers.{point_of, frame_at}
use Rattle.sc_region.specs.declared.job.Job.{Job}
use Rattle.sc_region.specs.declared.job.Job.TheVariants as job
use Rattle.sc_region.specs.declared.job.Want.{Want}
use Rattle.sc_handler.specs.Handlers.{HandlerStage, Runs, HasMade, Handler, State, put, with_stage}
use Rattle.sc_handler.specs.Picking.{job_at}
use Rattle.sc_handler.specs.Fits.{fits_turns}
use Rattle.sc_request.specs.Settling.{made_at, may_ask, asked_in}
use Rattle.sc_request.specs.Asked.{Numbering, asks_acting, asks_moving, asks_going, asks_on}
use Rattle.sc_request.specs.Halves.{IsStage, IsTop, IsHandlerOf, IsHalfOf}
use Rattle.sc_request.specs.Steps.{environment_after, environment_at, IsLastEntry, IsCalledFrom, IsGranted, IsGrantedUnder, stepped}
use Rattle.sc_request.proofs.Kept.{fail_alike}
use Rattle.sc_request.proofs.Sent.{put_left}
use Rattle.sc_request.proofs.VisibleSteps.{IsRunning, restacked, running, print_alike, leaves_alike, opens_alike, enters_alike}
use Rattle.sc_request.proofs.Exits.{exits_alike, false_alike}
use Rattle.sc_request.proofs.Requests.{requests_alike, creates_alike}

-- ---- visible steps

acts : (n : Numbering) (sys : System) (h most : ℕ) (a : Act) (w : machine.World) (s : State) (f : machine.Frame) (below : List machine.Frame) →
    (h ≡ w.count → ⊥) → IsHalfOf n w s → IsRunning n f below (s.handlers h) → IsCalledFrom f.origin below → f.stage ≡ machine.Runs →
    IsLastEntry (asks_acting n sys h a f (length (f ∷ below)) (w.handlers h).objects) f.environment (s.handlers h).entry →
    may_ask h (asks_acting n sys h a f (length (f ∷ below)) (w.handlers h).objects) s ≡ true →
    IsHalfOf n (effect most sys h a f below w) (asked_in true most h (asks_acting n sys h a f (length (f ∷ below)) (w.handlers h).objects) s)
acts n sys h most (Prints text) w s f below apart e runs stands is entry may = print_alike n h w s ((w.handlers h).output ++ text) e
acts n sys h most Until w s f below apart e runs stands is entry may = e
acts n sys h most Creates w s f below apart e runs stands is entry may = e
acts n sys h most Starts w s f below apart e runs stands is entry may = e
acts n sys h most (CreatesHandler class procedure us t passing) w s f below apart e runs stands is entry may =
    creates_alike n h most class procedure us t passing w s f below apart e runs is
acts n sys h most (Enters c me x us gives) w s f below apart e runs stands is entry may =
    enters_alike n sys h most w s me (routine_named sys me.class x) c (values_of us) f gives below e runs may
acts n sys h most (Requests r x us gives passing) w s f below apart e runs stands is entry may =
    requests_alike n h most r x us gives passing w s f below e runs is may
acts n sys h most (Refuses k) w s f below apart e runs stands is entry may = false_alike n sys (verdict_on f k) h most w s f below e runs entry may
acts n sys h most Opens w s f below apart e runs stands is entry may = opens_alike n h most w s f below e runs may
acts n sys h most Leaves w s f below apart e runs stands is entry may = leaves_alike n h most w s f below f.blocks e runs is may
acts n sys h most Exits w s f below apart e runs stands is entry may = exits_alike n sys h most w s f below e runs stands may
acts n sys h most (Fails why) w s f below apart e runs stands is entry may = fail_alike n h why w s e

-- the silent steps and the visible one
moves_on : (n : Numbering) (sys : System) (h most : ℕ) (step : Step) (w : machine.World) (s : State) (f : machine.Frame) (below : List machine.Frame) →
    (h ≡ w.count → ⊥) → IsHalfOf n w s → IsRunning n f below (s.handlers h) → IsCalledFrom f.origin below → f.stage ≡ machine.Runs →
    IsLastEntry (asks_moving n sys h step f (length (f ∷ below))) (environment_after step) (s.handlers h).entry →
    may_ask h (asks_moving n sys h step f (length (f ∷ below))) s ≡ true →
    IsHalfOf n (turns.settles most sys h step f below w) (asked_in true most h (asks_moving n sys h step f (length (f ∷ below))) s)
moves_on n sys h most (Goes p) w s f below apart e runs stands is entry may = e
moves_on n sys h most (Does a p) w s f below apart e runs stands is entry may =
    let g : machine.Frame = frame_at f p in
    let x : machine.Handler = record (w.handlers h) { objects = p.objects; stack = g ∷ below } in
    let w' : machine.World = machine.put h x w in
    let runs' : IsRunning n g below (s.handlers h) = record { runs = runs.runs; services = runs.services } in
    let top : IsTop (g ∷ below) (s.handlers h).stage = subst (λ (st : machine.Stage). IsStage st g (s.handlers h).stage) (sym is) runs.runs in
    let moved : IsHandlerOf n (record (w.handlers h) { stack = g ∷ below }) (s.handlers h) =
    restacked n (w.handlers h) (s.handlers h) (g ∷ below) (e.handlers h) top runs.services in
    let e' : IsHalfOf n w' s = put_left n w s h x e (objects_left n _ (s.handlers h) p.objects moved) in
    let same : (w'.handlers h).objects ≡ p.objects = rw (eq-eqb h h refl) refl in
    subst
    (λ (objects : List Object). IsLastEntry (asks_acting n sys h a g (length (g ∷ below)) objects) g.environment (s.handlers h).entry →
    may_ask h (asks_acting n sys h a g (length (g ∷ below)) objects) s ≡ true →
    IsHalfOf n (effect most sys h a g below w') (asked_in true most h (asks_acting n sys h a g (length (g ∷ below)) objects) s))
    same (acts n sys h most a w' s g below apart e' runs' stands is) entry may
  where
    objects_left : (n : Numbering) (x : machine.Handler) (y : Handler) (objects : List Object) → IsHandlerOf n x y → IsHandlerOf n (record x { objects = objects }) y
    objects_left n x y objects e = record {
      stage = e.stage;
      services = e.services;
      queue = e.queue;
      callback = e.callback;
      answer = e.answer;
      failure = e.failure;
      sessions = e.sessions;
      refused = e.refused;
    }

-- ---- a turn under a job

-- under this job the turn comes to this
abbrev pub Comes : ℕ → Numbering → System → ℕ → machine.World → State → Option Job → machine.World → Type 0
Comes most n sys h w s j w' = IsGrantedUnder n sys h w j s → IsHalfOf n w' (stepped most n sys h w j s)

-- what the turn asks, under the topmost frame
pub asks_at : (n : Numbering) (sys : System) (h : ℕ) (x : machine.Handler) (f : machine.Frame) (below : List machine.Frame) (stage : machine.Stage) →
    x.stack ≡ f ∷ below → f.stage ≡ stage → asks_on n sys h x.stack x.objects ≡ asks_going n sys h stage f (length (f ∷ below)) x.objects
asks_at n sys h x f below stage stack is =
    ap (λ (fs : List machine.Frame). asks_on n sys h fs x.objects) stack
    ∙ ap (λ (st : machine.Stage). asks_going n sys h st f (length (f ∷ below)) x.objects) is

-- what it asks comes to this, where the core has begun the job
abbrev pub ComesOf : ℕ → Numbering → System → ℕ → machine.World → State → Bool → machine.World → Want → Type 0
ComesOf most n sys h w s fits w' asks = IsGranted sys asks h w s → IsHalfOf n w' (asked_in fits most h asks s)

runs_on : (n : Numbering) (sys : System) (h most : ℕ) (w : machine.World) (s : State) (f : machine.Frame) (below : List machine.Frame) →
    (h ≡ w.count → ⊥) → IsHalfOf n w s → (w.handlers h).stack ≡ f ∷ below → f.stage ≡ machine.Runs → IsCalledFrom f.origin below →
    ComesOf most n sys h w s true (turns.settles most sys h (moves sys f.current (point_of f (w.handlers h).objects)) f below w)
    (asks_on n sys h (w.handlers h).stack (w.handlers h).objects)
runs_on n sys h most w s f below apart e stack is stands =
    let x = w.handlers h in
    let step = moves sys f.current (point_of f x.objects) in
    let w' = turns.settles most sys h step f below w in
    let runs = running n x (s.handlers h) f below (e.handlers h) stack is in
    subst (ComesOf most n sys h w s true w') (sym (asks_at n sys h x f below machine.Runs stack is))
    (λ granted.
    let entry = subst (λ (fs : List machine.Frame). IsLastEntry (asks_moving n sys h step f (length (f ∷ below))) (environment_at sys fs x.objects) (s.handlers h).entry)
    stack granted.1 in
    moves_on n sys h most step w s f below apart e runs stands is entry granted.0)

-- ---- the core tells that a handler was made

right_by : (n : Numbering) (b : Bool) (x : machine.Handler) (y y' : Handler) → (b ≡ true → IsHandlerOf n x y) → IsHandlerOf n x y' → IsHandlerOf n x (if b then y else y')
right_by n true x y y' e f = e refl
right_by n false x y y' e f = f

-- a change that the machine doesn't see
put_right : (n : Numbering) (w : machine.World) (s : State) (h : ℕ) (y : Handler) → IsHalfOf n w s → IsHandlerOf n (w.handlers h) y → IsHalfOf n w (put h y s)
put_right n w s h y e f = record {
  count = e.count;
  rights = e.rights;
  handlers = λ k. right_by n (k == h) (w.handlers k) y (s.handlers k)
      (λ same. subst (λ (j : ℕ). IsHandlerOf n (w.handlers j) y) (sym (eqb-true k h same)) f) (e.handlers k);
}

goes_alike : (n : Numbering) (w : machine.World) (s : State) (h : ℕ) (f : machine.Frame) (below : List machine.Frame) → IsHalfOf n w s →
    (w.handlers h).stack ≡ f ∷ below → f.stage ≡ machine.Runs → IsHalfOf n w (with_stage h Runs s)
goes_alike n w s h f below e stack is =
    let x = w.handlers h in
    let f' : IsTop (f ∷ below) Runs = subst (λ (st : machine.Stage). IsStage st f Runs) (sym is) (inl refl) in
    put_right n w s h _ e (restaged n x (s.handlers h) Runs (e.handlers h) (subst (λ (fs : List machine.Frame). IsTop fs Runs) (sym stack) f'))
  where
    restaged : (n : Numbering) (x : machine.Handler) (y : Handler) (t : HandlerStage) → IsHandlerOf n x y → IsTop x.stack t → IsHandlerOf n x (record y { stage = t })
    restaged n x y t e top = record {
      stage = top;
      services = e.services;
      queue = e.queue;
      callback = e.callback;
      answer = e.answer;
      failure = e.failure;
      sessions = e.sessions;
      refused = e.refused;
    }

pub turn_runs : (n : Numbering) (sys : System) (h most : ℕ) (w : machine.World) (s : State) (f : machine.Frame) (below : List machine.Frame) →
    (h ≡ w.count → ⊥) → IsHalfOf n w s → (w.handlers h).stack ≡ f ∷ below → f.stage ≡ machine.Runs → IsCalledFrom f.origin below →
    ((s.handlers h).stage ≡ Runs) ⊎ ((k : ℕ) × ((s.handlers h).stage ≡ HasMade k)) →
    Comes most n sys h w s (job_at h (s.handlers h).stage (s.handlers h) s)
    (turns.settles most sys h (moves sys f.current (point_of f (w.handlers h).objects)) f below w)
turn_runs n sys h most w s f below apart e stack is stands (inl goes) =
    let w' = turns.settles most sys h (moves sys f.current (point_of f (w.handlers h).objects)) f below w in
    subst (λ (t : HandlerStage). Comes most n sys h w s (job_at h t (s.handlers h) s) w') (sym goes) (runs_on n sys h most w s f below apart e stack is stands)
turn_runs n sys h most w s f below apart e stack is stands (inr (k, made)) =
    let w' = turns.settles most sys h (moves sys f.current (point_of f (w.handlers h).objects)) f below w in
    let asks = asks_on n sys h (w.handlers h).stack (w.handlers h).objects in
    subst (λ (t : HandlerStage). Comes most n sys h w s (job_at h t (s.handlers h) s) w') (sym made)
    (subst (λ (t : HandlerStage). ComesOf most n sys h w (made_at h t s) (fits_turns 1 t (job.Made k) asks) w' asks) (sym made)
    (runs_on n sys h most w (with_stage h Runs s) f below apart (goes_alike n w s h f below e stack is) stack is stands))
