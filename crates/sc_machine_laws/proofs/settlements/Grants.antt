-- In each state that is reached, what a handler's turn asks under its job is what a turn may ask.
use Rattle.std.proofs.Common.{ℕ, ◌≡◌, ◌<◌, ◌⊎◌, Bool, true, false, List, [], ◌∷◌, Option, Some, None, refl, sym, ap, subst, ◌∙◌, inl, inr}
use Rattle.std.proofs.lemmas.Bool.{eq-eqb, ltb-true}
use Rattle.std.specs.Prelude.{map, length, nat_lt, if◌then◌else◌}
use Rattle.std.specs.Option.{option_map}
use Rattle.sc_tree.specs.Plain.{System, Clause}
use Rattle.sc_rules.specs.declared.entity_types.entity_type.EntityType.{EntityType}
use Rattle.sc_lockpass.specs.wait_conditions.Reservations.{reserve_fails, may_reserve}
use Rattle.sc_lockpass.specs.declared.wait_conditions.mark.Marked.{Marked}
use Rattle.sc_lockpass.specs.declared.wait_conditions.condition.EntryVerdict.TheVariants as verdict
use Rattle.sc_model.specs.declared.cause.Cause.{Cause}
use Rattle.sc_model.specs.Environments.{separate_formals}
use Rattle.sc_model.specs.Preconditions.{verdict_on}
use Rattle.sc_model.specs.Steps.{Step, Goes, Does, Point, Refuses}
use Rattle.sc_model.specs.Moves.{moves}
use Rattle.sc_model.specs.Handlers as machine
use Rattle.sc_model.specs.Handlers.{point_of, frame_at}
use Rattle.sc_region.specs.declared.job.Job.{Job}
use Rattle.sc_region.specs.declared.job.Job.TheVariants as job
use Rattle.sc_region.specs.declared.job.Want.{Want}
use Rattle.sc_handler.specs.Handlers.{Posted, Answer, HandlerStage, Idle, Runs, HasMade, Reserves, Awaits, State, put, with_stage, standing_in}
use Rattle.sc_handler.specs.Picking.{needs, job_reserving, job_idle, job_answered, job_awaiting, job_at, job_with, job_of}
use Rattle.sc_handler.specs.Changes.{takes}
use Rattle.sc_request.specs.Settling.{made_at, begun}
use Rattle.sc_request.specs.Asked.{Numbering, request_of, handlers_of, taken_of, asks_taking, asks_moving, asks_going, asks_on}
use Rattle.sc_request.specs.Halves.{posted_of, answer_of, IsStage, IsTop, IsHalfOf}
use Rattle.sc_request.specs.Steps.{environment_after, environment_at, IsGrantedUnder}
use Rattle.sc_machine_laws.specs.states.Headline.{ReservedAreHeld, is_awaiting}
use Rattle.sc_machine_laws.proofs.states.links.Points.{Known, Every, IfSome, IsWell, StepsWell}
use Rattle.sc_machine_laws.proofs.states.links.Sound.{IsStageSound, IsFrameSound, IsRequestSound, IsSound, formals_of}
use Rattle.sc_machine_laws.proofs.states.links.RoutineSteps.{moves_well}
use Rattle.sc_machine_laws.specs.settlements.Reached.{RemembersEntry}
use Rattle.sc_machine_laws.proofs.settlements.Fine.{IsFine, HoldsReserved, errand_fine, acts_fine}

-- ---- the topmost frame runs

well_now : (h : ℕ) (f : machine.Frame) (w : machine.World) → IsSound w → IsFrameSound (λ j. j < w.count) h f → f.stage ≡ machine.Runs →
    IsWell (λ j. j < w.count) (formals_of f) (length f.blocks) (point_of f (w.handlers h).objects)
well_now h f w sound is runs = record {
  objects = (sound h).objects;
  environment = is.environment;
  result = is.result;
  olds = is.olds;
  values = is.values;
  tasks = is.tasks;
  left = subst (λ st. IsStageSound st f) runs is.staged;
  formals = is.formals;
}

pub moves_so : (s : System) (h : ℕ) (f : machine.Frame) (w : machine.World) → IsSound w → h < w.count → IsFrameSound (λ j. j < w.count) h f → f.stage ≡ machine.Runs →
    StepsWell (λ j. j < w.count) (formals_of f) h (length f.blocks) (moves s f.current (point_of f (w.handlers h).objects))
moves_so s h f w sound here is runs =
    subst (λ i. StepsWell (λ j. j < w.count) (formals_of f) i (length f.blocks) (moves s f.current (point_of f (w.handlers h).objects))) is.current
    (moves_well (λ j. j < w.count) (formals_of f) s f.current (subst (λ i. i < w.count) (sym is.current) here) (length f.blocks)
    (point_of f (w.handlers h).objects) (well_now h f w sound is runs))

-- its silent steps and the visible one
step_fine : (n : Numbering) (s : System) (h : ℕ) (step : Step) (f : machine.Frame) (depth : ℕ) (t : State) (entry : List ℕ) (m : ℕ) → t.count ≡ m →
    HoldsReserved h f t → StepsWell (λ j. j < m) (formals_of f) h (length f.blocks) step →
    ((k : Clause) (p : Point) → step ≡ Does (Refuses k) p → verdict_on (frame_at f p) k ≡ verdict.Wait → entry ≡ handlers_of (separate_formals f.environment)) →
    IsFine h t (environment_after step) entry (asks_moving n s h step f depth)
step_fine n s h (Goes p) f depth t entry m same holds well last = (refl, tt)
step_fine n s h (Does a p) f depth t entry m same holds well last =
    acts_fine n s h a f p depth t entry m same holds well (λ k is waits. last k p (ap (λ b. Does b p) is) waits)

-- a state of the machine that is reached, where the handler is there
pub record Stands (s : System) (h : ℕ) (w : machine.World) (c : State) : Type 0 where
  pub is_one : h < w.count
  pub sound : IsSound w
  pub held : ReservedAreHeld w
  pub lives : (w.handlers h).failure ≡ None
  pub remembers : RemembersEntry s h w c

-- under this job the turn asks what a turn may ask
abbrev Grants : Numbering → System → ℕ → machine.World → State → Option Job → Type 0
Grants n s h w c j = IsGrantedUnder n s h w j c

-- the frame's move, in a state of the core with the same rights and entry
runs_fine : (n : Numbering) (s : System) (h : ℕ) (w : machine.World) (c t : State) (f : machine.Frame) (below : List machine.Frame) → Stands s h w c →
    t.count ≡ w.count → t.rights ≡ w.rights → (t.handlers h).entry ≡ (c.handlers h).entry → (w.handlers h).stack ≡ f ∷ below → f.stage ≡ machine.Runs →
    IsFine h t (environment_at s (w.handlers h).stack (w.handlers h).objects) (t.handlers h).entry (asks_on n s h (w.handlers h).stack (w.handlers h).objects)
runs_fine n s h w c t f below z count rights entry stack runs =
    let x = w.handlers h in
    let step = moves s f.current (point_of f x.objects) in
    let frames = subst (Every (IsFrameSound (λ j. j < w.count) h)) stack (z.sound h).stack in
    let holds : HoldsReserved h f t =
    λ k ks i j. ap (λ r. r.queue k) rights ∙ z.held h k f below ks z.lives stack (subst (λ st. is_awaiting st ≡ false) (sym runs) refl) i j in
    let fine = step_fine n s h step f (length (f ∷ below)) t (t.handlers h).entry w.count count holds (moves_so s h f w z.sound z.is_one frames.0 runs)
    (λ k p is waits. entry ∙ z.remembers f below k p stack runs is waits) in
    subst (λ (fs : List machine.Frame). IsFine h t (environment_at s fs x.objects) (t.handlers h).entry (asks_on n s h fs x.objects)) (sym stack)
    (subst (λ (st : machine.Stage). IsFine h t (environment_after step) (t.handlers h).entry (asks_going n s h st f (length (f ∷ below)) x.objects)) (sym runs) fine)

turn_runs : (n : Numbering) (s : System) (h : ℕ) (w : machine.World) (c : State) (f : machine.Frame) (below : List machine.Frame) → Stands s h w c →
    IsHalfOf n w c → (w.handlers h).stack ≡ f ∷ below → f.stage ≡ machine.Runs →
    ((c.handlers h).stage ≡ Runs) ⊎ ((k : ℕ) × ((c.handlers h).stage ≡ HasMade k)) →
    Grants n s h w c (job_at h (c.handlers h).stage (c.handlers h) c)
turn_runs n s h w c f below z e stack runs (inl goes) =
    subst (λ (t : HandlerStage). Grants n s h w c (job_at h t (c.handlers h) c)) (sym goes) (runs_fine n s h w c c f below z e.count e.rights refl stack runs)
turn_runs n s h w c f below z e stack runs (inr (k, made)) =
    let x = w.handlers h in
    subst (λ (t : HandlerStage). Grants n s h w c (job_at h t (c.handlers h) c)) (sym made)
    (subst
    (λ (t : HandlerStage). IsFine h (made_at h t c) (environment_at s x.stack x.objects) ((made_at h t c).handlers h).entry (asks_on n s h x.stack x.objects))
    (sym made) (runs_fine n s h w c (with_stage h Runs c) f below z e.count e.rights (rw (eq-eqb h h refl) refl) stack runs))

-- ---- the other stages

-- a turn that asks nothing, or fails
reserves_fine : (n : Numbering) (s : System) (h : ℕ) (w : machine.World) (c : State) (lost may : Bool) (ks : List ℕ) → Grants n s h w c (job_reserving lost may ks)
reserves_fine n s h w c true may ks = (refl, tt)
reserves_fine n s h w c false true ks = (refl, tt)
reserves_fine n s h w c false false ks = tt

turn_reserves : (n : Numbering) (s : System) (h : ℕ) (w : machine.World) (c : State) (ks : List ℕ) (mark : List Marked) → (c.handlers h).stage ≡ Reserves ks mark →
    Grants n s h w c (job_at h (c.handlers h).stage (c.handlers h) c)
turn_reserves n s h w c ks mark is =
    let needed = needs h ks c.rights in
    subst (λ (t : HandlerStage). Grants n s h w c (job_at h t (c.handlers h) c)) (sym is)
    (reserves_fine n s h w c (reserve_fails (standing_in c) c.rights needed) (may_reserve (standing_in c) c.rights needed mark) needed)

-- what is asked, where the topmost frame is at this stage
asks_fine : (n : Numbering) (s : System) (h : ℕ) (w : machine.World) (t : State) (entry : List ℕ) (f : machine.Frame) (below : List machine.Frame) (stage : machine.Stage) →
    (w.handlers h).stack ≡ f ∷ below → f.stage ≡ stage →
    IsFine h t (environment_at s (w.handlers h).stack (w.handlers h).objects) entry (asks_going n s h stage f (length (f ∷ below)) (w.handlers h).objects) →
    IsFine h t (environment_at s (w.handlers h).stack (w.handlers h).objects) entry (asks_on n s h (w.handlers h).stack (w.handlers h).objects)
asks_fine n s h w t entry f below stage stack is fine =
    let x = w.handlers h in
    subst (λ (a : Want). IsFine h t (environment_at s x.stack x.objects) entry a)
    (sym (ap (λ (fs : List machine.Frame). asks_on n s h fs x.objects) stack
    ∙ ap (λ (st : machine.Stage). asks_going n s h st f (length (f ∷ below)) x.objects) is))
    fine

-- the request is taken
takes_fine : (n : Numbering) (s : System) (h : ℕ) (w : machine.World) (c : State) (r : machine.Request) → IsHalfOf n w c →
    Every (Known (λ j. j < w.count)) r.actuals →
    taken_of (w.handlers h).stack (w.handlers h).queue (w.handlers h).callback ≡ Some r → Grants n s h w c (Some (job.Take (request_of n r)))
takes_fine n s h w c r e known taken =
    let x = w.handlers h in
    let t = put h (takes (c.handlers h).stage (c.handlers h)) c in
    subst
    (λ (o : Option machine.Request). IsFine h t (environment_at s x.stack x.objects) (t.handlers h).entry (asks_taking s h (length x.stack) x.objects o))
    (sym taken) (errand_fine h t (environment_at s x.stack x.objects) (t.handlers h).entry w.count e.count s r r.errand (length x.stack) x.objects known)

idle_fine : (n : Numbering) (s : System) (h : ℕ) (w : machine.World) (c : State) (queue : List machine.Request) → IsHalfOf n w c → IsSound w →
    (w.handlers h).stack ≡ [] → (w.handlers h).queue ≡ queue → Grants n s h w c (job_idle (map (posted_of n) queue))
idle_fine n s h w c [] e sound stack queued = tt
idle_fine n s h w c (r ∷ rs) e sound stack queued =
    let x = w.handlers h in
    takes_fine n s h w c r e (subst (Every (IsRequestSound (λ j. j < w.count) h)) queued (sound h).queue).0.actuals
    (ap (λ (fs : List machine.Frame). taken_of fs x.queue x.callback) stack ∙ ap (λ (q : List machine.Request). taken_of [] q x.callback) queued)

turn_idle : (n : Numbering) (s : System) (h : ℕ) (w : machine.World) (c : State) → IsHalfOf n w c → IsSound w → (w.handlers h).stack ≡ [] →
    (c.handlers h).stage ≡ Idle → Grants n s h w c (job_at h (c.handlers h).stage (c.handlers h) c)
turn_idle n s h w c e sound stack idle =
    subst (λ (t : HandlerStage). Grants n s h w c (job_at h t (c.handlers h) c)) (sym idle)
    (subst (λ (q : List Posted). Grants n s h w c (job_idle q)) (sym (e.handlers h).queue) (idle_fine n s h w c (w.handlers h).queue e sound stack refl))

answers_fine : (n : Numbering) (s : System) (h k : ℕ) (gives : Option EntityType) (is_creation : Bool) (a : machine.Answer) (w : machine.World) (c : State)
    (f : machine.Frame) (below : List machine.Frame) → (w.handlers h).stack ≡ f ∷ below → f.stage ≡ machine.Awaits k gives is_creation →
    Grants n s h w c (Some (job_answered k is_creation (answer_of a)))
answers_fine n s h k gives true (machine.Reply v) w c f below stack is =
    let t = begun h (job.Made k) c in
    asks_fine n s h w t (t.handlers h).entry f below (machine.Awaits k gives true) stack is (refl, tt)
answers_fine n s h k gives false (machine.Reply v) w c f below stack is = (refl, tt)
answers_fine n s h k gives true machine.Failed w c f below stack is = (refl, tt)
answers_fine n s h k gives false machine.Failed w c f below stack is = (refl, tt)
answers_fine n s h k gives true machine.Refused w c f below stack is = (refl, tt)
answers_fine n s h k gives false machine.Refused w c f below stack is = (refl, tt)

waits_fine : (n : Numbering) (s : System) (h k : ℕ) (gives : Option EntityType) (is_creation : Bool) (callback : Option machine.Request) (a : Option machine.Answer)
    (w : machine.World) (c : State) (f : machine.Frame) (below : List machine.Frame) → IsHalfOf n w c → IsSound w → (w.handlers h).stack ≡ f ∷ below →
    f.stage ≡ machine.Awaits k gives is_creation → (w.handlers h).callback ≡ callback →
    Grants n s h w c (job_awaiting k is_creation (option_map (posted_of n) callback) (option_map answer_of a))
waits_fine n s h k gives is_creation (Some r) a w c f below e sound stack is called =
    let x = w.handlers h in
    takes_fine n s h w c r e (subst (IfSome (IsRequestSound (λ j. j < w.count) h)) called (sound h).callback).actuals
    (ap (λ (fs : List machine.Frame). taken_of fs x.queue x.callback) stack ∙ called)
waits_fine n s h k gives is_creation None (Some a) w c f below e sound stack is called = answers_fine n s h k gives is_creation a w c f below stack is
waits_fine n s h k gives is_creation None None w c f below e sound stack is called = tt

turn_waits : (n : Numbering) (s : System) (h k : ℕ) (gives : Option EntityType) (is_creation : Bool) (w : machine.World) (c : State) (f : machine.Frame)
    (below : List machine.Frame) → IsHalfOf n w c → IsSound w → (w.handlers h).stack ≡ f ∷ below → f.stage ≡ machine.Awaits k gives is_creation →
    (c.handlers h).stage ≡ Awaits k is_creation → Grants n s h w c (job_at h (c.handlers h).stage (c.handlers h) c)
turn_waits n s h k gives is_creation w c f below e sound stack is awaits =
    let x = w.handlers h in
    let y = c.handlers h in
    subst (λ (t : HandlerStage). Grants n s h w c (job_at h t y c)) (sym awaits)
    (subst (λ (p : Option Posted). Grants n s h w c (job_awaiting k is_creation p y.answer)) (sym (e.handlers h).callback)
    (subst (λ (a : Option Answer). Grants n s h w c (job_awaiting k is_creation (option_map (posted_of n) x.callback) a)) (sym (e.handlers h).answer)
    (waits_fine n s h k gives is_creation x.callback x.answer w c f below e sound stack is refl)))

-- ---- a handler

turn_in_call : (n : Numbering) (s : System) (h : ℕ) (gives : Option EntityType) (w : machine.World) (c : State) (f : machine.Frame) (below : List machine.Frame) →
    (w.handlers h).stack ≡ f ∷ below → f.stage ≡ machine.InCall gives → (c.handlers h).stage ≡ Runs → Grants n s h w c (job_at h (c.handlers h).stage (c.handlers h) c)
turn_in_call n s h gives w c f below stack is runs =
    subst (λ (t : HandlerStage). Grants n s h w c (job_at h t (c.handlers h) c)) (sym runs)
    (asks_fine n s h w c (c.handlers h).entry f below (machine.InCall gives) stack is (refl, tt))

turn_goes : (n : Numbering) (s : System) (h : ℕ) (stage : machine.Stage) (w : machine.World) (c : State) (f : machine.Frame) (below : List machine.Frame) →
    Stands s h w c → IsHalfOf n w c → (w.handlers h).stack ≡ f ∷ below → f.stage ≡ stage → IsStage stage f (c.handlers h).stage →
    Grants n s h w c (job_at h (c.handlers h).stage (c.handlers h) c)
turn_goes n s h machine.Runs w c f below z e stack is at = turn_runs n s h w c f below z e stack is at
turn_goes n s h machine.Reserves w c f below z e stack is at = turn_reserves n s h w c _ _ at
turn_goes n s h machine.ReservesBlock w c f below z e stack is at = turn_reserves n s h w c _ _ at
turn_goes n s h (machine.InCall gives) w c f below z e stack is at = turn_in_call n s h gives w c f below stack is at
turn_goes n s h (machine.Awaits k gives is_creation) w c f below z e stack is at = turn_waits n s h k gives is_creation w c f below e z.sound stack is at

at_stack : (n : Numbering) (s : System) (h : ℕ) (stack : List machine.Frame) (w : machine.World) (c : State) → Stands s h w c → IsHalfOf n w c →
    (w.handlers h).stack ≡ stack → IsTop stack (c.handlers h).stage → Grants n s h w c (job_at h (c.handlers h).stage (c.handlers h) c)
at_stack n s h [] w c z e is top = turn_idle n s h w c e z.sound is top
at_stack n s h (f ∷ below) w c z e is top = turn_goes n s h f.stage w c f below z e is refl top

living : (n : Numbering) (s : System) (h : ℕ) (why : Option Cause) (w : machine.World) (c : State) → h < w.count → IsSound w → ReservedAreHeld w →
    RemembersEntry s h w c → IsHalfOf n w c → (w.handlers h).failure ≡ why → Grants n s h w c (job_with h why (c.handlers h) c)
living n s h (Some why) w c one sound held remembers e is = tt
living n s h None w c one sound held remembers e is =
    at_stack n s h (w.handlers h).stack w c (record { is_one = one; sound = sound; held = held; lives = is; remembers = remembers }) e refl (e.handlers h).stage

numbered : (n : Numbering) (s : System) (h : ℕ) (b : Bool) (w : machine.World) (c : State) → nat_lt h w.count ≡ b → IsSound w → ReservedAreHeld w →
    RemembersEntry s h w c → IsHalfOf n w c → Grants n s h w c (if b then job_with h (c.handlers h).failure (c.handlers h) c else None)
numbered n s h false w c is sound held remembers e = tt
numbered n s h true w c is sound held remembers e =
    subst (λ (why : Option Cause). Grants n s h w c (job_with h why (c.handlers h) c)) (sym (e.handlers h).failure)
    (living n s h (w.handlers h).failure w c (ltb-true h w.count is) sound held remembers e refl)

pub granted : (n : Numbering) (s : System) (h : ℕ) (w : machine.World) (c : State) → IsSound w → ReservedAreHeld w → RemembersEntry s h w c → IsHalfOf n w c →
    IsGrantedUnder n s h w (job_of h c) c
granted n s h w c sound held remembers e =
    subst (λ (m : ℕ). Grants n s h w c (if nat_lt h m then job_with h (c.handlers h).failure (c.handlers h) c else None)) (sym e.count)
    (numbered n s h (nat_lt h w.count) w c refl sound held remembers e)
