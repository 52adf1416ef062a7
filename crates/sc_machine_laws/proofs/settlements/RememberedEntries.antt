-- Along a run each entry that waits is the one that its handler reserved for last.
use Rattle.std.proofs.Common.{ℕ, ◌≡◌, ◌⊎◌, ◌<◌, ◌==◌, Bool, true, false, List, [], ◌∷◌, Option, Some, None, Contains, refl, sym, ap, subst, ◌∙◌, inl, inr, arith}
use Rattle.std.proofs.lemmas.Bool.{eqb-true, ltb-true}
use Rattle.std.specs.Prelude.{if◌then◌else◌, nat_lt}
use Rattle.std.specs.Option.{option_map_or}
use Rattle.sc_tree.specs.Plain.{System}
use Rattle.sc_class.specs.ClassNames.{Root, number_of}
use Rattle.sc_class.specs.Faults.ClassRules.{IsFaultless}
use Rattle.sc_rules.specs.SystemRules.{WellFormed}
use Rattle.sc_lockpass.specs.wait_conditions.Conditions.{clause_kind, verdict_of_false}
use Rattle.sc_lockpass.specs.declared.wait_conditions.condition.EntryVerdict.TheVariants as verdict
use Rattle.sc_lockpass.specs.declared.wait_conditions.mark.Marked.{Marked}
use Rattle.sc_model.specs.Environments.{separate_formals}
use Rattle.sc_model.specs.Preconditions.{names_in, formals_among}
use Rattle.sc_model.specs.Tasks.{Task, Do, Leave, Require, Required}
use Rattle.sc_model.specs.Steps.{Step}
use Rattle.sc_model.specs.Handlers as machine
use Rattle.sc_model.specs.Handlers.{point_of}
use Rattle.sc_model.specs.Turns.{turn}
use Rattle.sc_model.specs.Runs as runs
use Rattle.sc_model.specs.Runs.{IsReached, root_request, run}
use Rattle.sc_region.specs.declared.job.Job.{Job}
use Rattle.sc_handler.specs.Handlers.{posted, Idle, Reserves, Service, Handler, State, new_handler, has_frames}
use Rattle.sc_handler.specs.Picking.{job_with, job_of}
use Rattle.sc_request.specs.Asked.{Numbering, request_of, asked, handlers_of}
use Rattle.sc_request.specs.Halves.{IsStage, IsTop, IsHalfOf}
use Rattle.sc_request.specs.Steps.{stepped}
use Rattle.sc_request.proofs.Opening.{opens}
use Rattle.sc_machine_laws.proofs.states.links.Points.{Every, IsCalm, IsOpened, IsPhased, is_require}
use Rattle.sc_machine_laws.proofs.states.links.Sound.{IsStageSound, IsFrameSound}
use Rattle.sc_machine_laws.proofs.states.links.Reached.{reached_linked}
use Rattle.sc_machine_laws.specs.settlements.Entries.{is_clause, HasStarted, RefusesNone, KeepsEntry, is_reserving, EntryStays}
use Rattle.sc_machine_laws.specs.settlements.Started.{reserves_next, AllStarted, EachOnStarted}
use Rattle.sc_machine_laws.specs.settlements.Reached.{RemembersEntry, opened, run_beside, RemembersAlong, EntriesAreRemembered, RunsAsHalf}
use Rattle.sc_machine_laws.proofs.settlements.CalmSteps.{moves_calm}
use Rattle.sc_machine_laws.proofs.settlements.KeptEntries.{entries_stay}
use Rattle.sc_machine_laws.proofs.settlements.Guards.{reservers_on_started}
use Rattle.sc_machine_laws.proofs.settlements.FrameLinks.{one_further}
use Rattle.sc_machine_laws.proofs.settlements.GuardedSteps.{no_wait}
use Rattle.sc_machine_laws.proofs.settlements.ReachedStates.{reached_halves}
use Rattle.sc_machine_laws.proofs.settlements.UnchangedStacks.{Recalls, AllRecall, IsLeft}
use Rattle.sc_machine_laws.proofs.settlements.RecalledEntries.{Turned, turn_turned}

no : {A : Type 0} → false ≡ true → A
no e = cc

-- each handler of the core keeps its entry, and each frame of the machine's recalls it
abbrev Remember : machine.World → State → Type 0
Remember w c = (k : ℕ) → KeepsEntry (c.handlers k) × AllRecall (c.handlers k).entry (w.handlers k).stack

-- ---- an entry that waits

remembers : (s : System) (h : ℕ) (w : machine.World) (c : State) → Remember w c → RemembersEntry s h w c
remembers s h w c r f below k p stack goes is waits = by (subst (AllRecall (c.handlers h).entry) stack (r h).1).0
  where
    by : Recalls (c.handlers h).entry f → (c.handlers h).entry ≡ handlers_of (separate_formals f.environment)
    by (inl started) = absurd (subst (λ (st : Step). RefusesNone st) is (moves_calm s f.current (point_of f (w.handlers h).objects) started))
    by (inr (inl none)) =
        let xs = formals_among p.environment (names_in k.condition) in
        absurd (no_wait xs (subst (λ (ks : List ℕ). verdict_of_false (clause_kind ks xs) ≡ verdict.Wait) none waits))
    by (inr (inr same)) = same

-- a routine that is about to reserve is about to reserve the entry
at_entry : (n : Numbering) (w : machine.World) (c : State) → IsHalfOf n w c → Remember w c → (h : ℕ) (f : machine.Frame) (below : List machine.Frame) →
    (w.handlers h).stack ≡ f ∷ below → f.stage ≡ machine.Reserves → (c.handlers h).entry ≡ handlers_of (separate_formals f.environment)
at_entry n w c half r h f below stack reserves =
    let top = subst (λ (fs : List machine.Frame). IsTop fs (c.handlers h).stage) stack (half.handlers h).stage in
    (r h).0.entered (handlers_of (separate_formals f.environment)) f.mark
    (subst (λ (st : machine.Stage). IsStage st f (c.handlers h).stage) reserves top)

-- ---- after a turn

all_started : (e : List ℕ) (st : List machine.Frame) → AllStarted st → AllRecall e st
all_started e [] is = tt
all_started e (f ∷ below) is = (inl is.0, all_started e below is.1)

calm_started : (ts : List Task) → IsCalm ts → HasStarted ts
calm_started [] is = tt
calm_started (t ∷ ts) is = (same t ∙ is.0, calm_started ts is.1)
  where
    same : (t : Task) → is_clause t ≡ is_require t
    same (Require ks) = refl
    same (Required k) = refl
    same t = refl

-- a routine that opens a block has started
opened_started : (K : ℕ → Type 0) (h : ℕ) (f : machine.Frame) → IsFrameSound K h f → f.stage ≡ machine.ReservesBlock → HasStarted f.tasks
opened_started K h f sound e =
    let o : IsOpened f.tasks = (subst (λ (st : machine.Stage). IsStageSound st f) e sound.staged).1 in
    let phased : IsPhased (Do o.body ∷ Leave o.depth ∷ o.rest) = subst IsPhased o.is sound.tasks in
    subst HasStarted (sym o.is) (refl, calm_started (Leave o.depth ∷ o.rest) (phased.0 refl))

module _ (K : ℕ → Type 0) (h : ℕ) (x y : Handler) (keeps : KeepsEntry x) (stays : EntryStays x y) where
  reserving : (f : machine.Frame) (below : List machine.Frame) → IsFrameSound K h f → (reserves_next f.stage ≡ true → AllStarted below) →
      is_reserving y.stage ≡ true → (st : machine.Stage) → f.stage ≡ st → IsStage st f y.stage → AllRecall y.entry (f ∷ below)
  reserving f below sound on e machine.Reserves at is =
      (inr (inr ((stays.keeps keeps).entered (handlers_of (separate_formals f.environment)) f.mark is)), all_started y.entry below (on (ap reserves_next at)))
  reserving f below sound on e machine.ReservesBlock at is = (inl (opened_started K h f sound at), all_started y.entry below (on (ap reserves_next at)))
  reserving f below sound on e machine.Runs at (inl is) = no (sym (ap is_reserving is) ∙ e)
  reserving f below sound on e machine.Runs at (inr (k, is)) = no (sym (ap is_reserving is) ∙ e)
  reserving f below sound on e (machine.InCall gives) at is = no (sym (ap is_reserving is) ∙ e)
  reserving f below sound on e (machine.Awaits k gives c) at is = no (sym (ap is_reserving is) ∙ e)

  idle : (f : machine.Frame) → y.stage ≡ Idle → (st : machine.Stage) → IsStage st f y.stage → ⊥
  idle f e machine.Reserves is = no (ap has_frames (sym e ∙ is))
  idle f e machine.ReservesBlock is = no (ap has_frames (sym e ∙ is))
  idle f e machine.Runs (inl is) = no (ap has_frames (sym e ∙ is))
  idle f e machine.Runs (inr (k, is)) = no (ap has_frames (sym e ∙ is))
  idle f e (machine.InCall gives) is = no (ap has_frames (sym e ∙ is))
  idle f e (machine.Awaits k gives c) is = no (ap has_frames (sym e ∙ is))

  -- who recalls the entry that was, recalls the one that is
  recalls_next : (st : List machine.Frame) → IsTop st y.stage → Every (IsFrameSound K h) st →
      ((f : machine.Frame) (below : List machine.Frame) → st ≡ f ∷ below → reserves_next f.stage ≡ true → AllStarted below) →
      AllRecall x.entry st → AllRecall y.entry st
  recalls_next [] top sound on is = tt
  recalls_next (f ∷ below) top sound on is = by stays.stays
    where
      by : (y.entry ≡ x.entry) ⊎ ((is_reserving y.stage ≡ true) ⊎ (y.stage ≡ Idle)) → AllRecall y.entry (f ∷ below)
      by (inl same) = subst (λ (e : List ℕ). AllRecall e (f ∷ below)) (sym same) is
      by (inr (inl e)) = reserving f below sound.0 (on f below refl) e f.stage refl top
      by (inr (inr e)) = absurd (idle f e f.stage top)

stepped_stays : (most : ℕ) (n : Numbering) (s : System) (h : ℕ) (w : machine.World) (c : State) (k : ℕ) →
    EntryStays (c.handlers k) ((stepped most n s h w (job_of h c) c).handlers k)
stepped_stays most n s h w c k = by (nat_lt h c.count) refl
  where
    of_job : h < c.count → (j : Option Job) → EntryStays (c.handlers k) ((stepped most n s h w j c).handlers k)
    of_job l None = record { keeps = λ x. x; stays = inl refl }
    of_job l (Some j) = entries_stay most h 1 j (asked n s h j (w.handlers h)) c (λ same. omega (arith, l, same)) k

    by : (b : Bool) → nat_lt h c.count ≡ b →
        EntryStays (c.handlers k) ((stepped most n s h w (if b then job_with h (c.handlers h).failure (c.handlers h) c else None) c).handlers k)
    by true l = of_job (ltb-true h c.count l) (job_with h (c.handlers h).failure (c.handlers h) c)
    by false l = record { keeps = λ x. x; stays = inl refl }

-- ---- runs

module _ (s : System) (root : Root) (faultless : IsFaultless s root) (well : WellFormed s) (most : ℕ) (n : Numbering) (each : EachOnStarted most s root) where
  -- the state that was is left remembering by a turn
  remember_next : (h : ℕ) (w : machine.World) (c : State) → IsReached most s root w → IsHalfOf n w c → Remember w c →
      IsHalfOf n (turn most s h w) (stepped most n s h w (job_of h c) c) → Remember (turn most s h w) (stepped most n s h w (job_of h c) c)
  remember_next h w c reached half r next k =
      let v : machine.World = turn most s h w in
      let d : State = stepped most n s h w (job_of h c) c in
      let further = one_further most s root h w reached in
      let stays = stepped_stays most n s h w c k in (
        stays.keeps (r k).0,
        recalls_next (λ j. j < v.count) k (c.handlers k) (d.handlers k) (r k).0 stays (v.handlers k).stack (next.handlers k).stage
            (((reached_linked most s root v further).sound k).stack) (each v further k) (was k),
      )
    where
      turned : Turned h (c.handlers h).entry w (turn most s h w)
      turned = turn_turned h (c.handlers h).entry w most s (reached_linked most s root w reached).sound (λ f below at e. at_entry n w c half r h f below at e) (r h).1

      left : (j : ℕ) → IsLeft (w.handlers j).stack ((turn most s h w).handlers j).stack → AllRecall (c.handlers j).entry ((turn most s h w).handlers j).stack
      left j (inl same) = subst (AllRecall (c.handlers j).entry) (sym same) (r j).1
      left j (inr none) = subst (AllRecall (c.handlers j).entry) (sym none) tt

      was : (j : ℕ) → AllRecall (c.handlers j).entry ((turn most s h w).handlers j).stack
      was j = by (j == h) refl
        where
          by : (b : Bool) → (j == h) ≡ b → AllRecall (c.handlers j).entry ((turn most s h w).handlers j).stack
          by true e = subst (λ (i : ℕ). AllRecall (c.handlers i).entry ((turn most s h w).handlers i).stack) (sym (eqb-true j h e)) turned.own
          by false e = left j (turned.others j e)

  -- along the turns of these handlers
  along : (hs : List ℕ) (w : machine.World) (c : State) → IsReached most s root w → IsHalfOf n w c → Remember w c →
      RemembersAlong most n s hs w c × IsHalfOf n (run most s hs w) (run_beside most n s hs w c)
  along [] w c reached half r = (tt, half)
  along (h ∷ hs) w c reached half r =
      let last = remembers s h w c r in
      let next = reached_halves s root faultless well most n h w c reached half last in
      let rest = along hs (turn most s h w) (stepped most n s h w (job_of h c) c) (one_further most s root h w reached) next (remember_next h w c reached half r next) in
      ((last, rest.0), rest.1)

fresh_keeps : (x : Handler) → x.stage ≡ Idle → x.services ≡ [] → KeepsEntry x
fresh_keeps x e none = record {
  entered = λ ks mark is. no (ap is_reserving (sym e ∙ is));
  over = λ v i. served v (subst (λ (vs : List Service). Contains vs v) none i);
}
  where
    served : (v : Service) → Contains [] v → (ks : List ℕ) (mark : List Marked) → v.over ≡ Reserves ks mark → ⊥
    served v (i, l, is) ks mark j = omega (arith, l)

remember_opening : (n : Numbering) (s : System) (root : Root) → Remember (runs.opening s root) (opened n s root)
remember_opening n s root k = by (nat_lt k 1)
  where
    q : machine.Request
    q = root_request (option_map_or (λ k. k) (number_of s root.class) 0) root.procedure

    by : (b : Bool) →
        KeepsEntry (if b then record new_handler { queue = posted (request_of n (root_request (option_map_or (λ k. k) (number_of s root.class) 0) root.procedure)) None ∷ [] } else new_handler)
        × AllRecall (if b then record new_handler { queue = posted (request_of n (root_request (option_map_or (λ k. k) (number_of s root.class) 0) root.procedure)) None ∷ [] } else new_handler).entry
        (if b then record machine.new_handler { queue = root_request (option_map_or (λ k. k) (number_of s root.class) 0) root.procedure ∷ [] } else machine.new_handler).stack
    by true = (fresh_keeps _ refl refl, tt)
    by false = (fresh_keeps _ refl refl, tt)

run_remembers : (s : System) (root : Root) → IsFaultless s root → WellFormed s → (most : ℕ) (n : Numbering) (hs : List ℕ) →
    RemembersAlong most n s hs (runs.opening s root) (opened n s root)
    × IsHalfOf n (run most s hs (runs.opening s root)) (run_beside most n s hs (runs.opening s root) (opened n s root))
run_remembers s root faultless well most n hs =
    along s root faultless well most n (reservers_on_started s root faultless well most) hs (runs.opening s root) (opened n s root) (record { numbers = []; run_is = refl }) (opens n s root)
    (remember_opening n s root)

pub entries_are_remembered : EntriesAreRemembered
entries_are_remembered s root faultless well most n hs = (run_remembers s root faultless well most n hs).0

pub runs_as_half : RunsAsHalf
runs_as_half s root faultless well most n hs = (run_remembers s root faultless well most n hs).1
