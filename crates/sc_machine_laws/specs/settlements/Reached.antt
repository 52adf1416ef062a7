-- The core beside each state of the machine that is reached.
use Rattle.std.specs.Prelude.{◌≡◌, ℕ, List, [], ◌∷◌}
use Rattle.std.specs.Option.{option_map_or}
use Rattle.sc_tree.specs.Plain.{System, Clause}
use Rattle.sc_class.specs.ClassNames.{Root, number_of}
use Rattle.sc_lockpass.specs.declared.wait_conditions.condition.EntryVerdict.TheVariants as verdict
use Rattle.sc_model.specs.Environments.{separate_formals}
use Rattle.sc_model.specs.Handlers as machine
use Rattle.sc_model.specs.Moves.{moves}
use Rattle.sc_model.specs.Preconditions.{verdict_on}
use Rattle.sc_model.specs.Runs as runs
use Rattle.sc_model.specs.Runs.{IsReached, root_request, run}
use Rattle.sc_model.specs.Steps.{Point, Refuses, Does}
use Rattle.sc_model.specs.Turns.{turn}
use Rattle.sc_handler.specs.Handlers.{State}
use Rattle.sc_handler.specs.Picking.{job_of}
use Rattle.sc_request.specs.Asked.{Numbering, request_of, handlers_of}
use Rattle.sc_request.specs.Halves.{IsHalfOf}
use Rattle.sc_request.specs.Logs.{opening}
use Rattle.sc_request.specs.Steps.{stepped}
use Rattle.sc_machine_laws.specs.states.Values.{WhereAccepted}

-- If the topmost frame of `h` finds a clause of its precondition false and waits, the entry that `h` reserved for
-- last is that frame's entry.
abbrev pub RemembersEntry : System → ℕ → machine.World → State → Type 0
RemembersEntry s h w c = (f : machine.Frame) (below : List machine.Frame) (k : Clause) (p : Point) →
    (w.handlers h).stack ≡ f ∷ below →
    f.stage ≡ machine.Runs → moves s f.current (machine.point_of f (w.handlers h).objects) ≡ Does (Refuses k) p →
    verdict_on (machine.frame_at f p) k ≡ verdict.Wait →
    (c.handlers h).entry ≡ handlers_of (separate_formals f.environment)

-- If the core is the half of a state that is reached, the settlement of a turn makes it the half of the next state.
abbrev pub HalvesWhereReached : Type 0
HalvesWhereReached = WhereAccepted λ s root. (most : ℕ) (n : Numbering) (h : ℕ) (w : machine.World) (c : State) →
    IsReached most s root w →
    IsHalfOf n w c → RemembersEntry s h w c → IsHalfOf n (turn most s h w) (stepped most n s h w (job_of h c) c)

-- ---- runs

-- the core at the opening, asked to create the root object
abbrev pub opened : Numbering → System → Root → State
opened n s root =
    opening (request_of n (root_request (option_map_or (λ k. k) (number_of s root.class) 0) root.procedure))

-- the state of the core beside the machine, after the turns of these handlers
abbrev pub run_beside : ℕ → Numbering → System → List ℕ → machine.World → State → State
run_beside most n s [] w c = c
run_beside most n s (h ∷ hs) w c = run_beside most n s hs (turn most s h w) (stepped most n s h w (job_of h c) c)

-- At each of these turns the entry is remembered.
abbrev pub RemembersAlong : ℕ → Numbering → System → List ℕ → machine.World → State → Type 0
RemembersAlong most n s [] w c = Unit {0}
RemembersAlong most n s (h ∷ hs) w c =
    RemembersEntry s h w c × RemembersAlong most n s hs (turn most s h w) (stepped most n s h w (job_of h c) c)

-- Each entry that waits is the one that its handler reserved for last.
abbrev pub EntriesAreRemembered : Type 0
EntriesAreRemembered = WhereAccepted λ s root. (most : ℕ) (n : Numbering) (hs : List ℕ) →
    RemembersAlong most n s hs (runs.opening s root) (opened n s root)

-- After the turns of any list of handlers the core is the half of the machine's state.
abbrev pub RunsAsHalf : Type 0
RunsAsHalf = WhereAccepted λ s root. (most : ℕ) (n : Numbering) (hs : List ℕ) →
    IsHalfOf n (run most s hs (runs.opening s root)) (run_beside most n s hs (runs.opening s root) (opened n s root))
