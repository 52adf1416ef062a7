-- What a state is compared by: of the counts of sessions, and of the marks that were made of them, no more than whether
-- an entry may be tried again.
use Rattle.std.specs.Prelude.{ℕ, List, [], map, if◌then◌else◌}
use Rattle.sc_lockpass.specs.wait_conditions.Reservations.{mark_allows}
use Rattle.sc_lockpass.specs.declared.wait_conditions.mark.Marked.{Marked}
use Rattle.sc_handler.specs.Handlers.{HandlerStage, Idle, Runs, HasMade, Reserves, Awaits, Service, Handler, State}

-- the handlers that are marked
abbrev pub marked_in : List Marked → List ℕ
marked_in mark = map (λ (m : Marked). m.handler) mark

abbrev pub uncounted : Marked → Marked
uncounted m = record m { sessions = 0 }

-- A mark since which a count has risen is as none. Of any other one only its handlers are left.
abbrev pub canon_mark : (ℕ → ℕ) → List Marked → List Marked
canon_mark sessions mark = if mark_allows sessions mark then [] else map uncounted mark

abbrev pub canon_stage : (ℕ → ℕ) → HandlerStage → HandlerStage
canon_stage sessions Idle = Idle
canon_stage sessions Runs = Runs
canon_stage sessions (HasMade k) = HasMade k
canon_stage sessions (Reserves ks mark) = Reserves ks (canon_mark sessions mark)
canon_stage sessions (Awaits k is_creation) = Awaits k is_creation

abbrev pub canon_service : (ℕ → ℕ) → Service → Service
canon_service sessions v = record v { over = canon_stage sessions v.over }

-- the handler without its count, by the counts of all
abbrev pub canon_handler : (ℕ → ℕ) → Handler → Handler
canon_handler sessions x = record x {
  stage = canon_stage sessions x.stage;
  services = map (canon_service sessions) x.services;
  sessions = 0;
}

-- how many sessions of each handler have ended
abbrev pub sessions_in : State → ℕ → ℕ
sessions_in s k = (s.handlers k).sessions

-- The state without counts of sessions, with each mark as it is read.
abbrev pub canon : State → State
canon s = record s { handlers = λ k. canon_handler (sessions_in s) (s.handlers k) }
