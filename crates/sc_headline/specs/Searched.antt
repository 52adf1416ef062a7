-- What is claimed of what a search of all orders of turns answers, from the bytes of a source text on.
use Rattle.std.specs.Prelude.{◌≡◌, ◌⊎◌, ◌<◌, ◌*◌, ℕ, false, List, map}
use Rattle.std.specs.List.{range_with_len}
use Rattle.sc_tree.specs.Plain.{System}
use Rattle.sc_class.specs.ClassNames.{Root}
use Rattle.sc_lockpass.specs.Versions.{most_handlers}
use Rattle.sc_lockpass.specs.declared.version.Version.{Version}
use Rattle.sc_audit.specs.declared.line.RecordLine.{RecordLine}
use Rattle.sc_model.specs.declared.status.Status.{Status}
use Rattle.sc_model.specs.declared.status.Status.TheVariants.{Waiting}
use Rattle.sc_model.specs.Handlers.{World}
use Rattle.sc_model.specs.Reports as machine
use Rattle.sc_model.specs.Runs.{has_turn, run}
use Rattle.sc_code.specs.declared.program.Image.{Image}
use Rattle.sc_world.specs.Kept.{PlainKept}
use Rattle.sc_frontend.specs.Texts.{IsLoaded, IsRead, IsSound}
use Rattle.sc_search.specs.declared.aims.Aim.{Aim}
use Rattle.sc_search.specs.declared.aims.Aim.TheVariants as aim
use Rattle.sc_search.specs.declared.limits.Limits.{Limits}
use Rattle.sc_search.specs.declared.verdict.GivenUp.{GivenUp}
use Rattle.sc_search.specs.Aims.{AreStuck, HasFailed, SomeRefuses}
use Rattle.sc_search.specs.Closed.{IsClosed}
use Rattle.sc_search.specs.Found.{LeadsTo, turns_of}
use Rattle.sc_search.specs.Limits.{AreMet, ArePlayed, GivesUp, LacksMemory, turns_a_state}
use Rattle.sc_search.specs.Waiting.{AreMoving}
use Rattle.sc_search.specs.Waiting as world
use Rattle.sc_headline.specs.Headline.{HasNoTurn, machine_after}

-- the statuses of the machine's handlers, in order of number
abbrev pub statuses_in : World → List Status
statuses_in w = map (λ h. machine.status_of h w) (range_with_len 0 w.count)

-- In a state whose handlers are stuck no handler has a turn.
abbrev pub StuckHaveNoTurn : Type 0
StuckHaveNoTurn = (w : World) → AreStuck (statuses_in w) → HasNoTurn w

-- The handler waits, and has no turn after any list of handler numbers, of any length.
pub record WaitsForGood (s : System) (version : Version) (h : ℕ) (w : World) : Type 0 where
  pub there : h < w.count
  pub waits : machine.status_of h w ≡ Waiting
  pub never : (handlers : List ℕ) → has_turn h (run (most_handlers version) s handlers w) ≡ false

-- some handler waits for good
abbrev pub SomeWaits : System → Version → World → Type 0
SomeWaits s version w = (h : ℕ) × WaitsForGood s version h w

-- some handler has refused a request for which no handler waited
abbrev pub SomeHasRefused : World → Type 0
SomeHasRefused w = SomeRefuses w.count (λ h. (w.handlers h).refused)

-- what is looked for
abbrev pub IsSought : System → Version → Aim → World → Type 0
IsSought s version aim.Stuck w = SomeWaits s version w
IsSought s version aim.Fails w = HasFailed (statuses_in w)
IsSought s version aim.Refused w = SomeHasRefused w
IsSought s version aim.Any w = SomeWaits s version w ⊎ HasFailed (statuses_in w) ⊎ SomeHasRefused w

-- ---- an order that was found

-- The text spells a system that is sound. The turns of these lines lead the machine from its opening to a state that is
-- looked for.
pub record LeadsMachineTo (text : List ℕ) (root : Root) (version : Version) (lines : List RecordLine)
    (a : Aim) : Type 0 where
  pub system : System
  pub read : IsRead text system
  pub sound : IsSound system root
  pub sought : IsSought system version a (machine_after system root version (turns_of lines))

-- An order that is found for a text's program, after which some handler waits for good, has failed, or has refused a
-- request, leaves the machine so.
abbrev pub FoundOrdersAreTheMachines : Type 0
FoundOrdersAreTheMachines =
    (text : List ℕ) (root : Root) (program : Image) (version : Version) (lines : List RecordLine) (a : Aim) →
    IsLoaded text root program → LeadsTo program version lines (world.IsSought program version a) →
    LeadsMachineTo text root version lines a

-- ---- where nothing was found

-- The text spells a system that is sound, and no list of handler numbers, of any length, leads the machine from its
-- opening to a state that is looked for.
pub record NoOrderMeets (text : List ℕ) (root : Root) (version : Version) (a : Aim) : Type 0 where
  pub system : System
  pub read : IsRead text system
  pub sound : IsSound system root
  pub none : (handlers : List ℕ) → IsSought system version a (machine_after system root version handlers) → ⊥

-- If the states that a search of a text's program met are closed, and each handler that waits in one of them may move
-- if stuck handlers are looked for, no order meets what it looked for.
abbrev pub WholeSearchesFindAll : Type 0
WholeSearchesFindAll =
    (text : List ℕ) (root : Root) (program : Image) (version : Version) (a : Aim) (states : List PlainKept) →
    IsLoaded text root program → IsClosed program version a states → AreMoving program version a states →
    NoOrderMeets text root version a

-- ---- where a search gives up

-- As many states as may be kept were met, or as many turns as that allows were played, or what is kept takes more bytes
-- than it may, or memory ran out.
abbrev pub IsAtLimit : Image → Version → Aim → Limits → GivenUp → Type 0
IsAtLimit p v a l g =
    AreMet p v a l.states ⊎ ArePlayed p v (turns_a_state * l.states) ⊎ (l.bytes < g.bytes) ⊎ LacksMemory g

-- A search of a text's program gives up only if that is so.
abbrev pub SearchesGiveUpAtLimits : Type 0
SearchesGiveUpAtLimits =
    (text : List ℕ) (root : Root) (program : Image) (version : Version) (a : Aim) (limits : Limits) (g : GivenUp) →
    IsLoaded text root program → GivesUp program version a limits g → IsAtLimit program version a limits g
