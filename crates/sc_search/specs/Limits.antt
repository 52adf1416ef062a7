-- When a search gives up.
use Rattle.std.specs.Prelude.{◌≡◌, ◌⊎◌, ◌≤◌, ◌<◌, ◌*◌, ℕ, Bool, true, false, List, Option, Some, None, if◌then◌else◌, length, slice_get, sum_by}
use Rattle.sc_lockpass.specs.declared.version.Version.{Version}
use Rattle.sc_code.specs.declared.program.Image.{Image}
use Rattle.sc_world.specs.Kept.{PlainKept}
use Rattle.sc_world.specs.Turning.{Runs}
use Rattle.sc_world.specs.Worlds.{PlainWorld, opened}
use Rattle.sc_search.specs.declared.aims.Aim.{Aim}
use Rattle.sc_search.specs.declared.limits.Limits.{Limits}
use Rattle.sc_search.specs.declared.replay.Subject.{Subject}
use Rattle.sc_search.specs.declared.verdict.Finding.{Finding}
use Rattle.sc_search.specs.declared.verdict.Finding.TheVariants as finding
use Rattle.sc_search.specs.declared.verdict.GivenUp.{GivenUp}
use Rattle.sc_search.specs.declared.verdict.Pass.TheVariants as pass
use Rattle.sc_search.specs.declared.verdict.Reason.{Reason}
use Rattle.sc_search.specs.declared.verdict.Reason.TheVariants as reason
use Rattle.sc_search.specs.declared.verdict.Verdict.{Verdict}
use Rattle.sc_search.specs.Closed.{IsUnmet}

-- At least this number of states were met. Turns lead to each of them, and none of them shows what is looked for.
pub record AreMet (p : Image) (v : Version) (a : Aim) (count : ℕ) : Type 0 where
  pub states : List PlainKept
  pub many : count ≤ length states
  pub unmet : (i : ℕ) (k : PlainKept) → slice_get states i ≡ Some k → IsUnmet p v a k

-- Turns of these handlers, one after the other, lead somewhere from the opening of the program.
pub record IsOrder (p : Image) (v : Version) (order : List ℕ) : Type 0 where
  pub world : PlainWorld
  pub runs : Runs order (opened p v) world

-- At least this number of turns were played: those of orders, each from the opening on.
pub record ArePlayed (p : Image) (v : Version) (turns : ℕ) : Type 0 where
  pub orders : List (List ℕ)
  pub each : (i : ℕ) (order : List ℕ) → slice_get orders i ≡ Some order → IsOrder p v order
  pub many : turns ≤ sum_by (λ (order : List ℕ). length order) orders

-- Turns of the same handlers in the same order lead from the opening to two worlds.
pub record AreTwo (p : Image) (v : Version) : Type 0 where
  pub order : List ℕ
  pub one : PlainWorld
  pub other : PlainWorld
  pub leads_to_one : Runs order (opened p v) one
  pub leads_to_other : Runs order (opened p v) other
  pub differ : one ≡ other → ⊥

-- for each state that may be kept
abbrev pub turns_a_state : ℕ
turns_a_state = 2000

-- What the limits allow is used up after so many states and turns, with so many bytes, for this reason: as many states
-- as may be kept were met, or as many turns as that allows were played, or what is kept of states takes more bytes than
-- it may. Or an order led to two worlds, which those of accepted texts don't.
abbrev pub IsUsedUp : Image → Version → Aim → Limits → Reason → ℕ → ℕ → ℕ → Type 0
IsUsedUp p v a l reason.States states turns bytes = (l.states ≤ states) × AreMet p v a states
IsUsedUp p v a l reason.Turns states turns bytes = (turns_a_state * l.states ≤ turns) × ArePlayed p v turns
IsUsedUp p v a l reason.Bytes states turns bytes = (l.bytes < bytes) × AreMet p v a states
IsUsedUp p v a l reason.Memory states turns bytes = ⊥
IsUsedUp p v a l reason.Worlds states turns bytes = AreTwo p v

-- A pass gives up so with these limits.
abbrev pub PassGivesUp : Image → Version → Aim → Limits → GivenUp → Type 0
PassGivesUp p v a limits g = IsUsedUp p v a limits g.reason g.states g.turns g.bytes

-- Memory ran out in the second pass. No more is said of that.
pub record LacksMemory (g : GivenUp) : Type 0 where
  pub ran_out : g.reason ≡ reason.Memory
  pub late : g.pass ≡ pass.AllTurns

-- A search gives up if a pass does, or if memory ran out.
abbrev pub GivesUp : Image → Version → Aim → Limits → GivenUp → Type 0
GivesUp p v a limits g = PassGivesUp p v a limits g ⊎ LacksMemory g

-- A search has given up if it is undecided, or has found nothing and isn't whole.
abbrev pub has_given_up : Bool → Finding → Bool
has_given_up is_whole finding.Nothing = if is_whole then false else true
has_given_up is_whole (finding.Stuck order) = false
has_given_up is_whole (finding.Fails order) = false
has_given_up is_whole (finding.Refused order) = false
has_given_up is_whole finding.Undecided = true

-- There is a reason for giving up, and it is true.
abbrev pub HasReason : Image → Version → Aim → Limits → Option GivenUp → Type 0
HasReason p v a limits None = ⊥
HasReason p v a limits (Some g) = GivesUp p v a limits g

-- That is so if the search has given up, and there is none else.
abbrev pub IsWhy : Image → Version → Aim → Limits → Bool → Option GivenUp → Type 0
IsWhy p v a limits true why = HasReason p v a limits why
IsWhy p v a limits false why = why ≡ None

-- A verdict says why the search gave up, if it has this finding and is whole or isn't.
abbrev pub SaysWhy : Image → Version → Aim → Limits → Bool → Finding → Option GivenUp → Type 0
SaysWhy p v a limits is_whole found why = IsWhy p v a limits (has_given_up is_whole found) why

-- the reason, for what is searched
abbrev pub SaysWhyFor : Subject → Limits → Bool → Finding → Option GivenUp → Type 0
SaysWhyFor s limits is_whole found why = SaysWhy s.program.now.image s.version s.aim limits is_whole found why

-- ---- the memory that is taken

-- how many bytes are counted for each state at least
abbrev pub bytes_a_state : ℕ
bytes_a_state = 64

-- What was kept takes no more bytes than it may, and each state is counted.
pub record IsWithin (l : Limits) (d : Verdict) : Type 0 where
  pub few : d.bytes ≤ l.bytes
  pub counted : bytes_a_state * d.states ≤ d.bytes

-- That is so if every order was played.
abbrev pub StaysWithin : Limits → Verdict → Type 0
StaysWithin l d = d.is_whole ≡ true → IsWithin l d
