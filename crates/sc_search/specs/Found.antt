-- What a search found.
use Rattle.std.specs.Prelude.{◌≡◌, ℕ, List, [], ◌∷◌, is_some, replicate, true}
use Rattle.std.specs.List.{flat_map}
use Rattle.sc_lockpass.specs.declared.version.Version.{Version}
use Rattle.sc_audit.specs.declared.line.RecordLine.{RecordLine}
use Rattle.sc_code.specs.declared.program.Image.{Image}
use Rattle.sc_request.specs.Logs.{pick_for}
use Rattle.sc_world.specs.Reports as told
use Rattle.sc_world.specs.Turning.{IsTurn, Runs}
use Rattle.sc_world.specs.Worlds.{PlainWorld, opened}
use Rattle.sc_search.specs.declared.verdict.Finding.{Finding}
use Rattle.sc_search.specs.declared.verdict.Finding.TheVariants as finding
use Rattle.sc_search.specs.declared.aims.Aim.{Aim}
use Rattle.sc_search.specs.Aims.{HasFailed, HasRefused, IsMet}
use Rattle.sc_search.specs.Waiting.{IsSought, SomeWaits}

abbrev pub line_turns : RecordLine → List ℕ
line_turns line = replicate line.turns line.handler

-- the turns of lines: line after line the number of its handler, once for each turn
abbrev pub turns_of : List RecordLine → List ℕ
turns_of lines = flat_map line_turns lines

-- The turns of the lines lead from the opening of the program, with the version's limit on handlers, to a world of
-- which this holds.
pub record LeadsTo (p : Image) (v : Version) (lines : List RecordLine) (Holds : PlainWorld → Type 0) : Type 0 where
  pub world : PlainWorld
  pub runs : Runs (turns_of lines) (opened p v) world
  pub holds : Holds world

-- in it, one of the handlers has failed
abbrev pub HasFailedIn : PlainWorld → Type 0
HasFailedIn w = HasFailed (told.statuses w)

-- in it, one of the handlers has refused a request for which no handler waited
abbrev pub HasRefusedIn : PlainWorld → Type 0
HasRefusedIn w = HasRefused w.center.state

-- What is said to be found is so.
abbrev pub IsFound : Image → Version → Finding → Type 0
IsFound p v finding.Nothing = Unit {0}
IsFound p v (finding.Stuck order) = LeadsTo p v order.lines.items (SomeWaits p v)
IsFound p v (finding.Fails order) = LeadsTo p v order.lines.items HasFailedIn
IsFound p v (finding.Refused order) = LeadsTo p v order.lines.items HasRefusedIn
IsFound p v finding.Undecided = Unit {0}

-- ---- where an order ends

-- The turns of these handlers, one after the other, lead from the first world to the second. Each of them has a job,
-- and the world before its turn doesn't show what is looked for.
abbrev pub RunsUnmet : Aim → List ℕ → PlainWorld → PlainWorld → Type 0
RunsUnmet a [] x y = y ≡ x
RunsUnmet a (h ∷ hs) x y =
    (IsMet a x → ⊥) × (is_some (pick_for h x.center) ≡ true)
    × (z : PlainWorld) × IsTurn h x z × RunsUnmet a hs z y

-- The order leads from the opening of the program to a world with what is looked for. No world on the way shows it.
pub record EndsFirst (p : Image) (v : Version) (a : Aim) (lines : List RecordLine) : Type 0 where
  pub world : PlainWorld
  pub runs : RunsUnmet a (turns_of lines) (opened p v) world
  pub sought : IsSought p v a world

-- An order that is reported as found ends at the first world with what is looked for.
abbrev pub IsFirst : Image → Version → Aim → Finding → Type 0
IsFirst p v a finding.Nothing = Unit {0}
IsFirst p v a (finding.Stuck order) = EndsFirst p v a order.lines.items
IsFirst p v a (finding.Fails order) = EndsFirst p v a order.lines.items
IsFirst p v a (finding.Refused order) = EndsFirst p v a order.lines.items
IsFirst p v a finding.Undecided = Unit {0}
