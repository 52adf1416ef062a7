-- Turns of a world.
use Rattle.std.specs.Prelude.{◌≡◌, ◌<◌, ◌≤◌, ◌⊎◌, ℕ, true, List, [], ◌∷◌, Option, Some, None, is_some, replicate, slice_get, slice_set, take}
use Rattle.sc_lockpass.specs.declared.version.Version.{Version}
use Rattle.sc_code.specs.declared.program.Image.{Image}
use Rattle.sc_region.specs.declared.job.Job.{Job}
use Rattle.sc_region.specs.declared.job.Outcome.{Outcome}
use Rattle.sc_request.specs.Logs.{Center, pick_for, picked, put_back, settles}
use Rattle.sc_play.specs.Regions.{PlainRegion, Plays, IsRefused}
use Rattle.sc_world.specs.declared.configuration.Turned.{Turned}
use Rattle.sc_world.specs.declared.configuration.Turned.TheVariants.{Moved, Nothing}
use Rattle.sc_world.specs.Worlds.{PlainWorld, opened}

-- The handler, which is out with the job, plays so many turns under it, at most the limit, and what they come to is
-- settled.
pub record Settles (limit h : ℕ) (j : Job) (turns most : ℕ) (c d : Center) (x y : PlainRegion) : Type 0 where
  pub outcome : Outcome
  pub count : outcome.turns ≡ turns
  pub plays : Plays limit j x y outcome
  pub center : d ≡ settles most h j turns outcome.want c

-- Memory was refused to its first turn. It is put back, and at most silent operations of its region are done.
pub record PutsBack (h : ℕ) (j : Job) (c d : Center) (x y : PlainRegion) : Type 0 where
  pub refused : IsRefused j x y
  pub center : d ≡ put_back h c

-- The same under the job with which the handler is out, whatever that is.
abbrev pub PutsOutBack : ℕ → Center → Center → PlainRegion → PlainRegion → Type 0
PutsOutBack h c d x y = (j : Job) → c.out h ≡ Some j → PutsBack h j c d x y

-- The handler is picked with the job, plays so many turns under it, and is settled. All other regions stay as they are.
pub record Makes (limit h : ℕ) (j : Job) (turns : ℕ) (x y : PlainWorld) : Type 0 where
  pub before : PlainRegion
  pub after : PlainRegion
  pub stands : slice_get x.regions h ≡ Some before
  pub settles : Settles limit h j turns x.most (picked h j x.center) y.center before after
  pub regions : y.regions ≡ slice_set x.regions h after
  pub most : y.most ≡ x.most

-- The handler is picked with the job, memory is refused to its turn, and it is put back.
pub record IsHeldUp (h : ℕ) (j : Job) (x y : PlainWorld) : Type 0 where
  pub before : PlainRegion
  pub after : PlainRegion
  pub stands : slice_get x.regions h ≡ Some before
  pub put_back : PutsBack h j (picked h j x.center) y.center before after
  pub regions : y.regions ≡ slice_set x.regions h after
  pub most : y.most ≡ x.most

-- ---- the turn of a handler

-- With something to do it makes a turn; without, nothing changes.
abbrev pub TurnsUnder : ℕ → Option Job → PlainWorld → PlainWorld → Type 0
TurnsUnder h None x y = y ≡ x
TurnsUnder h (Some j) x y = Makes 1 h j 1 x y

-- the turn of the handler of the number, if it has one
abbrev pub IsTurn : ℕ → PlainWorld → PlainWorld → Type 0
IsTurn h x y = TurnsUnder h (pick_for h x.center) x y

abbrev pub turned_by : Option Job → Turned
turned_by None = Nothing
turned_by (Some j) = Moved

abbrev pub HeldUpUnder : ℕ → Option Job → PlainWorld → PlainWorld → Type 0
HeldUpUnder h None x y = y ≡ x
HeldUpUnder h (Some j) x y = IsHeldUp h j x y

-- Memory was refused to the turn of the handler: nothing has changed, or only what its own silent operations change.
abbrev pub IsRefusedTurn : ℕ → PlainWorld → PlainWorld → Type 0
IsRefusedTurn h x y = (y ≡ x) ⊎ HeldUpUnder h (pick_for h x.center) x y

-- ---- turns one after the other

-- The turns of these handlers, one after the other, lead from the first world to the second.
abbrev pub Runs : List ℕ → PlainWorld → PlainWorld → Type 0
Runs [] x y = y ≡ x
Runs (h ∷ hs) x y = (z : PlainWorld) × IsTurn h x z × Runs hs z y

-- Each of these handlers, one after the other, has something to do and makes its turn, and they lead from the first
-- world to the second.
abbrev pub MakeTurns : List ℕ → PlainWorld → PlainWorld → Type 0
MakeTurns [] x y = y ≡ x
MakeTurns (h ∷ hs) x y =
    (is_some (pick_for h x.center) ≡ true) × (z : PlainWorld) × IsTurn h x z × MakeTurns hs z y

-- So many of the handlers had their turns, one after the other, and memory was refused to that of the next.
pub record StopsBehind (n : ℕ) (hs : List ℕ) (x y : PlainWorld) : Type 0 where
  pub before : PlainWorld
  pub next : ℕ
  pub runs : Runs (take n hs) x before
  pub stands : slice_get hs n ≡ Some next
  pub refused : IsRefusedTurn next before y

-- ---- turns that were made or refused

-- what came of the turn of a handler: it was made, or memory was refused to it
pub data Attempt : Type 0 where
  Made : (handler : ℕ) → Attempt
  Refused : (handler : ℕ) → Attempt

abbrev pub IsAttempt : Attempt → PlainWorld → PlainWorld → Type 0
IsAttempt (Made h) x y = IsTurn h x y
IsAttempt (Refused h) x y = IsRefusedTurn h x y

-- These attempts, one after the other, lead from the first world to the second.
abbrev pub Attempts : List Attempt → PlainWorld → PlainWorld → Type 0
Attempts [] x y = y ≡ x
Attempts (t ∷ ts) x y = (z : PlainWorld) × IsAttempt t x z × Attempts ts z y

-- the handlers whose turns were made, in order
abbrev pub made_by : List Attempt → List ℕ
made_by [] = []
made_by (Made h ∷ ts) = h ∷ made_by ts
made_by (Refused h ∷ ts) = made_by ts

-- From the opening of a program, some attempts lead to the world.
pub record IsTried (x : PlainWorld) : Type 0 where
  pub program : Image
  pub version : Version
  pub attempts : List Attempt
  pub lead : Attempts attempts (opened program version) x

-- ---- turns of one handler

-- So many turns of the handler, at most the limit, lead from the first world to the second. None are made where it has
-- nothing to do.
pub record TurnsUnderJob (limit h turns : ℕ) (x y : PlainWorld) : Type 0 where
  pub few : turns ≤ limit
  pub runs : Runs (replicate turns h) x y
  pub idle : turns ≡ 0 → pick_for h y.center ≡ None

-- Fewer turns of the handler than the limit were made, one after the other, and memory was refused to the next.
pub record StopsShort (limit h : ℕ) (x y : PlainWorld) : Type 0 where
  pub made : ℕ
  pub few : made < limit
  pub before : PlainWorld
  pub runs : Runs (replicate made h) x before
  pub refused : IsRefusedTurn h before y
