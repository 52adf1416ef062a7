-- What a search has played, and why it stops.
use Rattle.std.specs.Prelude.{◌≡◌, ◌++◌, ℕ, Bool, true, false, List, Option, Some, None, length, slice_get}
use Rattle.sc_lockpass.specs.Versions.{most_handlers}
use Rattle.sc_lockpass.specs.declared.version.Version.{Version}
use Rattle.sc_model.specs.declared.status.Status.{Status}
use Rattle.sc_code.specs.declared.program.Image.{Image}
use Rattle.sc_world.specs.Views.{world_in}
use Rattle.sc_world.specs.Kept.{IsOf, PlainKept, kept}
use Rattle.sc_world.specs.Reports.{statuses}
use Rattle.sc_world.specs.Turning.{Runs}
use Rattle.sc_world.specs.Worlds.{PlainWorld, opened}
use Rattle.sc_search.specs.declared.aims.Aim.{Aim}
use Rattle.sc_search.specs.declared.limits.Limits.{Limits}
use Rattle.sc_search.specs.declared.movers.Rest.{Rest}
use Rattle.sc_search.specs.declared.movers.Rest.TheVariants as rest
use Rattle.sc_search.specs.declared.progress.Progress.{Progress}
use Rattle.sc_search.specs.declared.progress.Stop.{Stop}
use Rattle.sc_search.specs.declared.progress.Stop.TheVariants as stop
use Rattle.sc_search.specs.declared.replay.Subject.{Subject}
use Rattle.sc_search.specs.declared.verdict.Finding.{Finding}
use Rattle.sc_search.specs.declared.verdict.Finding.TheVariants as finding
use Rattle.sc_search.specs.declared.verdict.GivenUp.{GivenUp}
use Rattle.sc_search.specs.Aims.{IsMet}
use Rattle.sc_search.specs.Limits.{ArePlayed, PassGivesUp, SaysWhyFor}
use Rattle.sc_search.specs.Stored.{IsAlikeAfter, IsStored}
use Rattle.sc_search.specs.Views.{orders_of, states_of, statuses_of}

-- The order of the number leads to a world in the state, whose statuses are those that are kept. It doesn't show what
-- is looked for.
pub record IsReached (p : Image) (v : Version) (a : Aim) (orders : List (List ℕ)) (told : List (List Status))
    (number : ℕ) (k : PlainKept) : Type 0 where
  pub order : List ℕ
  pub stands : slice_get orders number ≡ Some order
  pub world : PlainWorld
  pub runs : Runs order (opened p v) world
  pub kept_is : kept world ≡ k
  pub told_is : slice_get told number ≡ Some (statuses world)
  pub unmet : IsMet a world → ⊥

-- Each state is reached so, and this number of turns were played.
pub record AreReached (p : Image) (v : Version) (a : Aim) (ks : List PlainKept) (orders : List (List ℕ))
    (told : List (List Status)) (turns : ℕ) : Type 0 where
  pub each : (number : ℕ) (k : PlainKept) → slice_get ks number ≡ Some k → IsReached p v a orders told number k
  pub count : length orders ≡ length ks
  pub rows : length told ≡ length ks
  pub played : ArePlayed p v turns

-- Each state is reached so, and the world that is played in is of the program, as what is kept is.
pub record HasReached (p : Image) (v : Version) (a : Aim) (x : Progress) : Type 0 where
  pub reached : AreReached p v a (states_of x) (orders_of x) (statuses_of x) x.turns
  pub stored : IsStored p x.store
  pub of : IsOf p (most_handlers v) (world_in x.world)

-- ---- why a search stops

-- These turns lead from the opening to a world that shows what is looked for,
pub record MeetsAfter (p : Image) (v : Version) (a : Aim) (turns : List ℕ) : Type 0 where
  pub world : PlainWorld
  pub runs : Runs turns (opened p v) world
  pub met : IsMet a world

-- or to one that doesn't.
pub record MissesAfter (p : Image) (v : Version) (a : Aim) (turns : List ℕ) : Type 0 where
  pub world : PlainWorld
  pub runs : Runs turns (opened p v) world
  pub unmet : IsMet a world → ⊥

-- a search over all turns
abbrev pub StopsFor : Image → Version → Aim → Limits → Stop → Type 0
StopsFor p v a limits (stop.Met turns) = MeetsAfter p v a turns.items
StopsFor p v a limits (stop.Cut why) = PassGivesUp p v a limits why
StopsFor p v a limits stop.Endless = ⊥

-- a search over choices
abbrev pub ChoiceStopsFor : Image → Version → Aim → Limits → Stop → Type 0
ChoiceStopsFor p v a limits (stop.Met turns) = MeetsAfter p v a turns.items
ChoiceStopsFor p v a limits (stop.Cut why) = PassGivesUp p v a limits why
ChoiceStopsFor p v a limits stop.Endless = Unit {0}

-- It has stopped, for such a reason.
abbrev pub HasStopped : Image → Version → Aim → Limits → Option Stop → Type 0
HasStopped p v a limits None = ⊥
HasStopped p v a limits (Some s) = StopsFor p v a limits s

-- If it has stopped so at limits, what is found says why.
abbrev pub SaysWhyAt : Subject → Option Stop → Bool → Finding → Option GivenUp → Type 0
SaysWhyAt s stopped is_whole found why =
    (limits : Limits) → HasStopped s.program.now.image s.version s.aim limits stopped →
    SaysWhyFor s limits is_whole found why

-- A search over all turns follows one over choices that has played all, or in which movers went on and on.
abbrev pub goes_on : Option Stop → Bool
goes_on None = true
goes_on (Some (stop.Met turns)) = false
goes_on (Some (stop.Cut why)) = false
goes_on (Some stop.Endless) = true

abbrev pub is_undecided : Finding → Bool
is_undecided finding.Nothing = false
is_undecided (finding.Stuck order) = false
is_undecided (finding.Fails order) = false
is_undecided (finding.Refused order) = false
is_undecided finding.Undecided = true

-- an order
abbrev pub IsOrdered : Finding → Type 0
IsOrdered finding.Nothing = ⊥
IsOrdered (finding.Stuck order) = Unit {0}
IsOrdered (finding.Fails order) = Unit {0}
IsOrdered (finding.Refused order) = Unit {0}
IsOrdered finding.Undecided = ⊥

-- ---- movers

-- After these turns come others, which lead from the first world to the second.
pub record Moves (before after : List ℕ) (x y : PlainWorld) : Type 0 where
  pub more : List ℕ
  pub all : after ≡ before ++ more
  pub runs : Runs more x y

-- where the turns led
abbrev pub RestsAt : Image → Version → Aim → List ℕ → PlainWorld → Rest → Type 0
RestsAt p v a turns w rest.Met = MeetsAfter p v a turns
RestsAt p v a turns w rest.Reached = IsAlikeAfter p v turns w
RestsAt p v a turns w rest.Endless = Unit {0}
