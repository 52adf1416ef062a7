-- Runs that end where their handlers have printed too much.
use Rattle.std.specs.Prelude.{◌≡◌, ◌<◌, ◌≤◌, ◌⊎◌, ℕ, List, Option, Some, None, length, sum_by}
use Rattle.sc_code.specs.declared.program.Image.{Image}
use Rattle.sc_play.specs.Regions.{PlainRegion}
use Rattle.sc_plant.specs.declared.bounds.Bounds.{Bounds}
use Rattle.sc_plant.specs.declared.left.Left.{Left}
use Rattle.sc_plant.specs.Left.{IsRun}

-- how many bytes the handlers have printed together
abbrev pub printed_by : List PlainRegion → ℕ
printed_by rs = sum_by (λ (x : PlainRegion). length x.store.output) rs

-- They have printed more than they may, if there is a bound.
abbrev pub ArePast : Option ℕ → List PlainRegion → Type 0
ArePast None rs = ⊥
ArePast (Some most) rs = most < printed_by rs

-- A run ends after at most this number of turns: all that it may make, or fewer, if the handlers have printed more
-- than they may.
abbrev pub EndsBehind : Bounds → ℕ → List PlainRegion → Type 0
EndsBehind bounds turns rs = (turns ≡ bounds.turns) ⊎ ((turns ≤ bounds.turns) × ArePast bounds.output rs)

-- What a run leaves that ends as one of this number of turns does, since it may make no more, or since the handlers
-- have printed more than they may.
pub record IsBoundedRun (p : Image) (bounds : Bounds) (turns : ℕ) (left : Left) : Type 0 where
  pub run : IsRun p turns left
  pub ends : EndsBehind bounds turns left.regions.items
