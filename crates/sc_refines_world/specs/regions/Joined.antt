-- Core and regions together are the machine, at the opening and after each turn.
use Rattle.std.specs.Prelude.{◌≡◌, ◌<◌, ◌≤◌, ◌==◌, ℕ, List, Option, if◌then◌else◌}
use Rattle.sc_tree.specs.Plain.{System}
use Rattle.sc_class.specs.ClassNames.{Root}
use Rattle.sc_model.specs.Handlers as machine
use Rattle.sc_model.specs.Settled.{SettledObjectsMeet}
use Rattle.sc_model.specs.Runs as runs
use Rattle.sc_model.specs.Turns.{turn}
use Rattle.sc_region.specs.declared.job.Job.{Job}
use Rattle.sc_handler.specs.Handlers as core
use Rattle.sc_handler.specs.Picking.{job_of}
use Rattle.sc_request.specs.Asked.{Numbering}
use Rattle.sc_request.specs.Halves.{IsHalfOf}
use Rattle.sc_request.specs.Steps.{stepped}
use Rattle.sc_refines_world.specs.regions.RegionTurns.{Half, new_half}
use Rattle.sc_refines_world.specs.regions.RegionHalves.{IsRegionHalf}
use Rattle.sc_refines_world.specs.regions.RegionSteps.{numbering_by, taken_if, AreNamed}
use Rattle.sc_refines_world.specs.regions.Order.{AreInOrder, EachInOrder}

-- ---- the handler of the turn

-- After the handler's turn under its job, the region's half is that of the machine after its turn, with the stage
-- that the core's settlement leads to.
abbrev pub RegionsFollow : Type 0
RegionsFollow =
    (most : ℕ) (names : List (List ℕ)) (s : System) (h : ℕ) (w : machine.World) (c : core.State) (x : Half) →
    IsHalfOf (numbering_by names) w c → IsRegionHalf h (w.handlers h) (c.handlers h).stage x →
    AreInOrder (w.handlers h).stack → AreNamed names (w.handlers h) → SettledObjectsMeet s (turn most s h w) →
    IsRegionHalf h ((turn most s h w).handlers h)
    ((stepped most (numbering_by names) s h w (job_of h c) c).handlers h).stage
    (taken_if s h names (job_of h c) x)

-- ---- the others

-- The half of any other handler is still its region's half, with its stage after the core's settlement.
abbrev pub OthersKeepHalves : Type 0
OthersKeepHalves =
    (most : ℕ) (n : Numbering) (s : System) (h k : ℕ) (w : machine.World) (c : core.State) (x : Half) →
    IsHalfOf n w c → (k ≡ h → ⊥) → k < w.count →
    IsRegionHalf k (w.handlers k) (c.handlers k).stage x →
    IsRegionHalf k ((turn most s h w).handlers k) ((stepped most n s h w (job_of h c) c).handlers k).stage x

-- A handler that the turn creates has the half of a handler that was asked for nothing yet.
abbrev pub CreatedAreNew : Type 0
CreatedAreNew =
    (most : ℕ) (s : System) (h k : ℕ) (w : machine.World) (stage : core.HandlerStage) →
    w.count ≤ k → k < (turn most s h w).count →
    IsRegionHalf k ((turn most s h w).handlers k) stage new_half

-- So has each handler at the opening.
abbrev pub OpensAsNew : Type 0
OpensAsNew =
    (s : System) (root : Root) (k : ℕ) (stage : core.HandlerStage) →
    IsRegionHalf k ((runs.opening s root).handlers k) stage new_half

-- ---- all regions

-- `xs k` is the region's half of handler `k`. If there is no handler `k` yet, it is new.
pub record AreRegionHalves (w : machine.World) (c : core.State) (xs : ℕ → Half) : Type 0 where
  pub halves : (k : ℕ) → k < w.count → IsRegionHalf k (w.handlers k) (c.handlers k).stage (xs k)
  pub rest : (k : ℕ) → w.count ≤ k → xs k ≡ new_half

-- the halves after the handler's turn under its job
abbrev pub halves_after : System → ℕ → List (List ℕ) → Option Job → (ℕ → Half) → ℕ → Half
halves_after s h names j xs k = if k == h then taken_if s h names j (xs h) else xs k

-- At the opening all halves are new.
abbrev pub OpensAsHalves : Type 0
OpensAsHalves = (s : System) (root : Root) (c : core.State) → AreRegionHalves (runs.opening s root) c (λ k. new_half)

-- After each turn the halves are still those of the regions.
abbrev pub TurnsKeepHalves : Type 0
TurnsKeepHalves =
    (most : ℕ) (names : List (List ℕ)) (s : System) (h : ℕ) (w : machine.World) (c : core.State) (xs : ℕ → Half) →
    IsHalfOf (numbering_by names) w c → AreRegionHalves w c xs → EachInOrder w → AreNamed names (w.handlers h) →
    SettledObjectsMeet s (turn most s h w) →
    AreRegionHalves (turn most s h w) (stepped most (numbering_by names) s h w (job_of h c) c)
    (halves_after s h names (job_of h c) xs)
