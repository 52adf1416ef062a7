-- Which state of the machine a running world represents.
use Rattle.std.specs.Prelude.{◌≡◌, ◌⊎◌, ◌<◌, ◌≤◌, ℕ, false, List, None, Option, Some, slice_get}
use Rattle.sc_tree.specs.Plain.{System}
use Rattle.sc_model.specs.Handlers as machine
use Rattle.sc_code.specs.declared.program.Image.{Image}
use Rattle.sc_code.specs.Programs.{pool_of}
use Rattle.sc_region.specs.declared.job.Job.{Job}
use Rattle.sc_handler.specs.Handlers as core
use Rattle.sc_handler.specs.Picking.{job_of}
use Rattle.sc_request.specs.Halves.{IsHalfOf}
use Rattle.sc_refines_world.specs.regions.RegionHalves.{IsRegionOf, IsRegionHalf}
use Rattle.sc_refines_world.specs.regions.RegionSteps.{numbering_by}
use Rattle.sc_refines_world.specs.regions.RegionTurns.{Half}
use Rattle.sc_play.specs.Regions.{IsRefused, PlainRegion, new_region}
use Rattle.sc_world.specs.Worlds.{PlainWorld}

-- the names of a program, in the order of their numbers
abbrev pub names_in : Image → List (List ℕ)
names_in p = (pool_of p.pool).names

-- `r` is the region of handler `h` and runs the program `p`. Its store represents the region's half of the machine's
-- handler `x`, whose stage in the core is `stage`.
pub record IsRegionFor (s : System) (p : Image) (h : ℕ) (x : machine.Handler) (stage : core.HandlerStage)
    (r : PlainRegion) : Type 0 where
  pub handler : r.handler ≡ h
  pub program : r.store.program ≡ p
  pub untold : r.is_told ≡ false
  pub half : Half
  pub stands : IsRegionOf s half r.store
  pub is_half : IsRegionHalf h x stage half

-- The world `x` runs the system's program and represents the state `w`: its core is the core's half, no handler is
-- out with a job, each handler has its region, and all other regions are new.
pub record StandsFor (s : System) (p : Image) (w : machine.World) (x : PlainWorld) : Type 0 where
  pub core : IsHalfOf (numbering_by (names_in p)) w x.center.state
  pub none_out : (h : ℕ) → x.center.out h ≡ None
  pub regions : (h : ℕ) → h < w.count →
      (r : PlainRegion) × (slice_get x.regions h ≡ Some r)
      × IsRegionFor s p h (w.handlers h) (x.center.state.handlers h).stage r
  pub others : (h : ℕ) (r : PlainRegion) → w.count ≤ h → slice_get x.regions h ≡ Some r → r ≡ new_region p h

-- ---- when memory was refused

-- `y` is the region `x`, or the region after memory was refused to its first turn under the job `due`.
abbrev pub IsNear : Option Job → PlainRegion → PlainRegion → Type 0
IsNear due x y = (y ≡ x) ⊎ ((j : Job) × (due ≡ Some j) × IsRefused j x y)

-- The world represents the state, except that memory may have been refused to its handlers' next turns.
pub record StandsNear (s : System) (p : Image) (w : machine.World) (x : PlainWorld) : Type 0 where
  pub core : IsHalfOf (numbering_by (names_in p)) w x.center.state
  pub none_out : (h : ℕ) → x.center.out h ≡ None
  pub regions : (h : ℕ) → h < w.count →
      (r : PlainRegion) × (slice_get x.regions h ≡ Some r)
      × ((start : PlainRegion) × IsNear (job_of h x.center.state) start r
      × IsRegionFor s p h (w.handlers h) (x.center.state.handlers h).stage start)
  pub others : (h : ℕ) (r : PlainRegion) → w.count ≤ h → slice_get x.regions h ≡ Some r → r ≡ new_region p h
