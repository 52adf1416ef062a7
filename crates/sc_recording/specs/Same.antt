-- When two worlds hold the same.
use Rattle.std.specs.Prelude.{◌<◌, ℕ, List, Option, Some, None, slice_get}
use Rattle.sc_region.specs.Stores.{AreSame}
use Rattle.sc_request.specs.declared.center.Core as coded
use Rattle.sc_request.specs.Cores.{center_of}
use Rattle.sc_request.specs.Same.{AreSameAt}
use Rattle.sc_play.specs.Regions.{PlainRegion}
use Rattle.sc_world.specs.Worlds.{PlainWorld, max_handlers}

-- The regions hold equal objects, frames, output and failure; or there is neither.
abbrev pub AreSameRegions : Option PlainRegion → Option PlainRegion → Type 0
AreSameRegions (Some x) (Some y) = AreSame x.store y.store
AreSameRegions (Some x) None = ⊥
AreSameRegions None (Some y) = ⊥
AreSameRegions None None = Unit {0}

-- The worlds are alike at the handler: its region, and what the core has of it.
pub record IsSameAt (h : ℕ) (w v : PlainWorld) : Type 0 where
  pub region : AreSameRegions (slice_get w.regions h) (slice_get v.regions h)
  pub center : AreSameAt h w.center v.center

-- They are alike at each handler.
abbrev pub IsSame : PlainWorld → PlainWorld → Type 0
IsSame w v = (h : ℕ) → h < max_handlers → IsSameAt h w v

-- The handler is the lowest at which they aren't.
pub record FirstDiffers (h : ℕ) (w v : PlainWorld) : Type 0 where
  pub there : h < max_handlers
  pub differs : IsSameAt h w v → ⊥
  pub same_below : (k : ℕ) → k < h → IsSameAt k w v

-- the world of a core and the regions beside it, with this limit on handlers
abbrev pub world_in : ℕ → coded.Core → List PlainRegion → PlainWorld
world_in most core regions = record { most = most; center = center_of core; regions = regions }
