-- Turns that a handler makes under one job.
use Rattle.std.specs.Prelude.{◌≡◌, ◌<◌, ◌↔◌, ℕ, Bool, IsTrue, Some}
use Rattle.sc_region.specs.declared.job.Job.{Job}
use Rattle.sc_region.specs.declared.job.Want.{Want}
use Rattle.sc_region.specs.declared.job.Want.TheVariants as want
use Rattle.sc_request.specs.Logs.{Center}
use Rattle.sc_play.specs.Regions.{PlainRegion}
use Rattle.sc_world.specs.Turning.{Makes, Settles}
use Rattle.sc_world.specs.Worlds.{PlainWorld}

-- The turns that a handler made under its job were cut short: the last asks nothing, and there might be more of them.
-- So memory was refused to the next.
abbrev pub AreCutShort : ℕ → ℕ → Want → Type 0
AreCutShort limit turns asked = (turns < limit) × (asked ≡ want.Continue)

-- The handler, which is out with the job, plays this number of turns under it, and is settled. It is known whether
-- they were cut short.
pub record Played (limit h : ℕ) (j : Job) (turns most : ℕ) (c d : Center) (x y : PlainRegion)
    (told : Bool) : Type 0 where
  pub settles : Settles limit h j turns most c d x y
  pub tells : IsTrue told ↔ AreCutShort limit turns settles.outcome.want

-- as `Played`, under the job with which the handler is out, whatever that is
abbrev pub PlaysOut : ℕ → ℕ → ℕ → ℕ → Center → Center → PlainRegion → PlainRegion → Bool → Type 0
PlaysOut limit h turns most c d x y told = (j : Job) → c.out h ≡ Some j → Played limit h j turns most c d x y told

-- The handler makes this number of turns under its job, and memory is refused to none of them: if the last wants
-- nothing, they are all that it might make.
pub record MakesAll (limit h : ℕ) (j : Job) (turns : ℕ) (x y : PlainWorld) : Type 0 where
  pub makes : Makes limit h j turns x y
  pub all : makes.settles.outcome.want ≡ want.Continue → turns ≡ limit

-- The handler makes this number of turns under its job, and memory is refused to the next.
pub record MakesSome (limit h : ℕ) (j : Job) (turns : ℕ) (x y : PlainWorld) : Type 0 where
  pub makes : Makes limit h j turns x y
  pub cut_short : AreCutShort limit turns makes.settles.outcome.want
