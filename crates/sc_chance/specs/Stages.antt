-- Programs that are opened again and again.
use Rattle.std.specs.Prelude.{◌≡◌, [], ◌∷◌, map}
use Rattle.sc_lockpass.specs.declared.version.Version.TheVariants.{Two}
use Rattle.sc_code.specs.declared.program.Image.{Image}
use Rattle.sc_play.specs.Regions.{new_region}
use Rattle.sc_request.specs.Parts.{part_at, part_of}
use Rattle.sc_world.specs.Kept.{IsOf}
use Rattle.sc_world.specs.Views.{world_in}
use Rattle.sc_world.specs.Worlds.{opened}
use Rattle.sc_chance.specs.declared.stage.Stage as coded

-- The world is one of the program, with 512 handlers at most. The region and the part that are kept are those of the
-- first handler at the opening.
pub record IsStage (program : Image) (stage : coded.Stage) : Type 0 where
  pub of : IsOf program 512 (world_in stage.configuration)
  pub regions : stage.regions.items ≡ new_region program 0 ∷ []
  pub parts : map part_of stage.parts.items ≡ part_at 0 (opened program Two).center.state ∷ []
