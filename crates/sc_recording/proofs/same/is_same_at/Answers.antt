use Rattle.std.proofs.Common.{refl}
use Rattle.sc_request.specs.Cores.{center_of}
use Rattle.sc_world.specs.Views.{world_of}
use Rattle.sc_recording.specs.Same.{world_in}
use Rattle.sc_recording.proofs.SameHandlers.{told-same}
use Rattle.sc_recording.proofs.same.is_same_at.Goals as goal

pub returns-then-are_same_regions : goal.returns-then-are_same_regions
returns-then-are_same_regions c =
    λ most. told-same c.args.handler (world_of c.args.world.now) (world_in most c.args.core.now c.args.regions.now) (center_of c.core.result.now)
    (center_of c.args.core.now) c.is_same_at.result c.core.ensures.center refl (c.are_same_regions.ensures.0 c.if-are_same_regions.true)
    c.is_same_at.ensures.0 c.is_same_at.ensures.1
