use Rattle.sc_world.specs.Views.{world_of}
use Rattle.sc_world.proofs.FreeHandlers.{free_meet, got_region}
use Rattle.sc_world.proofs.laws.free_objects_meet.Goals as goal

pub returns-in-Some : goal.returns-in-Some
returns-in-Some c =
    let stands = got_region c.deref.result.now c.args.world.now.configuration.regions.items c.args.handler c.get.result c.in-Some.region c.get.ensures.lookup c.in-Some.is c.deref.ensures.value in
    free_meet c.args.handler (world_of c.args.world.now) c.in-Some.region.now c.args.world.now.configuration.linked stands c.settled_objects_meet.ensures
