use Rattle.sc_world.specs.Views.{world_in}
use Rattle.sc_play.specs.Contents.{contents_at}
use Rattle.sc_search.specs.Views.{contents_in}
use Rattle.sc_search.proofs.Numbers.{numbers_next}
use Rattle.sc_search.proofs.Stores.{grows_all}
use Rattle.sc_search.proofs.store.Store.number_regions.Goals as goal

pub loop-handler-preserved : goal.loop-handler-preserved
loop-handler-preserved c = record {
  grows = grows_all c.args.subject.program.now.image c.args.self.now c.loop-handler.self c.number_region.new.self c.loop-handler.invariant.grows c.in_ok-number.ensures.grows;
  adds = numbers_next (contents_in c.loop-handler.self) (contents_in c.number_region.new.self) (contents_at (world_in c.args.world.now).regions) c.loop-handler.handler
      c.in_ok-number.number c.args.tuple.now.items c.loop-handler.tuple.items c.push.new.self.items c.loop-handler.invariant.adds c.in_ok-number.ensures.grows.contents
      c.in_ok-number.ensures.stands c.in_ok-push.ensures.items;
}
