use Rattle.std.proofs.Common.{◌∙◌, Some, ap}
use Rattle.sc_world.specs.Views.{world_in}
use Rattle.sc_request.specs.Logs.{Center}
use Rattle.sc_request.specs.Parts.{part_at}
use Rattle.sc_search.specs.Views.{parts_in}
use Rattle.sc_search.proofs.Numbers.{numbers_next}
use Rattle.sc_search.proofs.Stores.{grows_all}
use Rattle.sc_search.proofs.store.Store.number_parts.Goals as goal

pub loop-handler-preserved : goal.loop-handler-preserved
loop-handler-preserved c = record {
  grows = grows_all c.args.subject.program.now.image c.args.self.now c.loop-handler.self c.number_part.new.self c.loop-handler.invariant.grows c.in_ok-number.ensures.grows;
  adds = numbers_next (parts_in c.loop-handler.self) (parts_in c.number_part.new.self) (λ h. part_at h (world_in c.args.world.now).center.state) c.loop-handler.handler
      c.in_ok-number.number c.args.tuple.now.items c.loop-handler.tuple.items c.push.new.self.items c.loop-handler.invariant.adds c.in_ok-number.ensures.grows.parts
      (c.in_ok-number.ensures.stands ∙ ap (λ (d : Center). Some (part_at c.loop-handler.handler d.state)) c.core.ensures.center) c.in_ok-push.ensures.items;
}
