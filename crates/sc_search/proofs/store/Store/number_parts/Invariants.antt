use Rattle.sc_world.specs.Views.{world_in}
use Rattle.sc_request.specs.Parts.{part_at}
use Rattle.sc_search.specs.Numbering.{AddsNumbers}
use Rattle.sc_search.specs.Stored.{Grows}
use Rattle.sc_search.specs.Views.{parts_in}
use Rattle.sc_search.proofs.store.Store.number_parts.Given as goal

-- those of the handlers before are added
abbrev pub invariant-loop-handler : goal.invariant-loop-handler
invariant-loop-handler l = record {
  grows : Grows l.subject.program.now.image l.fn.self l.self;
  adds : AddsNumbers (parts_in l.self) (λ h. part_at h (world_in l.world).center.state) l.handler l.fn.tuple.items l.tuple.items;
}
