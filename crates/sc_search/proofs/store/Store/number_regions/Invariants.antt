use Rattle.sc_world.specs.Views.{world_in}
use Rattle.sc_play.specs.Contents.{contents_at}
use Rattle.sc_search.specs.Numbering.{AddsNumbers}
use Rattle.sc_search.specs.Stored.{Grows}
use Rattle.sc_search.specs.Views.{contents_in}
use Rattle.sc_search.proofs.store.Store.number_regions.Given as goal

-- those of the handlers before are added
abbrev pub invariant-loop-handler : goal.invariant-loop-handler
invariant-loop-handler l = record {
  grows : Grows l.subject.program.now.image l.fn.self l.self;
  adds : AddsNumbers (contents_in l.self) (contents_at (world_in l.world).regions) l.handler l.fn.tuple.items l.tuple.items;
}
