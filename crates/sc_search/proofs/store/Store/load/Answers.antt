use Rattle.std.proofs.Common.{◌∙◌, Some, sym, ap, arith}
use Rattle.std.proofs.lemmas.List.{length-map}
use Rattle.sc_lockpass.specs.Versions.{most_handlers}
use Rattle.sc_world.specs.Views.{world_in}
use Rattle.sc_world.specs.Kept.{PlainKept}
use Rattle.sc_search.specs.Tuples.{state_by}
use Rattle.sc_search.specs.Views.{contents_in, parts_in, tuples_in}
use Rattle.sc_search.proofs.Stores.{by_numbers, loadable, state_at}
use Rattle.sc_search.proofs.store.Store.load.Goals as goal

pub tuple-requires : goal.tuple-requires
tuple-requires c =
    let s = c.args.self.now in
    omega (arith, c.requires.there, length-map (tuples_in s) (state_by (contents_in s) (parts_in s)))

pub numbers_of-requires : goal.numbers_of-requires
numbers_of-requires c =
    let is = c.requires.stored.numbered c.args.number c.tuple.result.now c.tuple.ensures in
    omega (arith, is.whole)

pub load-requires : goal.load-requires
load-requires c = record {
  loadable = loadable c.args.subject.program.now.image (most_handlers c.args.subject.version) (world_in c.args.world.now) c.args.self.now (record { regions = c.values.result; parts = c.values-2.result }) c.numbers_of.result c.args.number
      c.tuple.result.now c.values.ensures c.values-2.ensures c.numbers_of.ensures.count c.numbers_of.ensures.regions c.numbers_of.ensures.parts c.tuple.ensures
      c.requires.stored c.requires.of c.requires.backed;
}

pub returns-clause-of : goal.returns-clause-of
returns-clause-of c = c.in_ok-load.ensures.of c.args.subject.program.now.image (most_handlers c.args.subject.version) c.requires.of

pub returns-clause-kept : goal.returns-clause-kept
returns-clause-kept c =
    state_at c.args.self.now c.args.number c.tuple.result.now c.tuple.ensures
    ∙ ap (λ (k : PlainKept). Some k)
    (sym (c.in_ok-load.ensures.kept
    ∙ by_numbers c.args.self.now (record { regions = c.values.result; parts = c.values-2.result }) c.numbers_of.result c.tuple.result.now c.values.ensures c.values-2.ensures c.numbers_of.ensures.count c.numbers_of.ensures.regions
    c.numbers_of.ensures.parts))
