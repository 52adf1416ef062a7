use Rattle.std.proofs.Common.{arith}
use Rattle.std.proofs.lemmas.List.{length-map}
use Rattle.sc_search.specs.Tuples.{state_by}
use Rattle.sc_search.specs.Views.{contents_in, parts_in, tuples_in}
use Rattle.sc_search.proofs.store.Store.region.Goals as goal

pub tuple-requires : goal.tuple-requires
tuple-requires c =
    let s = c.args.self.now in
    omega (arith, c.requires, length-map (tuples_in s) (state_by (contents_in s) (parts_in s)))
