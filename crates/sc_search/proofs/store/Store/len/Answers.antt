use Rattle.std.proofs.Common.{◌∙◌, sym}
use Rattle.std.proofs.lemmas.List.{length-map}
use Rattle.sc_search.specs.Tuples.{state_by}
use Rattle.sc_search.specs.Views.{contents_in, parts_in, tuples_in}
use Rattle.sc_search.proofs.store.Store.len.Goals as goal

pub returns : goal.returns
returns c = let s = c.args.self.now in c.len.ensures.tuples ∙ sym (length-map (tuples_in s) (state_by (contents_in s) (parts_in s)))
