use Rattle.std.proofs.Common.{◌∙◌, List, ap, sym}
use Rattle.std.specs.Prelude.{vec_len}
use Rattle.sc_request.specs.declared.loading.Change.{Change}
use Rattle.sc_request.specs.Loading.{changed}
use Rattle.sc_request.proofs.ChangedPlaces.{changed_last, last_below}
use Rattle.sc_request.proofs.loading.make_changes.Goals as goal

pub loop-change-preserved : goal.loop-change-preserved
loop-change-preserved c =
    let l = c.loop-change in
    let cs = c.pop.new.self.items in
    let d = c.in-Some.change in
    let last = last_below cs l.changes.items d (vec_len l.places) c.in-Some.ensures.items l.invariant.below in
    record {
      len = l.invariant.len;
      below = last.0;
      left = sym (ap (λ (ds : List Change). changed ds l.places.items) c.in-Some.ensures.items ∙ changed_last cs d l.places.items) ∙ l.invariant.left;
    }
