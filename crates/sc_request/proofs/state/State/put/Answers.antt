use Rattle.std.proofs.Common.{◌∙◌, List, ap, arith}
use Rattle.std.specs.Prelude.{slice_get, vec_len}
use Rattle.sc_handler.specs.declared.handler.Handler as coded
use Rattle.sc_request.proofs.ChangedPlaces.{below_more, changed_alike, new_past}
use Rattle.sc_request.proofs.state.State.put.Goals as goal

pub make_changes-requires : goal.make_changes-requires
make_changes-requires c =
    let s = c.args.self.now in
    let all = s.places in
    let same = c.renew_from.ensures.len in
    let few = c.requires.few in
    below_more c.args.changes.now.items c.args.first_new (vec_len c.renew_from.new.places) (omega (arith, all, same, few)) c.requires.within

pub returns-clause-changed : goal.returns-clause-changed
returns-clause-changed c = λ k few.
    ap (λ (zs : List coded.Handler). slice_get zs k) c.make_changes.ensures.changed
    ∙ changed_alike c.args.changes.now.items c.renew_from.new.places.items c.args.self.now.handlers.items k (c.renew_from.ensures.before k few)

pub returns-clause-new : goal.returns-clause-new
returns-clause-new c =
    new_past c.args.changes.now.items c.renew_from.new.places.items c.make_changes.new.places.items c.args.first_new c.make_changes.ensures.changed c.requires.within
    c.renew_from.ensures.new

pub invariant_of-self : goal.invariant_of-self
invariant_of-self c = record {
  some = c.requires.most;
  places = c.make_changes.ensures.len ∙ c.renew_from.ensures.len ∙ c.args.self.now.places;
  counts = c.clear_counts.ensures.len ∙ c.args.self.now.counts;
}
