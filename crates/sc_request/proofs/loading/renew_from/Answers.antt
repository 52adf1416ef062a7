use Rattle.std.proofs.Common.{◌∙◌, arith}
use Rattle.sc_request.proofs.ChangedPlaces.{new_from, new_more}
use Rattle.sc_request.proofs.loading.renew_from.Goals as goal

pub loop-place-preserved : goal.loop-place-preserved
loop-place-preserved c =
    let l = c.loop-place in
    let far = l.invariant.far in
    record {
      len = c.renew.ensures.len ∙ l.invariant.len;
      far = omega (arith, far);
      before = λ k few. c.renew.ensures.others k (λ e. omega (arith, few, far, e)) ∙ l.invariant.before k few;
      new = new_more c.args.first l.place l.places.items c.renew.new.places.items c.renew.ensures.others c.renew.ensures.new c.renew.ensures.home l.invariant.new;
      rest = λ k past. c.renew.ensures.others k (λ e. omega (arith, past, e)) ∙ l.invariant.rest k (omega (arith, past));
    }

pub returns-clause-new : goal.returns-clause-new
returns-clause-new c =
    let l = c.loop-place in
    let all = c.loop-place-test.false in
    new_from c.args.first c.args.used l.place l.places.items c.args.places.now.items c.requires.new all l.invariant.rest l.invariant.new
