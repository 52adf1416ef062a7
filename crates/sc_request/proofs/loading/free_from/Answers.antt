use Rattle.std.proofs.Common.{◌∙◌, None, ap, refl, arith}
use Rattle.sc_lockpass.specs.Rights.{Rights}
use Rattle.sc_lockpass.specs.Tables.{rights_of}
use Rattle.sc_request.proofs.LoadedCores.{free_at, free_whole, other_at}
use Rattle.sc_request.proofs.loading.free_from.Goals as goal

pub loop-place-init : goal.loop-place-init
loop-place-init c = record {
  version = refl;
  queue = λ k far few. absurd (omega (arith, far, few));
  top = λ k far few. absurd (omega (arith, far, few));
  queue_past = c.reach-reach.ensures.queue;
  top_past = c.reach-reach.ensures.top;
}

pub loop-place-preserved : goal.loop-place-preserved
loop-place-preserved c =
    let l = c.loop-place in
    let n = l.place in
    let below = c.loop-place-test.true in
    record {
      version = c.set_holders.ensures.version ∙ l.invariant.version;
      queue = λ k far few. ap (λ (r : Rights). r.queue k) c.set_holders.ensures.rights ∙ free_at (rights_of l.rights).queue c.args.first n l.invariant.queue k far few;
      top = λ k far few. ap (λ (r : Rights). r.top k) c.set_holders.ensures.rights ∙ free_at (rights_of l.rights).top c.args.first n l.invariant.top k far few;
      queue_past = λ k far. ap (λ (r : Rights). r.queue k) c.set_holders.ensures.rights
          ∙ other_at (rights_of l.rights).queue n None k (λ e. omega (arith, below, far, e)) (l.invariant.queue_past k far);
      top_past = λ k far. ap (λ (r : Rights). r.top k) c.set_holders.ensures.rights
          ∙ other_at (rights_of l.rights).top n None k (λ e. omega (arith, below, far, e)) (l.invariant.top_past k far);
    }

pub returns-clause-queue : goal.returns-clause-queue
returns-clause-queue c =
    let l = c.loop-place in
    let all = c.loop-place-test.false in
    free_whole (rights_of l.rights).queue c.args.first l.place l.invariant.queue (λ k far. l.invariant.queue_past k (omega (arith, all, far)))

pub returns-clause-top : goal.returns-clause-top
returns-clause-top c =
    let l = c.loop-place in
    let all = c.loop-place-test.false in
    free_whole (rights_of l.rights).top c.args.first l.place l.invariant.top (λ k far. l.invariant.top_past k (omega (arith, all, far)))
