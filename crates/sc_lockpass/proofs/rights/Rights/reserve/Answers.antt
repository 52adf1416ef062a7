use Rattle.std.proofs.Common.{arith}
use Rattle.sc_lockpass.proofs.Listings.{most_handlers-le}
use Rattle.sc_lockpass.proofs.rights.Rights.reserve.Goals as goal

pub invariant_of-self : goal.invariant_of-self
invariant_of-self c = record {
  most = c.reach_with-self-inside.ensures.most 512 c.self.invariant.most
      (λ k d h. omega (arith, most_handlers-le c.args.self.now.version, c.requires.listed k d h));
  queue = λ k h. rw (c.assign.ensures k, c.reach_with-self-inside.ensures.above k h) (c.self.invariant.queue k (omega (arith, c.reach_with-self-inside.ensures.least)));
  top = λ k h. c.self.invariant.top k (omega (arith, c.reach_with-self-inside.ensures.least));
}
