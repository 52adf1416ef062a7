use Rattle.sc_region.proofs.SettledObjects.{top_keeps}
use Rattle.sc_region.proofs.store.Store.top_mut.Goals as goal

pub invariant_of-self-lent : goal.invariant_of-self-lent
invariant_of-self-lent c = λ r. ((λ w. top_keeps c.self.inside.state w c.self.invariant), c.self.invariant)
