use Rattle.std.proofs.Common.{List, Bool, subst}
use Rattle.sc_orders.specs.Marks.{AllGoOn}
use Rattle.sc_orders.proofs.Ways.{leads_for}
use Rattle.sc_orders.proofs.length.go_on.Goals as goal

pub returns : goal.returns
returns c = λ is.
    leads_for c.args.edges.now c.args.left.now c.in_ok-followed.followed.items c.in_ok-met.met.items c.in_ok-followed.ensures c.in_ok-met.ensures
    (subst (λ (ms : List Bool). AllGoOn c.args.left.now c.in_ok-followed.followed.items ms) c.deref-2.ensures.value
    (subst (λ (ms : List Bool). AllGoOn c.args.left.now ms c.deref-2.result.now) c.deref.ensures.value (c.all_go_on.ensures is)))
