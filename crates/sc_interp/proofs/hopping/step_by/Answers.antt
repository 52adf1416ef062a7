use Rattle.std.proofs.Common.{sym, subst}
use Rattle.sc_code.specs.declared.operation.Operation as coded
use Rattle.sc_interp.specs.Playing.{Plays}
use Rattle.sc_interp.specs.Standing.{stepped}
use Rattle.sc_interp.proofs.hopping.step_by.Goals as goal

pub returns-in-PushAttribute-clause-plays : goal.returns-in-PushAttribute-clause-plays
returns-in-PushAttribute-clause-plays c =
    subst (λ (o : coded.Operation). Plays c.args.me c.args.count o (stepped c.push_attribute.result) c.args.store.now c.push_attribute.new.store) (sym c.in-PushAttribute.is) c.push_attribute.ensures.plays

pub returns-in-StoreAttribute-clause-plays : goal.returns-in-StoreAttribute-clause-plays
returns-in-StoreAttribute-clause-plays c =
    subst (λ (o : coded.Operation). Plays c.args.me c.args.count o (stepped c.store_attribute.result) c.args.store.now c.store_attribute.new.store) (sym c.in-StoreAttribute.is) c.store_attribute.ensures.plays
