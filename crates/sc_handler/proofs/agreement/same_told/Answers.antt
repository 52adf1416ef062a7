use Rattle.sc_handler.proofs.Packing.{others_tell, same_tell}
use Rattle.sc_handler.proofs.agreement.same_told.Goals as goal

pub returns-then-same_packed : goal.returns-then-same_packed
returns-then-same_packed c =
    same_tell c.same_first.result c.args.a.now c.args.b.now c.args.values.now c.args.its.now c.values.result c.values-then-same_packed.result
    c.requires.there c.requires.its_there (c.same_packed.ensures.0 c.if-same_packed.true) c.values.ensures c.values-then-same_packed.ensures
    c.same_first.ensures

pub returns-else-same_packed : goal.returns-else-same_packed
returns-else-same_packed c =
    others_tell c.same_packed.result c.args.a.now c.args.b.now c.args.values.now c.args.its.now c.requires.there c.requires.its_there
    c.same_packed.ensures.1 c.if-same_packed.false
