use Rattle.sc_class.proofs.CycleLemmas.{saw}
use Rattle.sc_check.proofs.purity.search.Search.mark_impure.Goals as goal

pub returns : goal.returns
returns c = saw c.args.self.now.impure.items c.args.self.now.todo.items c.push.new.self.items c.args.number c.index.result.now c.requires c.index.ensures c.if-index.false c.in_ok-push.ensures.items
