use Rattle.sc_lockpass.specs.Tables.{rights_of}
use Rattle.sc_request.specs.Keeping.{rights_in}
use Rattle.sc_request.proofs.KeptCores.{other_read, same_read}
use Rattle.sc_request.proofs.kept_core.KeptCore.is_same.Goals as goal

pub returns-then-are_read_alike : goal.returns-then-are_read_alike
returns-then-are_read_alike c =
    let k = c.args.self.now in
    let s = c.args.core.now.state in
    same_read k.count s.count k.handlers.items s.handlers.items c.deref.result.now c.deref-3.result.now k.sessions.items s.sessions.items c.deref-2.result.now c.deref-4.result.now
    (rights_in k.holders.items) (rights_of s.rights) c.are_read_alike.result c.deref.ensures.value c.deref-2.ensures.value c.deref-3.ensures.value c.deref-4.ensures.value
    c.are_read_alike.ensures c.has_same_rights.result c.if-self-core.false c.if-are_read_alike.true c.has_same_rights.ensures

pub returns-else-are_read_alike : goal.returns-else-are_read_alike
returns-else-are_read_alike c =
    let k = c.args.self.now in
    let s = c.args.core.now.state in
    other_read k.count s.count k.handlers.items s.handlers.items c.deref.result.now c.deref-3.result.now k.sessions.items s.sessions.items c.deref-2.result.now c.deref-4.result.now
    (rights_in k.holders.items) (rights_of s.rights) c.are_read_alike.result c.deref.ensures.value c.deref-2.ensures.value c.deref-3.ensures.value c.deref-4.ensures.value
    c.are_read_alike.ensures c.if-are_read_alike.false
