use Rattle.std.proofs.Common.{◌≡◌, ◌%◌, length, ap, arith}
use Rattle.sc_interning.proofs.Chained.{chained_push}
use Rattle.sc_interning.proofs.index.Index.push.Goals as goal

pub invariant_of-self-2-clause-chained : goal.invariant_of-self-2-clause-chained
invariant_of-self-2-clause-chained c =
    let self = c.if-len.self in
    let count : c.len-3.result ≡ length self.firsts.items = omega (arith, c.len-3.ensures, self.firsts.ok.0) in
    chained_push self.links.items _ self.firsts.items c.args.hash _ _ _ self.chained self.some (ap (λ n. c.args.hash % n) count) c.index-next.ensures
    (omega (arith, c.len-number.ensures, self.links.ok.0)) c.in_ok-push.ensures.items
