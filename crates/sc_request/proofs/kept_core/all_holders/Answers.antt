use Rattle.std.proofs.Common.{arith}
use Rattle.sc_lockpass.specs.Tables.{rights_of}
use Rattle.sc_request.proofs.KeptCores.{held_more, nobody_past, same_rights}
use Rattle.sc_request.proofs.kept_core.all_holders.Goals as goal

pub loop-handler-preserved : goal.loop-handler-preserved
loop-handler-preserved c =
    let l = c.loop-handler in
    let count = l.invariant.count in
    let own = l.holders.ok.0 in
    let len = c.in_ok-push.ensures.len in
    record {
      count = omega (arith, count, len);
      held = held_more l.holders.items c.push.new.self.items c.holders_of.result l.handler (rights_of c.args.rights.now) (omega (arith, count, own)) c.in_ok-push.ensures.items
          c.holders_of.ensures l.invariant.held;
    }

pub returns-clause-rights : goal.returns-clause-rights
returns-clause-rights c =
    let l = c.loop-handler in
    let count = l.invariant.count in
    let own = l.holders.ok.0 in
    let all = c.loop-handler-test.false in
    same_rights l.holders.items (rights_of c.args.rights.now) l.handler (λ k past. nobody_past l.holders.items k (omega (arith, past, count, own)))
    (λ k past. c.reach-reach.ensures.queue k (omega (arith, past, all))) (λ k past. c.reach-reach.ensures.top k (omega (arith, past, all))) l.invariant.held
