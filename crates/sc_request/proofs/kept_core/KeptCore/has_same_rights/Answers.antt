use Rattle.std.proofs.Common.{◌≤◌, length, refl, arith}
use Rattle.sc_lockpass.specs.Tables.{rights_of}
use Rattle.sc_request.proofs.KeptCores.{differs, nobody_past, same_holders, same_rights}
use Rattle.sc_request.proofs.kept_core.KeptCore.has_same_rights.Goals as goal

pub returns-then-not-has_same_holders : goal.returns-then-not-has_same_holders
returns-then-not-has_same_holders c =
    let xs = c.args.self.now.holders.items in
    let r = rights_of c.args.rights.now in
    differs c.has_same_holders.result c.if-not-has_same_holders.true c.has_same_holders.ensures (same_holders xs r c.loop-handler.handler)

pub returns : goal.returns
returns c =
    let xs = c.args.self.now.holders.items in
    let few : length xs ≤ 512 = omega (arith, c.args.self.now.few, c.args.self.now.holders.ok.0) in (
      λ yes. same_rights xs (rights_of c.args.rights.now) 512 (λ k past. nobody_past xs k (omega (arith, few, past)))
          (λ k past. c.reach.ensures.queue k (omega (arith, past, c.reach.ensures.most))) (λ k past. c.reach.ensures.top k (omega (arith, past, c.reach.ensures.most)))
          (λ k below. c.loop-handler.invariant k (omega (arith, below, c.loop-handler-test.false))),
      λ same. refl,
    )
