use Rattle.std.proofs.Common.{◌<◌, length, length-set, ap, arith}
use Rattle.sc_region.specs.OperandList.{OperandList}
use Rattle.sc_region.proofs.Stacks.{filled_length}
use Rattle.sc_region.proofs.operands.Operands.push.Goals as goal

pub invariant_of-self : goal.invariant_of-self
invariant_of-self c =
    let s = c.self.inside in
    let all = filled_length s.items.items s.count (omega (arith, c.self.invariant.0, c.self.invariant.1)) in
    let many = ap (λ (o : OperandList). length o.values) c.self.view_is in
    let most = ap (λ (o : OperandList). o.depth) c.self.view_is in
    let room : s.count < s.depth = omega (arith, c.requires, many, most, all) in
    (omega (arith, room), omega (arith, c.self.invariant.1, length-set s.items.items s.count c.args.value))
