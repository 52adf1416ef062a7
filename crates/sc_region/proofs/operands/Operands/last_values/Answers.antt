use Rattle.std.proofs.Common.{◌-◌, ◌≤◌, List, length, take, drop, refl, ap, ◌∙◌, arith}
use Rattle.sc_region.specs.Calls.{last_values}
use Rattle.sc_region.specs.OperandList.{OperandList}
use Rattle.sc_region.specs.declared.value.Value.{Value}
use Rattle.sc_region.proofs.Stacks.{filled_length}
use Rattle.sc_region.proofs.DeeperOperands.{last_filled}
use Rattle.sc_region.proofs.operands.Operands.last_values.Goals as goal

pub returns : goal.returns
returns c =
    let s = c.self.inside in
    let n = c.args.count in
    let all = filled_length s.items.items s.count (omega (arith, c.self.invariant.0, c.self.invariant.1)) in
    let many = ap (λ (o : OperandList). length o.values) c.self.view_is in
    let few : n ≤ s.count = omega (arith, c.requires, many, all) in
    ap (λ (l : List Value). take (s.count - (s.count - n)) (drop (s.count - n) l)) c.deref.ensures.value
    ∙ last_filled s.items.items s.count n (s.count - n) (omega (arith, c.self.invariant.0, c.self.invariant.1)) few refl
    ∙ ap (λ (o : OperandList). last_values n o.values) c.self.view_is
