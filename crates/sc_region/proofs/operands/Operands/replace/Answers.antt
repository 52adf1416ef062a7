use Rattle.std.proofs.Common.{◌-◌, ◌<◌, ◌≤◌, ◌∷◌, List, length, drop, ap, ◌∙◌, arith}
use Rattle.sc_region.specs.declared.value.Value.{Value}
use Rattle.sc_region.specs.OperandList.{OperandList}
use Rattle.sc_region.proofs.Stacks.{filled_length, filled_push}
use Rattle.sc_region.proofs.DeeperOperands.{dropped_filled}
use Rattle.sc_region.proofs.operands.Operands.replace.Goals as goal

pub returns : goal.returns
returns c =
    let s = c.self.inside in
    let vs = s.items.items in
    let n = c.args.count in
    let v = c.args.value in
    let small : s.count ≤ length vs = omega (arith, c.self.invariant.0, c.self.invariant.1) in
    let many = ap (λ (o : OperandList). length o.values) c.self.view_is in
    let all = filled_length vs s.count small in
    let here : s.count - n < length vs = omega (arith, small, c.requires.some, c.requires.many, many, all) in
    let with_values : List Value → OperandList = λ l. record { depth = s.depth; values = l } in
    let replaced : OperandList → OperandList = λ o. record { depth = o.depth; values = v ∷ drop n o.values } in
    ap with_values (filled_push vs (s.count - n) v here)
    ∙ ap (λ l. with_values (v ∷ l)) (dropped_filled vs s.count n small)
    ∙ ap replaced c.self.view_is
