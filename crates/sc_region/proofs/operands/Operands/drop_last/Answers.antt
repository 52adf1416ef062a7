use Rattle.std.proofs.Common.{◌≡◌, ◌-◌, [], List, take, drop, ap, ◌∙◌, arith}
use Rattle.sc_region.specs.declared.value.Value.{Value}
use Rattle.sc_region.specs.OperandList.{OperandList, operands_onto}
use Rattle.sc_region.proofs.DeeperOperands.{dropped_filled}
use Rattle.sc_region.proofs.operands.Operands.drop_last.Goals as goal

pub returns : goal.returns
returns c =
    let s = c.self.inside in
    let n = c.args.count in
    let left : c.saturating_sub-self-inside.result ≡ s.count - n = omega (arith, c.saturating_sub-self-inside.ensures) in
    let with_values : List Value → OperandList = λ l. record { depth = s.depth; values = l } in
    let dropped : OperandList → OperandList = λ o. record { depth = o.depth; values = drop n o.values } in
    ap (λ k. with_values (operands_onto (take k s.items.items) [])) left
    ∙ ap with_values (dropped_filled s.items.items s.count n (omega (arith, c.self.invariant.0, c.self.invariant.1))) ∙ ap dropped c.self.view_is
