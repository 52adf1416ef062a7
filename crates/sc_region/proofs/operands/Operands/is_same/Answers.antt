use Rattle.std.proofs.Common.{[], take, sym, ap, ◌∙◌, arith}
use Rattle.sc_region.specs.OperandList.{OperandList, operands_onto}
use Rattle.sc_region.proofs.Sameness.{same_operands}
use Rattle.sc_region.proofs.operands.Operands.is_same.Goals as goal

pub returns-then-self-other : goal.returns-then-self-other
returns-then-self-other c =
    let n = c.self.inside.count in
    let m = c.other.inside.count in
    let values = λ (o : OperandList). o.values in
    let depth = λ (o : OperandList). o.depth in
    same_operands c.same_values.result c.args.self.now c.args.other.now (take n c.deref.result.now) (take m c.deref-then-self-other.result.now)
    (sym (ap values c.self.view_is) ∙ ap (λ vs. operands_onto (take n vs) []) (sym c.deref.ensures.value))
    (sym (ap values c.other.view_is) ∙ ap (λ vs. operands_onto (take m vs) []) (sym c.deref-then-self-other.ensures.value))
    (omega (arith, ap depth c.self.view_is, ap depth c.other.view_is, c.if-self-other.true))
    c.same_values.ensures
