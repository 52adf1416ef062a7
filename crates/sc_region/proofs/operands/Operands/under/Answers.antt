use Rattle.std.proofs.Common.{◌-◌, ◌≤◌, [], Some, length, take, refl, sym, ap, ◌∙◌, arith}
use Rattle.std.specs.Prelude.{slice_get}
use Rattle.std.proofs.lemmas.Option.{slice_get_past}
use Rattle.sc_region.specs.OperandList.{OperandList, operands_onto}
use Rattle.sc_region.proofs.Stacks.{filled_length}
use Rattle.sc_region.proofs.DeeperOperands.{under_filled}
use Rattle.sc_region.proofs.operands.Operands.under.Goals as goal

pub returns-then-count-self : goal.returns-then-count-self
returns-then-count-self c =
    let s = c.self.inside in
    let n = c.args.count in
    ap Some c.index.ensures
    ∙ sym (under_filled s.items.items s.count n (s.count - 1 - n) c.index.result.now (omega (arith, c.self.invariant.0, c.self.invariant.1)) (omega (arith, c.if-count-self.true)) refl)
    ∙ ap (λ (o : OperandList). slice_get o.values n) c.self.view_is

pub returns-else-count-self : goal.returns-else-count-self
returns-else-count-self c =
    let s = c.self.inside in
    let os = operands_onto (take s.count s.items.items) [] in
    let many = filled_length s.items.items s.count (omega (arith, c.self.invariant.0, c.self.invariant.1)) in
    let past : length os ≤ c.args.count = omega (arith, many, c.if-count-self.false) in
    sym (slice_get_past os c.args.count past) ∙ ap (λ (o : OperandList). slice_get o.values c.args.count) c.self.view_is
