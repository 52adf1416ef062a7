use Rattle.std.proofs.Common.{◌≡◌, [], ℕ, length, take, drop, length-drop, ap, ◌∙◌, arith}
use Rattle.std.specs.Prelude.{nat_lt}
use Rattle.sc_region.specs.OperandList.{OperandList, operands_onto}
use Rattle.sc_region.proofs.Stacks.{filled_length}
use Rattle.sc_region.proofs.operands.Operands.has_room_under.Goals as goal

pub returns : goal.returns
returns c =
    let s = c.self.inside in
    let n = c.args.count in
    let os = operands_onto (take s.count s.items.items) [] in
    let many = filled_length s.items.items s.count (omega (arith, c.self.invariant.0, c.self.invariant.1)) in
    let same : c.saturating_sub.result ≡ length (drop n os) = omega (arith, length-drop n os, many, c.saturating_sub.ensures) in
    ap (λ (k : ℕ). nat_lt k s.depth) same ∙ ap (λ (o : OperandList). nat_lt (length (drop n o.values)) o.depth) c.self.view_is
