use Rattle.std.proofs.Common.{length, ap, ◌∙◌, arith}
use Rattle.std.proofs.lemmas.List.{length-take-le}
use Rattle.std.specs.Prelude.{take}
use Rattle.sc_region.proofs.Stacks.{operands_length}
use Rattle.sc_region.specs.OperandList.{OperandList}
use Rattle.sc_acts.proofs.LastOperands.{pushed_on}
use Rattle.sc_acts.proofs.caller.push_all.Goals as goal

pub push-requires : goal.push-requires
push-requires c =
    let i = c.loop-value.value-index in
    let us = c.args.values.now in
    let vs = c.args.operands.now.values in
    let many = ap (λ (o : OperandList). length o.values) c.loop-value.invariant ∙ operands_length (take i us) vs in
    let few = length-take-le i us c.loop-value.auto.value-index-end in
    let depth = ap (λ (o : OperandList). o.depth) c.loop-value.invariant in
    omega (arith, many, few, depth, c.loop-value-test.true, c.requires)

pub loop-value-preserved : goal.loop-value-preserved
loop-value-preserved c =
    pushed_on c.args.operands.now c.loop-value.operands c.push.new.self c.args.values.now c.loop-value.value-index _ c.loop-value.invariant c.loop-value-test.true c.push.ensures
