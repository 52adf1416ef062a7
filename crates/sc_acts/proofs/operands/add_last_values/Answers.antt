use Rattle.std.proofs.Common.{◌≡◌, ◌-◌, sym, ◌∙◌, arith}
use Rattle.sc_region.specs.Frames.{activation_of}
use Rattle.sc_acts.proofs.AddedOperands.{added_all, added_more}
use Rattle.sc_acts.proofs.operands.add_last_values.Goals as goal

pub loop-passed-preserved : goal.loop-passed-preserved
loop-passed-preserved c = record {
  values = added_more _ c.loop-passed.values.items _ (activation_of c.args.activation.now).operands.values c.in-Some.value c.args.count c.loop-passed.passed
      c.loop-passed-test.true (sym c.under.ensures ∙ c.in-Some.is) c.push.ensures.items c.loop-passed.invariant.values;
  many = omega (arith, c.push.ensures.len, c.loop-passed.invariant.many);
}

pub returns : goal.returns
returns c =
    let none : c.args.count - c.loop-passed.passed ≡ 0 = omega (arith, c.loop-passed-test.false) in
    added_all _ c.loop-passed.values.items (activation_of c.args.activation.now).operands.values _ none c.loop-passed.invariant.values
