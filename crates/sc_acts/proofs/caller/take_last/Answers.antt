use Rattle.std.proofs.Common.{◌+◌, ◌∷◌, [], sym, ap, ◌∙◌}
use Rattle.sc_region.specs.Frames.{activation_of}
use Rattle.sc_acts.proofs.LastOperands.{taken_more}
use Rattle.sc_acts.proofs.caller.take_last.Goals as goal

pub loop-passed-preserved : goal.loop-passed-preserved
loop-passed-preserved c = record {
  values = c.insert.ensures.items
      ∙ ap (λ us. c.in-Some.value ∷ us) c.loop-passed.invariant.values
      ∙ sym (taken_more c.loop-passed.passed [] (activation_of c.args.activation.now).operands.values c.in-Some.value (sym c.under.ensures ∙ c.in-Some.is));
  many = c.insert.ensures.len ∙ ap (λ k. k + 1) c.loop-passed.invariant.many;
}
