use Rattle.std.proofs.Common.{arith, sym, ◌∙◌}
use Rattle.sc_lockpass.proofs.wait_conditions.Needed.{needed-take, length-with_new}
use Rattle.sc_lockpass.proofs.wait_conditions.entry.Entry.needed.Goals as goal

pub loop-value-preserved : goal.loop-value-preserved
loop-value-preserved c = record {
  few = rw c.push_new.ensures (omega (arith, length-with_new c.loop-value.needed.items c.unheld.result, c.loop-value.invariant.few));
  found = c.push_new.ensures ∙ rw (c.loop-value.invariant.found, c.unheld.ensures) (sym (needed-take _ _ _ _ _ c.loop-value-test.true));
}
