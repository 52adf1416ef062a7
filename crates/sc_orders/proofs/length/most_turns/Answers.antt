use Rattle.std.proofs.Common.{IsTrue, arith, rules}
use Rattle.std.proofs.lemmas.Grind.{common_steps}
use Rattle.std.proofs.lemmas.Option.{slice_get-get_or, slice_get_within}
use Rattle.sc_orders.proofs.Ways.{at_most, told_next}
use Rattle.sc_orders.proofs.length.most_turns.Goals as goal

pub loop-edge-preserved : goal.loop-edge-preserved
loop-edge-preserved c =
    let yes : IsTrue c.is_after.result = first_of (search rules, grind (arith, common_steps)) in
    record {
      told = told_next c.args.edges.now c.args.turns.now c.loop-edge.most c.larger-most.result c.loop-edge.edge-index _ c.loop-edge.invariant.told c.larger-most.ensures.first
          (slice_get-get_or c.args.edges.now c.loop-edge.edge-index _ c.loop-edge-test.true) (c.is_after.ensures.0 yes).1 (omega (arith, c.larger-most.ensures.second, c.turns_at.ensures))
          (c.is_after.ensures.0 yes).0;
      begins = c.loop-edge.invariant.begins;
      few = omega (arith, c.loop-edge.invariant.few, c.larger-most.ensures.first);
    }

pub returns : goal.returns
returns c =
    at_most c.args.edges.now c.args.turns.now c.loop-edge.most c.loop-edge.edge-index c.loop-edge.invariant.told
    (λ place edge at. let there = slice_get_within c.args.edges.now place edge at in omega (arith, there, c.loop-edge-test.false))
    c.args.first c.loop-edge.invariant.begins c.loop-edge.invariant.few
