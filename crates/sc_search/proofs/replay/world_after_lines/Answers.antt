use Rattle.sc_search.proofs.LineTurns.{lines_more}
use Rattle.sc_search.proofs.replay.world_after_lines.Goals as goal

pub loop-line-preserved : goal.loop-line-preserved
loop-line-preserved c =
    lines_more c.args.lines.now c.loop-line.line-index (record { handler = 0; turns = 0 }) _ _ _ c.loop-line-test.true c.loop-line.invariant
    c.in_ok-turns_of.ensures.ok
