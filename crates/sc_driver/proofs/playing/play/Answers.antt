use Rattle.sc_driver.proofs.Turns.{lines-more}
use Rattle.sc_driver.proofs.playing.play.Goals as goal

pub loop-line-preserved : goal.loop-line-preserved
loop-line-preserved c =
    lines-more c.args.lines.now c.loop-line.line-index (record { handler = 0; turns = 0 }) _ _ _ c.loop-line-test.true c.loop-line.invariant
    c.in_ok-turns_of.ensures.ok
