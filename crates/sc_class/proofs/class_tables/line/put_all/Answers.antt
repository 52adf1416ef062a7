use Rattle.sc_class.specs.Internal.Lines.{known_by}
use Rattle.sc_class.proofs.Lines.{put_more, put_end}
use Rattle.sc_class.proofs.class_tables.line.put_all.Goals as goal

pub loop-change-preserved : goal.loop-change-preserved
loop-change-preserved c = λ x.
    put_more x c.args.changes.now c.loop-change.change-index _ c.loop-change-test.true (known_by x c.loop-change.known) (known_by x c.put.new.known) (c.in_ok-put.ensures x) _ (c.loop-change.invariant x)

pub returns : goal.returns
returns c = λ x. put_end x c.args.changes.now c.loop-change.change-index (known_by x c.loop-change.known) _ c.loop-change-test.false (c.loop-change.invariant x)
