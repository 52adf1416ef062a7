use Rattle.std.proofs.Common.{◌∙◌, arith}
use Rattle.std.proofs.lemmas.Grind.{common_steps}
use Rattle.sc_audit.proofs.WritingLemmas.{lines-begin, told, written-last, writes-first, writes-line, writes-on, writes-part, writes-rest}
use Rattle.sc_audit.proofs.writing.write_record.Goals as goal

pub loop-line-init : goal.loop-line-init
loop-line-init g c = writes-first _ c.args.lines.now c.try_extend_from_slice.new.self.items (grind (arith, common_steps))

pub returns-in_err-make_room-clause-err : goal.returns-in_err-make_room-clause-err
returns-in_err-make_room-clause-err g c =
    told _ _ (writes-part _ _ _ _ _ _ _ (lines-begin c.args.lines.now c.loop-line.line-index) c.loop-line.invariant c.in_err-make_room.ensures.err)

pub loop-line-preserved : goal.loop-line-preserved
loop-line-preserved g c =
    writes-line _ _ c.args.lines.now c.loop-line.line-index (record { handler = 0; turns = 0 }) c.make_room.new.block.items _ (omega arith)
    (writes-on _ _ _ _ _ _ c.loop-line.invariant c.in_ok-make_room.ensures.ok) c.push_line.ensures

pub returns-in_err-make_room-2-clause-err : goal.returns-in_err-make_room-2-clause-err
returns-in_err-make_room-2-clause-err g c =
    told _ _ (writes-part _ _ _ _ _ _ _ (lines-begin c.args.lines.now c.loop-line.line-index) c.loop-line.invariant c.in_err-make_room-2.ensures.err)

pub returns-clause-ok : goal.returns-clause-ok
returns-clause-ok g c =
    written-last _ _ _ c.args.lines.now c.loop-line.line-index c.make_room-2.new.block.items _ c.write_whole.result (omega arith)
    (writes-on _ _ _ _ _ _ c.loop-line.invariant c.in_ok-make_room-2.ensures.ok)
    (c.as_slice.ensures.value ∙ c.push_last_line.ensures) c.write_whole.ensures.ok

pub returns-clause-err : goal.returns-clause-err
returns-clause-err g c =
    writes-rest _ _ _ c.args.lines.now c.loop-line.line-index c.make_room-2.new.block.items _ c.write_whole.result (omega arith)
    (writes-on _ _ _ _ _ _ c.loop-line.invariant c.in_ok-make_room-2.ensures.ok)
    (c.as_slice.ensures.value ∙ c.push_last_line.ensures) c.write_whole.ensures.err
