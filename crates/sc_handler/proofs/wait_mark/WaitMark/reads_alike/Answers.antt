use Rattle.std.proofs.Common.{slice_index}
use Rattle.sc_handler.proofs.ReadAlike.{waits_alike}
use Rattle.sc_handler.proofs.wait_mark.WaitMark.reads_alike.Goals as goal

pub returns-in-false-false : goal.returns-in-false-false
returns-in-false-false c =
    waits_alike (slice_index c.args.sessions.now) (slice_index c.args.their_sessions.now) c.args.self.now c.args.other.now c.marks_same.result
    c.in-false-false.ensures c.in-false-false.ensures' c.marks_same.ensures
