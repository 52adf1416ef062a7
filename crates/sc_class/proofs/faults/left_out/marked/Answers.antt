use Rattle.sc_tree.specs.View.{class_of, mark_of}
use Rattle.sc_class.proofs.LeftOutLemmas.{marked_at, mark_seen}
use Rattle.sc_class.proofs.faults.left_out.marked.Goals as goal

pub returns : goal.returns
unfolding class_of
returns c = marked_at (class_of c.args.class.now) (mark_of c.in_ok-mark.mark.now) c.kind_of_mark.result (mark_seen c.args.class.now.mark c.as_ref.result c.in_ok-mark.mark c.as_ref.ensures.value c.in_ok-mark.was) c.kind_of_mark.ensures
