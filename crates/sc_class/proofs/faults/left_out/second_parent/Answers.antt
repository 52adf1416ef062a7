use Rattle.std.proofs.Common.{List, ◌≡◌, subst}
use Rattle.std.specs.Prelude.{slice_get}
use Rattle.std.specs.Option.{option_copied}
use Rattle.sc_tree.specs.View.{class_of, parent_of}
use Rattle.sc_class.proofs.Anys.{read_at, got}
use Rattle.sc_class.proofs.LeftOutLemmas.{second_at}
use Rattle.sc_class.proofs.faults.left_out.second_parent.Goals as goal

pub returns : goal.returns
unfolding class_of
returns c = second_at (class_of c.args.class.now) (parent_of c.in_ok-second.second.now) (read_at parent_of c.args.class.now.parents.items 1 c.get.result c.in_ok-second.second (subst (λ (ps : List _). option_copied c.get.result ≡ slice_get ps 1) c.deref.ensures.value (got c.deref.result.now 1 c.get.result c.get.ensures.lookup)) c.in_ok-second.was)
