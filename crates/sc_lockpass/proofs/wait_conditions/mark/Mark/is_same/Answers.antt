use Rattle.std.proofs.Common.{◌∙◌}
use Rattle.sc_lockpass.proofs.wait_conditions.SameMarks.{same_marks}
use Rattle.sc_lockpass.proofs.wait_conditions.mark.Mark.is_same.Goals as goal

pub returns : goal.returns
returns c = same_marks c.eq.result _ _ _ _ (c.as_slice.ensures.value ∙ c.self.view_is) (c.as_slice-2.ensures.value ∙ c.other.view_is) c.eq.ensures
