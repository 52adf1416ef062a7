use Rattle.std.proofs.Common.{slice_index, sym, ◌∙◌}
use Rattle.sc_lockpass.proofs.wait_conditions.Needed.{mark_allows-marked}
use Rattle.sc_lockpass.proofs.wait_conditions.mark.Mark.allows.Goals as goal

pub returns-else-is_empty : goal.returns-else-is_empty
returns-else-is_empty c =
    rw (← c.self.view_is)
    (c.has_any_risen.ensures
    ∙ rw c.as_slice.ensures.value
    (sym (mark_allows-marked (slice_index c.args.sessions.now) c.self.inside.counts.items (sym c.is_empty.ensures ∙ c.if-is_empty.false))))
