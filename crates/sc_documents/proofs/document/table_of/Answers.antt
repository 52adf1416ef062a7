use Rattle.std.proofs.Common.{◌+◌, ◌≤◌, ◌∙◌, length, refl, arith}
use Rattle.std.proofs.lemmas.Grind.{common_steps}
use Rattle.sc_documents.proofs.Tables.{found, lines_fit, longer, units_fit}
use Rattle.sc_documents.proofs.document.table_of.Goals as goal

pub advanced-mark-requires-clause-lines : goal.advanced-mark-requires-clause-lines
advanced-mark-requires-clause-lines c =
    lines_fit _ _ _ _ c.as_bytes-bytes.ensures.value c.loop-start.invariant.mark (grind (arith, common_steps))

pub advanced-mark-requires-clause-characters : goal.advanced-mark-requires-clause-characters
advanced-mark-requires-clause-characters c =
    units_fit _ _ _ _ c.as_bytes-bytes.ensures.value c.loop-start.invariant.mark (grind (arith, common_steps))

pub loop-start-preserved : goal.loop-start-preserved
loop-start-preserved c =
    let was = c.loop-start.invariant in
    let within : c.loop-start.start + 256 ≤ length c.args.text.now = grind (arith, common_steps, c.loop-start-test, was.within) in
    let mark = c.advanced-mark.ensures ∙ found _ _ _ _ _ (c.loop-start.start + 256) c.as_bytes-bytes.ensures.value was.mark refl in
    record {
      table = rw c.in_ok-push-2.ensures.items (longer _ _ _ _ was.table was.next within mark);
      next = grind (arith, common_steps, c.in_ok-push-2.ensures.items, was.next);
      within = grind (arith, common_steps, within);
      mark = mark;
    }
