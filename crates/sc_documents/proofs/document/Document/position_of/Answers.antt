use Rattle.std.proofs.Common.{arith, refl, ◌∙◌}
use Rattle.std.proofs.lemmas.Grind.{common_steps}
use Rattle.sc_documents.proofs.Tables.{found, lent, lines_fit, units_fit}
use Rattle.sc_documents.proofs.document.Document.position_of.Goals as goal

pub advanced-requires-clause-lines : goal.advanced-requires-clause-lines
advanced-requires-clause-lines c =
    lines_fit _ _ _ _ c.as_bytes-bytes.ensures.value
    (lent _ _ _ _ _ _ _ c.self.invariant c.get.ensures.lookup c.deref.ensures.value c.in-Some.is refl) (grind (arith, common_steps))

pub advanced-requires-clause-characters : goal.advanced-requires-clause-characters
advanced-requires-clause-characters c =
    units_fit _ _ _ _ c.as_bytes-bytes.ensures.value
    (lent _ _ _ _ _ _ _ c.self.invariant c.get.ensures.lookup c.deref.ensures.value c.in-Some.is refl) (grind (arith, common_steps))

pub returns-in-Some : goal.returns-in-Some
returns-in-Some c =
    rw (← c.self.view_is) (c.advanced.ensures ∙ found _ _ _ _ _ c.args.offset c.as_bytes-bytes.ensures.value
    (lent _ _ _ _ _ _ _ c.self.invariant c.get.ensures.lookup c.deref.ensures.value c.in-Some.is refl) (omega arith))
