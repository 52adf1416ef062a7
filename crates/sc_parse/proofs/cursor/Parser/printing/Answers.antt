use Rattle.std.proofs.Common.{◌≡◌, ℕ, List, refl, ap, ◌∙◌, arith}
use Rattle.sc_text.specs.declared.token.Span.{Span}
use Rattle.sc_tree.specs.Plain.{PrintText}
use Rattle.sc_tree.proofs.ViewLemmas.{instr_of-print_text}
use Rattle.sc_parse.specs.Reading.Looks.{past}
use Rattle.sc_parse.specs.Reading.Instructions.{nested_instrs}
use Rattle.sc_parse.specs.Reading.Reads.{ahead}
use Rattle.sc_parse.proofs.Steps.{printing_is}
use Rattle.sc_parse.proofs.cursor.Parser.printing.Goals as goal

print_span : {start begun end : ℕ} (t : List ℕ) (s : Span) → start ≡ begun → s ≡ record { start = start; end = end } → PrintText s t ≡ PrintText (record { start = begun; end = end }) t
print_span t s e d = rw (d, e) refl

pub returns : goal.returns
returns c = (
  1,
  printing_is c.args.room (nested_instrs c.args.room) _ (past (past (ahead c.args.self.now))) _ _ _ _ _ (omega (arith, c.if-room-eq0.false)) (c.take-2.ensures.past ∙ ap past c.take.ensures.past) c.in_ok-text.ensures
      c.in_ok-expect.ensures
      (instr_of-print_text _ _ ∙ print_span _ _ c.next_start-start.ensures c.span_from.ensures),
)
