use Rattle.std.proofs.Common.{◌≡◌, ℕ, ap, ◌∙◌, refl}
use Rattle.sc_text.specs.declared.token.Span.{Span}
use Rattle.sc_tree.specs.Plain.{Variable, Expr, Assign}
use Rattle.sc_tree.proofs.ViewLemmas.{instr_of-assign}
use Rattle.sc_parse.specs.Reading.Instructions.{nested_instrs}
use Rattle.sc_parse.specs.Reading.Reads.{ahead}
use Rattle.sc_parse.proofs.Steps.{assignment_is}
use Rattle.sc_parse.proofs.cursor.Parser.assignment.Goals as goal

assign_span : {s e start end : ℕ} (v : Variable) (t : Expr) → s ≡ start → e ≡ end → Assign (record { start = s; end = e }) v t ≡ Assign (record { start = start; end = end }) v t
assign_span v t p q = rw (p, q) refl

pub returns : goal.returns
returns c = (
  c.in_ok-value.field-0-1,
  assignment_is c.args.room (nested_instrs c.args.room) (ahead c.args.self.now) _ _ _ _ _ _ _ c.in_ok-variable.ensures c.in_ok-expect.ensures c.in_ok-value.ensures.read
      (instr_of-assign _ _ _ ∙ assign_span _ _ c.next_start-start.ensures (ap (λ (s : Span). s.end) c.span.ensures)),
)
