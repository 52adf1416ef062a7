use Rattle.std.proofs.Common.{ap, ◌∙◌}
use Rattle.sc_text.specs.declared.token.Span.{Span}
use Rattle.sc_tree.specs.Plain.{Check}
use Rattle.sc_tree.proofs.ViewLemmas.{instr_of-check}
use Rattle.sc_parse.specs.Reading.Instructions.{nested_instrs}
use Rattle.sc_parse.specs.Reading.Reads.{ahead, clauses_in}
use Rattle.sc_parse.proofs.Steps.{checking_is}
use Rattle.sc_parse.proofs.cursor.Parser.checking.Goals as goal

pub returns : goal.returns
returns c = (
  c.in_ok-checked.ensures.0,
  checking_is c.args.room (nested_instrs c.args.room) (ahead c.args.self.now) _ _ _ _ _ c.in_ok-checked.ensures.1 c.in_ok-clauses.ensures.read
      (instr_of-check _ _ ∙ ap (λ (cs : _). Check c.span_from.result (clauses_in cs)) c.in_ok-clauses.ensures.same
      ∙ ap (λ (s : Span). Check s (clauses_in c.in_ok-checked.checked)) c.span_from.ensures),
)
