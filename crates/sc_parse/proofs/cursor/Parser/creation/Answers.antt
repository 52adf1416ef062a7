use Rattle.std.proofs.Common.{◌≡◌, ap, ◌∙◌}
use Rattle.std.proofs.lemmas.Result.{err_from_is_err_and}
use Rattle.sc_text.specs.declared.token.Span.{Span}
use Rattle.sc_tree.specs.Plain.{Creation, Create}
use Rattle.sc_tree.proofs.ReadingSteps.{bind_ok}
use Rattle.sc_tree.proofs.ViewLemmas.{instr_of-create}
use Rattle.sc_parse.specs.Reading.Reads.{ahead}
use Rattle.sc_parse.proofs.Faults.{Fails-along, Fails-bind}
use Rattle.sc_parse.proofs.Parts.{after_variable, creation_is, creation_read}
use Rattle.sc_parse.proofs.cursor.Parser.creation.Goals as goal

placed : {s u : Span} (c : Creation) → s ≡ u → Create s c ≡ Create u c
placed c e = ap (λ (s : Span). Create s c) e

pub returns-in_err-variable : goal.returns-in_err-variable
returns-in_err-variable c =
    let ts = ahead c.args.self.now in
    let p = err_from_is_err_and c.from_residual.result c.from_residual.ensures.1 in
    rw (p.1, p.2) (Fails-along _ _ c.in_err-variable.field-0.0 (creation_is c.args.room _ ts) (Fails-bind _ (after_variable c.args.room ts) c.in_err-variable.field-0.0 c.in_err-variable.ensures))

pub returns-in_err-call : goal.returns-in_err-call
returns-in_err-call c =
    let ts = ahead c.args.self.now in
    let p = err_from_is_err_and c.from_residual-in_err-call.result c.from_residual-in_err-call.ensures.1 in
    rw (p.1, p.2)
    (Fails-along _ _ c.in_err-call.field-0.0 (creation_is c.args.room _ ts ∙ bind_ok _ _ (after_variable c.args.room ts) c.in_ok-variable.ensures)
    (Fails-bind _ _ c.in_err-call.field-0.0 c.in_err-call.ensures))

pub returns : goal.returns
returns c = (
  c.in_ok-call.ensures.0,
  creation_read c.args.room _ (ahead c.args.self.now) _ _ _ _ _ _ c.in_ok-variable.ensures c.in_ok-call.ensures.1 (instr_of-create _ _ _ ∙ placed _ c.span_from.ensures),
)
