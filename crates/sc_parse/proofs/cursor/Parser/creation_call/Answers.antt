use Rattle.std.proofs.Common.{◌∙◌, max, arith}
use Rattle.std.proofs.lemmas.Result.{err_from_is_err_and}
use Rattle.sc_tree.proofs.ReadingSteps.{bind_ok}
use Rattle.sc_parse.specs.Reading.Reads.{ahead}
use Rattle.sc_parse.proofs.Faults.{Fails-along, Fails-bind}
use Rattle.sc_parse.proofs.Parts.{after_called, no_creation_call, deep_creation_call, creation_call_is}
use Rattle.sc_parse.proofs.cursor.Parser.creation_call.Goals as goal

pub returns-then-not-sees : goal.returns-then-not-sees
returns-then-not-sees c = (0, no_creation_call c.args.room (ahead c.args.self.now) _ c.sees.ensures c.if-not-sees.true)

pub returns-then-room-eq0 : goal.returns-then-room-eq0
returns-then-room-eq0 c = deep_creation_call c.args.room (ahead c.args.self.now) _ c.sees.ensures c.if-not-sees.false c.if-room-eq0.true

pub returns-in_err-name : goal.returns-in_err-name
returns-in_err-name c =
    let p = err_from_is_err_and c.from_residual.result c.from_residual.ensures.1 in
    rw (p.1, p.2)
    (Fails-along _ _ c.in_err-name.field-0.0
    (creation_call_is c.args.room (ahead c.args.self.now) _ c.sees.ensures c.if-not-sees.false (omega (arith, c.if-room-eq0.false)) _ c.take.ensures.past)
    (Fails-bind _ (after_called c.args.room) c.in_err-name.field-0.0 c.in_err-name.ensures))

pub returns-in_err-actuals : goal.returns-in_err-actuals
returns-in_err-actuals c =
    let p = err_from_is_err_and c.from_residual-in_err-actuals.result c.from_residual-in_err-actuals.ensures.1 in
    rw (p.1, p.2)
    (Fails-along _ _ c.in_err-actuals.field-0.0
    (creation_call_is c.args.room (ahead c.args.self.now) _ c.sees.ensures c.if-not-sees.false (omega (arith, c.if-room-eq0.false)) _ c.take.ensures.past
    ∙ bind_ok _ _ (after_called c.args.room) c.in_ok-name.ensures)
    (Fails-bind _ _ c.in_err-actuals.field-0.0 c.in_err-actuals.ensures.read))

pub returns : goal.returns
returns c = (
  max 1 c.in_ok-actuals.field-0-1,
  creation_call_is c.args.room (ahead c.args.self.now) _ c.sees.ensures c.if-not-sees.false (omega (arith, c.if-room-eq0.false)) _ c.take.ensures.past
      ∙ bind_ok _ _ (after_called c.args.room) c.in_ok-name.ensures ∙ bind_ok _ _ _ c.in_ok-actuals.ensures.read,
)
