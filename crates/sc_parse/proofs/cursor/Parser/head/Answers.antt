use Rattle.std.proofs.Common.{ap, ◌∙◌}
use Rattle.std.proofs.lemmas.Result.{err_from_is_err_and}
use Rattle.sc_tree.proofs.ReadingSteps.{bind_ok}
use Rattle.sc_parse.proofs.Faults.{Fails-along, Fails-bind}
use Rattle.sc_parse.proofs.Views.{head_of-is}
use Rattle.sc_tree.specs.declared.expression.Expr.{Expr}
use Rattle.sc_tree.specs.Plain as plain
use Rattle.sc_parse.specs.Reading.Reads.{ahead, expr_in, name_in}
use Rattle.sc_parse.proofs.Parts.{after_value, head_is, head_read}
use Rattle.sc_parse.proofs.cursor.Parser.head.Goals as goal

abbrev named_as : plain.Expr → plain.Name → plain.Head
named_as t x = record { value = t; name = x }

pub returns-in_err-chain : goal.returns-in_err-chain
returns-in_err-chain c =
    let p = err_from_is_err_and c.from_residual.result c.from_residual.ensures.1 in
    rw (p.1, p.2)
    (Fails-along _ _ c.in_err-chain.field-0.0 (head_is c.args.room (ahead c.args.self.now)) (Fails-bind _ _ c.in_err-chain.field-0.0 c.in_err-chain.ensures))

pub returns-in_err-value : goal.returns-in_err-value
returns-in_err-value c =
    let ts = ahead c.args.self.now in
    let p = err_from_is_err_and c.from_residual-in_err-value.result c.from_residual-in_err-value.ensures.1 in
    rw (p.1, p.2)
    (Fails-along _ _ c.in_err-value.field-0.0 (head_is c.args.room ts ∙ bind_ok _ _ (after_value c.args.room ts) c.in_ok-chain.ensures)
    (Fails-bind _ _ c.in_err-value.field-0.0 c.in_err-value.ensures.read))

pub returns : goal.returns
returns c = (
  c.in_ok-chain.field-0-1,
  head_read c.args.room (ahead c.args.self.now) _ _ _ _ _ _ c.in_ok-chain.ensures c.in_ok-value.ensures.read
      (head_of-is _ ∙ ap (λ (e : Expr). named_as (expr_in e) (name_in c.in_ok-value.name)) c.in_ok-value.ensures.same),
)
