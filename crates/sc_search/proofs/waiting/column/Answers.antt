use Rattle.std.proofs.Common.{◌++◌, ◌∷◌, ◌∙◌, [], Bool, List, ap, take, arith}
use Rattle.std.proofs.lemmas.List.{take_all}
use Rattle.sc_model.specs.declared.status.Status.{Status}
use Rattle.sc_states.specs.RowViews.{rows_of}
use Rattle.sc_search.specs.Waiting.{column}
use Rattle.sc_search.proofs.Waits.{column_more}
use Rattle.sc_search.proofs.waiting.column.Goals as goal

pub loop-number-preserved : goal.loop-number-preserved
loop-number-preserved c =
    let k = c.args.kind in
    let h = c.args.handler in
    let rows = rows_of c.args.statuses.now in
    let i = c.loop-number.number in
    c.in_ok-push.ensures.items ∙ ap (λ (bs : List Bool). bs ++ c.is_at.result ∷ []) c.loop-number.invariant
    ∙ ap (λ (b : Bool). column k h (take i rows) ++ b ∷ []) c.is_at.ensures
    ∙ column_more k h rows i c.row.result.now c.row.ensures

pub returns : goal.returns
returns c =
    let rows = rows_of c.args.statuses.now in
    c.loop-number.invariant
    ∙ ap (λ (rs : List (List Status)). column c.args.kind c.args.handler rs) (take_all c.loop-number.number rows (omega (arith, c.loop-number-test.false, c.len-number-end.ensures)))
