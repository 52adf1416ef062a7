use Rattle.std.proofs.Common.{List, Ok, ap, sym, ◌∙◌, max, map}
use Rattle.sc_tree.specs.Plain.{Clause}
use Rattle.sc_tree.specs.View.{clause_of}
use Rattle.sc_parse.proofs.Views.{map-push}
use Rattle.sc_parse.specs.Reading.Reads.{ahead, clauses_in}
use Rattle.sc_parse.proofs.Lists.{clauses_begin, clauses_more, clauses_none, clauses_fail, clauses_wrong, clauses_end}
use Rattle.std.proofs.lemmas.Result.{err_from_is_err_and}
use Rattle.sc_parse.proofs.Faults.{Fails-along}
use Rattle.sc_parse.proofs.cursor.Parser.clauses.Goals as goal

pub loop-turn-init : goal.loop-turn-init
loop-turn-init c = (0, clauses_begin _ _ _ _ c.skip_semicolons.ensures (ap (λ (xs : _). map clause_of xs) c.new-found.ensures.items))

pub loop-turn-preserved : goal.loop-turn-preserved
loop-turn-preserved c =
    let q = c.loop-turn.invariant in (
      max q.0 c.in_ok-clause.ensures.0,
      clauses_more c.args.room _ c.loop-turn._turn (clauses_in c.loop-turn.found) q.0 (ahead c.loop-turn.self) _ _ _ _ _ _ _ c.loop-turn-test.true c.begins_expression.ensures c.if-not-begins_expression.false
          c.in_ok-clause.ensures.1 c.goes_on.ensures c.if-goes_on.false (ap (λ (xs : _). map clause_of xs) c.in_ok-found.ensures ∙ map-push clause_of _ _)
          c.skip_semicolons-in-loop-turn.ensures
          ∙ q.1,
    )

pub returns-then-not-begins_expression : goal.returns-then-not-begins_expression
returns-then-not-begins_expression c =
    let q = c.loop-turn.invariant in (
      q.0,
      sym q.1 ∙ clauses_none c.args.room _ c.loop-turn._turn (clauses_in c.loop-turn.found) q.0 (ahead c.loop-turn.self) _
          c.loop-turn-test.true c.begins_expression.ensures c.if-not-begins_expression.true
          ∙ ap (λ (xs : List Clause). Ok (xs, q.0, ahead c.loop-turn.self)) (sym (ap (λ (xs : _). map clause_of xs) c.fitted.ensures)),
    )

pub returns-in_err-clause : goal.returns-in_err-clause
returns-in_err-clause c =
    let q = c.loop-turn.invariant in
    let p = err_from_is_err_and c.from_residual.result c.from_residual.ensures.1 in
    rw (p.1, p.2)
    (Fails-along _ _ c.in_err-clause.field-0.0 (sym q.1)
    (clauses_fail c.args.room _ c.loop-turn._turn (clauses_in c.loop-turn.found) q.0 (ahead c.loop-turn.self) _ c.in_err-clause.field-0.0
    c.loop-turn-test.true c.begins_expression.ensures c.if-not-begins_expression.false c.in_err-clause.ensures))

pub returns-then-goes_on : goal.returns-then-goes_on
returns-then-goes_on c =
    let q = c.loop-turn.invariant in
    sym q.1 ∙ clauses_wrong c.args.room _ c.loop-turn._turn (clauses_in c.loop-turn.found) q.0 (ahead c.loop-turn.self) _ _ _ _ _
    c.loop-turn-test.true c.begins_expression.ensures c.if-not-begins_expression.false c.in_ok-clause.ensures.1 c.goes_on.ensures c.if-goes_on.true

pub returns : goal.returns
returns c =
    let q = c.loop-turn.invariant in
    (q.0, sym q.1 ∙ clauses_end c.args.room _ c.loop-turn._turn (clauses_in c.loop-turn.found) q.0 (ahead c.loop-turn.self) c.loop-turn-test.false)
