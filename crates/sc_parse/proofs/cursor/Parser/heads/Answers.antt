use Rattle.std.proofs.Common.{ap, sym, ◌∙◌, max, map}
use Rattle.sc_tree.specs.View.{head_of}
use Rattle.sc_parse.proofs.Views.{map-push}
use Rattle.sc_parse.specs.Reading.Reads.{ahead, heads_in}
use Rattle.sc_parse.proofs.Turns.{then_heads, heads_is, heads_begin, heads_more, heads_none, heads_fail, heads_end}
use Rattle.std.proofs.lemmas.Result.{err_from_is_err_and}
use Rattle.sc_parse.proofs.Faults.{Fails-along, Fails-bind}
use Rattle.sc_parse.proofs.cursor.Parser.heads.Goals as goal

pub returns-in_err-first : goal.returns-in_err-first
returns-in_err-first c =
    let p = err_from_is_err_and c.from_residual.result c.from_residual.ensures.1 in
    rw (p.1, p.2)
    (Fails-along _ _ c.in_err-first.field-0.0 (heads_is c.args.room (ahead c.args.self.now))
    (Fails-bind _ (then_heads c.args.room) c.in_err-first.field-0.0 c.in_err-first.ensures))

pub loop-turn-init : goal.loop-turn-init
loop-turn-init c = (
  c.in_ok-first.ensures.0,
  heads_begin c.args.room (ahead c.args.self.now) _ _ _ _ c.in_ok-first.ensures.1
      (ap (λ (xs : _). map head_of xs) c.in_ok-found.ensures),
)

pub loop-turn-preserved : goal.loop-turn-preserved
loop-turn-preserved c =
    let q = c.loop-turn.invariant in (
      max q.0 c.in_ok-head.ensures.0,
      heads_more c.args.room _ c.loop-turn._turn (heads_in c.loop-turn.found) q.0 (ahead c.loop-turn.self) _ _ _ _ _ _ c.loop-turn-test.true c.sees.ensures c.if-not-sees.false c.take.ensures.past
          c.in_ok-head.ensures.1 (ap (λ (xs : _). map head_of xs) c.in_ok-found-2.ensures ∙ map-push head_of _ _)
          ∙ q.1,
    )

pub returns-then-not-sees : goal.returns-then-not-sees
returns-then-not-sees c =
    let q = c.loop-turn.invariant in (
      q.0,
      sym q.1 ∙ heads_none c.args.room _ c.loop-turn._turn (heads_in c.loop-turn.found) q.0 (ahead c.loop-turn.self) _ c.loop-turn-test.true c.sees.ensures c.if-not-sees.true,
    )

pub returns-in_err-head : goal.returns-in_err-head
returns-in_err-head c =
    let q = c.loop-turn.invariant in
    let p = err_from_is_err_and c.from_residual-in_err-head.result c.from_residual-in_err-head.ensures.1 in
    rw (p.1, p.2)
    (Fails-along _ _ c.in_err-head.field-0.0 (sym q.1)
    (heads_fail c.args.room _ c.loop-turn._turn (heads_in c.loop-turn.found) q.0 (ahead c.loop-turn.self) _ _ c.in_err-head.field-0.0
    c.loop-turn-test.true c.sees.ensures c.if-not-sees.false c.take.ensures.past c.in_err-head.ensures))

pub returns : goal.returns
returns c =
    let q = c.loop-turn.invariant in
    (q.0, sym q.1 ∙ heads_end c.args.room _ c.loop-turn._turn (heads_in c.loop-turn.found) q.0 (ahead c.loop-turn.self) c.loop-turn-test.false)
