use Rattle.std.proofs.Common.{List, ap, sym, ◌∙◌, max, map}
use Rattle.std.proofs.lemmas.Result.{err_from_is_err_and}
use Rattle.sc_tree.specs.Plain as plain
use Rattle.sc_tree.specs.View.{class_of}
use Rattle.sc_parse.proofs.Views.{map-push}
use Rattle.sc_parse.specs.Reading.Reads.{ahead, classes_in}
use Rattle.sc_parse.specs.Reading.Looks.{left}
use Rattle.sc_parse.specs.Reading.Classes as spec
use Rattle.sc_parse.proofs.Faults.{Fails-along}
use Rattle.sc_parse.proofs.Lists.{classes_begin, classes_more, classes_none, classes_fail, classes_end}
use Rattle.sc_parse.proofs.cursor.Parser.classes.Goals as goal

pub loop-turn-init : goal.loop-turn-init
loop-turn-init c =
    let ts = ahead c.args.self.now in (
      0,
      classes_begin c.args.room ts _ 0
          ∙ ap (λ (ks : List plain.Class). spec.classes_from c.args.room (left ts) ks 0 ts) (ap (λ (xs : _). map class_of xs) c.new-found.ensures.items),
    )

pub returns-then-is_done : goal.returns-then-is_done
returns-then-is_done c =
    let q = c.loop-turn.invariant in (
      q.0,
      sym q.1 ∙ classes_none c.args.room _ c.loop-turn._turn (classes_in c.loop-turn.found) q.0 (ahead c.loop-turn.self) _ c.loop-turn-test.true c.is_done.ensures c.if-is_done.true,
    )

pub returns-in_err-class : goal.returns-in_err-class
returns-in_err-class c =
    let q = c.loop-turn.invariant in
    let p = err_from_is_err_and c.from_residual.result c.from_residual.ensures.1 in
    rw (p.1, p.2)
    (Fails-along _ _ c.in_err-class.field-0.0 (sym q.1)
    (classes_fail c.args.room _ c.loop-turn._turn (classes_in c.loop-turn.found) q.0 (ahead c.loop-turn.self) _ c.in_err-class.field-0.0
    c.loop-turn-test.true c.is_done.ensures c.if-is_done.false c.in_err-class.ensures))

pub returns : goal.returns
returns c =
    let q = c.loop-turn.invariant in
    (q.0, sym q.1 ∙ classes_end c.args.room _ c.loop-turn._turn (classes_in c.loop-turn.found) q.0 (ahead c.loop-turn.self) c.loop-turn-test.false)

pub loop-turn-preserved : goal.loop-turn-preserved
loop-turn-preserved c =
    let q = c.loop-turn.invariant in (
      max q.0 c.in_ok-class.ensures.0,
      classes_more c.args.room _ c.loop-turn._turn (classes_in c.loop-turn.found) q.0 (ahead c.loop-turn.self) _ _ _ _ _
          c.loop-turn-test.true c.is_done.ensures c.if-is_done.false
          c.in_ok-class.ensures.1 (ap (λ (xs : _). map class_of xs) c.in_ok-push.ensures.items ∙ map-push class_of _ _)
          ∙ q.1,
    )
