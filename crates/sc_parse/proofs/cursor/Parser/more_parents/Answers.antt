use Rattle.std.proofs.Common.{List, [], ◌∷◌, ◌++◌, ap, sym, ◌∙◌, map}
use Rattle.sc_tree.specs.View.{parent_of}
use Rattle.sc_parse.proofs.Views.{map-push}
use Rattle.sc_parse.specs.Reading.Reads.{ahead, parents_in}
use Rattle.sc_parse.proofs.Lists.{parents_begin, parents_more, parents_none, parents_fail, parents_end}
use Rattle.std.proofs.lemmas.Result.{err_from_is_err_and}
use Rattle.sc_parse.proofs.Faults.{Fails-along}
use Rattle.sc_parse.proofs.cursor.Parser.more_parents.Goals as goal

pub loop-turn-init : goal.loop-turn-init
loop-turn-init c =
    parents_begin (ahead c.args.self.now) (parent_of c.args.first) _ _
    (ap (λ (ps : _). map parent_of ps) (c.in_ok-push.ensures.items ∙ ap (λ (ps : List _). ps ++ c.args.first ∷ []) c.new-found.ensures.items)) c.skip.ensures

pub loop-turn-preserved : goal.loop-turn-preserved
loop-turn-preserved c =
    parents_more _ c.loop-turn._turn (parents_in c.loop-turn.found) (ahead c.loop-turn.self) _ _ _ _ _
    c.loop-turn-test.true c.sees_name.ensures c.if-not-sees_name.false c.in_ok-parent.ensures
    (ap (λ (ps : _). map parent_of ps) c.in_ok-push-2.ensures.items ∙ map-push parent_of _ _) c.skip-in-loop-turn.ensures
    ∙ c.loop-turn.invariant

pub returns-then-not-sees_name : goal.returns-then-not-sees_name
returns-then-not-sees_name c =
    sym c.loop-turn.invariant
    ∙ parents_none _ c.loop-turn._turn (parents_in c.loop-turn.found) (ahead c.loop-turn.self) _ c.loop-turn-test.true c.sees_name.ensures c.if-not-sees_name.true

pub returns-in_err-parent : goal.returns-in_err-parent
returns-in_err-parent c =
    let p = err_from_is_err_and c.from_residual-in_err-parent.result c.from_residual-in_err-parent.ensures.1 in
    rw (p.1, p.2)
    (Fails-along _ _ c.in_err-parent.field-0.0 (sym c.loop-turn.invariant)
    (parents_fail _ c.loop-turn._turn (parents_in c.loop-turn.found) (ahead c.loop-turn.self) _ c.in_err-parent.field-0.0
    c.loop-turn-test.true c.sees_name.ensures c.if-not-sees_name.false c.in_err-parent.ensures))

pub returns : goal.returns
returns c = sym c.loop-turn.invariant ∙ parents_end _ c.loop-turn._turn (parents_in c.loop-turn.found) (ahead c.loop-turn.self) c.loop-turn-test.false
