use Rattle.std.proofs.Common.{List, ap, sym, ◌∙◌, map}
use Rattle.sc_tree.specs.Plain as plain
use Rattle.sc_tree.specs.View.{name_of}
use Rattle.sc_parse.proofs.Views.{map-push}
use Rattle.sc_parse.specs.Reading.Looks.{left}
use Rattle.sc_parse.specs.Reading.Types as spec
use Rattle.sc_parse.specs.Reading.Reads.{ahead, names_in}
use Rattle.sc_parse.proofs.Lists.{more_names_begin, more_names_more, more_names_none, more_names_fail, more_names_end}
use Rattle.std.proofs.lemmas.Result.{err_from_is_err_and}
use Rattle.sc_parse.proofs.Faults.{Fails-along}
use Rattle.sc_parse.proofs.cursor.Parser.more_names.Goals as goal

pub loop-turn-init : goal.loop-turn-init
loop-turn-init c =
    let ts = ahead c.args.self.now in
    more_names_begin ts _
    ∙ ap (λ (ns : List plain.Name). spec.more_names (left ts) ns ts)
    (ap (λ (ns : _). map name_of ns) c.in_ok-names.ensures)

pub loop-turn-preserved : goal.loop-turn-preserved
loop-turn-preserved c =
    more_names_more _ c.loop-turn._turn (names_in c.loop-turn.names) (ahead c.loop-turn.self) _ _ _ _ _
    c.loop-turn-test.true c.sees.ensures c.if-not-sees.false c.take.ensures.past c.in_ok-name.ensures
    (ap (λ (ns : _). map name_of ns) c.in_ok-names-2.ensures ∙ map-push name_of _ _)
    ∙ c.loop-turn.invariant

pub returns-then-not-sees : goal.returns-then-not-sees
returns-then-not-sees c =
    sym c.loop-turn.invariant
    ∙ more_names_none _ c.loop-turn._turn (names_in c.loop-turn.names) (ahead c.loop-turn.self) _ c.loop-turn-test.true c.sees.ensures c.if-not-sees.true

pub returns-in_err-name : goal.returns-in_err-name
returns-in_err-name c =
    let p = err_from_is_err_and c.from_residual-in_err-name.result c.from_residual-in_err-name.ensures.1 in
    rw (p.1, p.2)
    (Fails-along _ _ c.in_err-name.field-0.0 (sym c.loop-turn.invariant)
    (more_names_fail _ c.loop-turn._turn (names_in c.loop-turn.names) (ahead c.loop-turn.self) _ _ c.in_err-name.field-0.0
    c.loop-turn-test.true c.sees.ensures c.if-not-sees.false c.take.ensures.past c.in_err-name.ensures))

pub returns : goal.returns
returns c = sym c.loop-turn.invariant ∙ more_names_end _ c.loop-turn._turn (names_in c.loop-turn.names) (ahead c.loop-turn.self) c.loop-turn-test.false
