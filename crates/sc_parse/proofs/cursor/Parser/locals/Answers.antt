use Rattle.std.proofs.Common.{List, Ok, ap, sym, ◌∙◌, map}
use Rattle.std.proofs.lemmas.List.{map-append}
use Rattle.sc_tree.specs.Plain.{Declaration}
use Rattle.sc_tree.specs.View.{declaration_of}
use Rattle.sc_parse.specs.Reading.Reads.{ahead, declarations_in}
use Rattle.sc_parse.proofs.Lists.{locals_begin, locals_absent, locals_more, locals_none, locals_fail, locals_end}
use Rattle.std.proofs.lemmas.Result.{err_from_is_err_and}
use Rattle.sc_parse.proofs.Faults.{Fails-along}
use Rattle.sc_parse.proofs.cursor.Parser.locals.Goals as goal

pub returns-then-not-sees : goal.returns-then-not-sees
returns-then-not-sees c = locals_absent _ _ _ c.sees.ensures c.if-not-sees.true (ap (λ (ds : _). map declaration_of ds) c.new-found.ensures.items)

pub loop-turn-init : goal.loop-turn-init
loop-turn-init c = locals_begin _ _ _ _ c.sees.ensures c.if-not-sees.false c.take.ensures.past (ap (λ (ds : _). map declaration_of ds) c.new-found.ensures.items)

pub loop-turn-preserved : goal.loop-turn-preserved
loop-turn-preserved c =
    locals_more _ c.loop-turn._turn (declarations_in c.loop-turn.found) (ahead c.loop-turn.self) _ _ _ _ _
    c.loop-turn-test.true c.sees_name.ensures c.if-not-sees_name.false c.in_ok-declarations.ensures
    (ap (λ (ds : _). map declaration_of ds) c.in_ok-found.ensures ∙ map-append declaration_of _ _) c.skip.ensures
    ∙ c.loop-turn.invariant

pub returns-then-not-sees_name : goal.returns-then-not-sees_name
returns-then-not-sees_name c =
    sym c.loop-turn.invariant
    ∙ locals_none _ c.loop-turn._turn (declarations_in c.loop-turn.found) (ahead c.loop-turn.self) _ c.loop-turn-test.true c.sees_name.ensures c.if-not-sees_name.true
    ∙ ap (λ (ds : List Declaration). Ok (ds, ahead c.loop-turn.self)) (sym (ap (λ (ds : _). map declaration_of ds) c.fitted.ensures))

pub returns-in_err-declarations : goal.returns-in_err-declarations
returns-in_err-declarations c =
    let p = err_from_is_err_and c.from_residual.result c.from_residual.ensures.1 in
    rw (p.1, p.2)
    (Fails-along _ _ c.in_err-declarations.field-0.0 (sym c.loop-turn.invariant)
    (locals_fail _ c.loop-turn._turn (declarations_in c.loop-turn.found) (ahead c.loop-turn.self) _ c.in_err-declarations.field-0.0
    c.loop-turn-test.true c.sees_name.ensures c.if-not-sees_name.false c.in_err-declarations.ensures))

pub returns : goal.returns
returns c = sym c.loop-turn.invariant ∙ locals_end _ c.loop-turn._turn (declarations_in c.loop-turn.found) (ahead c.loop-turn.self) c.loop-turn-test.false
