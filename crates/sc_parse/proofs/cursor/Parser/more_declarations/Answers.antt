use Rattle.std.proofs.Common.{◌≡◌, Bool, true, false, ◌||◌, List, Ok, ap, sym, ◌∙◌, map}
use Rattle.std.proofs.lemmas.List.{map-append}
use Rattle.std.proofs.lemmas.Result.{err_from_is_err_and}
use Rattle.sc_text.specs.declared.token.Terminal.TheVariants as terminal
use Rattle.sc_parse.specs.Reading.Looks.{sees, name_ahead}
use Rattle.sc_tree.specs.Plain.{Declaration}
use Rattle.sc_tree.specs.View.{declaration_of}
use Rattle.sc_parse.specs.Reading.Reads.{ahead, declarations_in}
use Rattle.sc_parse.proofs.Faults.{Fails-along}
use Rattle.sc_parse.proofs.Lists.{declarations_begin, declarations_more, declarations_none, declarations_fail, declarations_end}
use Rattle.sc_parse.proofs.cursor.Parser.more_declarations.Goals as goal
use Rattle.sc_parse.proofs.cursor.Parser.more_declarations.Goals.{then-sees, else-sees}

by_first : (a b s v : Bool) → s ≡ a → s ≡ true → v ≡ s → v ≡ a || b
by_first a b s v e t w = rw (sym e ∙ t) (w ∙ t)

by_second : (a b s n v : Bool) → s ≡ a → s ≡ false → n ≡ b → v ≡ n → v ≡ a || b
by_second a b s n v e f u w = rw (sym e ∙ f) (w ∙ u)

pub loop-turn-init : goal.loop-turn-init
loop-turn-init c = declarations_begin (ahead c.args.self.now) (declarations_in c.args.first)

pub returns-then-not-sees_name : goal.returns-then-not-sees_name
returns-then-not-sees_name c =
    let ts = ahead c.loop-turn.self in
    let seen : c.if-sees.value ≡ sees terminal.Semicolon ts || name_ahead ts =
    elim c.if-sees.branch [
      | then-sees w ↦ by_first _ (name_ahead ts) c.sees.result _ c.sees.ensures w.if-sees.true w.value-is
      | else-sees w ↦ by_second _ _ c.sees.result w.sees_name.result _ c.sees.ensures w.if-sees.false w.sees_name.ensures w.value-is
    ] in
    sym c.loop-turn.invariant ∙ declarations_none _ c.loop-turn._turn (declarations_in c.loop-turn.found) ts _ c.loop-turn-test.true seen c.if-not-sees_name.true
    ∙ ap (λ (ds : List Declaration). Ok (ds, ts)) (sym (ap (λ (ds : _). map declaration_of ds) c.fitted.ensures))

pub returns-in_err-declarations : goal.returns-in_err-declarations
returns-in_err-declarations c =
    let ts = ahead c.loop-turn.self in
    let seen : c.if-sees.value ≡ sees terminal.Semicolon ts || name_ahead ts =
    elim c.if-sees.branch [
      | then-sees w ↦ by_first _ (name_ahead ts) c.sees.result _ c.sees.ensures w.if-sees.true w.value-is
      | else-sees w ↦ by_second _ _ c.sees.result w.sees_name.result _ c.sees.ensures w.if-sees.false w.sees_name.ensures w.value-is
    ] in
    let p = err_from_is_err_and c.from_residual.result c.from_residual.ensures.1 in
    rw (p.1, p.2)
    (Fails-along _ _ c.in_err-declarations.field-0.0 (sym c.loop-turn.invariant)
    (declarations_fail _ c.loop-turn._turn (declarations_in c.loop-turn.found) ts _ _ c.in_err-declarations.field-0.0
    c.loop-turn-test.true seen c.if-not-sees_name.false c.skip.ensures c.in_err-declarations.ensures))

pub returns : goal.returns
returns c = sym c.loop-turn.invariant ∙ declarations_end _ c.loop-turn._turn (declarations_in c.loop-turn.found) (ahead c.loop-turn.self) c.loop-turn-test.false

pub loop-turn-preserved : goal.loop-turn-preserved
loop-turn-preserved c =
    let ts = ahead c.loop-turn.self in
    let seen : c.if-sees.value ≡ sees terminal.Semicolon ts || name_ahead ts =
    elim c.if-sees.branch [
      | then-sees w ↦ by_first _ (name_ahead ts) c.sees.result _ c.sees.ensures w.if-sees.true w.value-is
      | else-sees w ↦ by_second _ _ c.sees.result w.sees_name.result _ c.sees.ensures w.if-sees.false w.sees_name.ensures w.value-is
    ] in
    declarations_more _ c.loop-turn._turn (declarations_in c.loop-turn.found) ts _ _ _ _ _
    c.loop-turn-test.true seen c.if-not-sees_name.false c.skip.ensures c.in_ok-declarations.ensures
    (ap (λ (ds : _). map declaration_of ds) c.in_ok-found.ensures ∙ map-append declaration_of _ _)
    ∙ c.loop-turn.invariant
