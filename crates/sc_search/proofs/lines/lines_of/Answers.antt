use Rattle.std.proofs.Common.{◌++◌, ◌∷◌, [], ◌∙◌, ℕ, List, get_or, sym, ap}
use Rattle.std.proofs.lemmas.List.{take_more}
use Rattle.sc_search.proofs.lines.lines_of.Goals as goal

pub loop-handler-preserved : goal.loop-handler-preserved
loop-handler-preserved c =
    let hs = c.args.turns.now in
    let i = c.loop-handler.handler-index in
    c.in_ok-last.ensures ∙ ap (λ (ts : List ℕ). ts ++ get_or hs i 0 ∷ []) c.loop-handler.invariant ∙ sym (take_more hs i 0 c.loop-handler-test.true)
