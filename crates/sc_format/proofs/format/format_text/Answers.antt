use Rattle.std.proofs.Common.{◌≡◌, ◌∷◌, List, ℕ, ap, arith, ◌∙◌}
use Rattle.sc_text.specs.Characters.{line_feed}
use Rattle.sc_text.specs.Spelling.{lexemes_of}
use Rattle.sc_format.specs.Formatted.{laid_out}
use Rattle.sc_format.proofs.Settled.{IsLed, laid-led, laid-same, laid-settled}
use Rattle.sc_format.proofs.format.format_text.Goals as goal
use Rattle.sc_format.proofs.format.format_text.Goals.{After-deref, After-drop-tokens-2}

led-at : (c : After-deref) → IsLed c.args.text.now c.deref.result.now (lexemes_of c.in_ok-tokens.tokens.items)
led-at c =
    laid-led c.args.text.now c.deref.result.now (lexemes_of c.in_ok-tokens.tokens.items) c.in_ok-tokens.ensures.spelled
    (c.deref.ensures.value ∙ c.in_ok-led.ensures ∙ ap (λ ts. laid_out c.args.text.now (lexemes_of ts)) c.as_slice.ensures.value)

laid-at : (c : After-drop-tokens-2) → line_feed ∷ c.in_ok-formatted.formatted.items ≡ laid_out c.args.text.now (lexemes_of c.in_ok-tokens.tokens.items)
laid-at c =
    ap (λ (t : List ℕ). line_feed ∷ t) c.in_ok-formatted.ensures.items
    ∙ (laid-led c.args.text.now c.deref.result.now (lexemes_of c.in_ok-tokens.tokens.items) c.in_ok-tokens.ensures.spelled
    (c.deref.ensures.value ∙ c.in_ok-led.ensures ∙ ap (λ ts. laid_out c.args.text.now (lexemes_of ts)) c.as_slice.ensures.value)).laid

pub slice_bounds-from_slice-count : goal.slice_bounds-from_slice-count
slice_bounds-from_slice-count c = let l = led-at c in omega (arith, l.some)

pub slice_bounds-from_slice-start : goal.slice_bounds-from_slice-start
slice_bounds-from_slice-start c = let l = led-at c in omega (arith, l.some)

pub returns-clause-laid : goal.returns-clause-laid
returns-clause-laid c =
    record { tokens = lexemes_of c.in_ok-tokens.tokens.items; spelled = c.in_ok-tokens.ensures.spelled; laid = laid-at c }

pub returns-clause-same : goal.returns-clause-same
returns-clause-same c =
    laid-same c.args.text.now c.in_ok-formatted.formatted.items (lexemes_of c.in_ok-tokens.tokens.items) c.in_ok-tokens.ensures.spelled (laid-at c)

pub returns-clause-settled : goal.returns-clause-settled
returns-clause-settled c =
    laid-settled c.args.text.now c.in_ok-formatted.formatted.items (lexemes_of c.in_ok-tokens.tokens.items) c.in_ok-tokens.ensures.spelled (laid-at c)
