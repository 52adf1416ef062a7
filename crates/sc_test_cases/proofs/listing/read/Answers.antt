use Rattle.sc_tree.specs.View.{system_of}
use Rattle.sc_frontend.specs.Texts.{IsUnreadable}
use Rattle.sc_frontend.specs.Rejection.{of_tokens}
use Rattle.sc_frontend.proofs.TextLemmas.{err-is, system-read, tokens-refused}
use Rattle.sc_test_cases.proofs.listing.read.Goals as goal

pub returns-in_err-parse-clause-refused : goal.returns-in_err-parse-clause-refused
returns-in_err-parse-clause-refused c =
    let answer = rw c.as_slice.ensures.value at c.in_err-parse.ensures.answer in
    err-is (IsUnreadable c.args.text.now) c.from_residual-in_err-parse.result (of_tokens c.in_err-parse.field-0.0)
    c.from_residual-in_err-parse.ensures.1
    (tokens-refused c.args.text.now c.in_ok-tokens.tokens.items c.in_err-parse.field-0.0 c.in_ok-tokens.ensures.spelled answer)

pub returns-clause-read : goal.returns-clause-read
returns-clause-read c =
    let answer = rw c.as_slice.ensures.value at c.in_ok-parse.ensures.answer in
    let placed = rw c.as_slice.ensures.value at c.in_ok-parse.ensures.placed in
    system-read c.args.text.now c.in_ok-tokens.tokens.items (system_of c.in_ok-parse.field-0) answer.0 c.in_ok-tokens.ensures.spelled
    (λ long. let bad = c.in_ok-tokens.ensures.too_long.1 long in cc) answer.1 answer.2 placed
