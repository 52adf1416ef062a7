use Rattle.std.proofs.Common.{ap}
use Rattle.sc_tree.specs.View.{system_of}
use Rattle.sc_frontend.specs.Texts.{IsUnreadable}
use Rattle.sc_frontend.specs.Rejection.{of_tokens, out_of_memory}
use Rattle.sc_frontend.proofs.TextLemmas.{system-read, tokens-refused, tree-found, err-is, only-err-is}
use Rattle.sc_frontend.proofs.texts.read.Goals as goal

pub returns-in_err-parse-clause-refused : goal.returns-in_err-parse-clause-refused
returns-in_err-parse-clause-refused c =
    let answer = rw c.as_slice.ensures.value at c.in_err-parse.ensures.answer in
    err-is (IsUnreadable c.args.text.now) c.from_residual-in_err-parse.result (of_tokens c.in_err-parse.field-0.0)
    c.from_residual-in_err-parse.ensures.1
    (tokens-refused c.args.text.now c.in_ok-tokens.tokens.items c.in_err-parse.field-0.0 c.in_ok-tokens.ensures.spelled answer)

pub returns-in_err-parse-clause-found : goal.returns-in_err-parse-clause-found
returns-in_err-parse-clause-found c = λ tree is.
    let same = c.in_ok-tokens.ensures.complete is.tokens is.short is.spelled in
    let found = rw c.as_slice.ensures.value at c.in_err-parse.ensures.found in
    let memory = found tree is.nesting is.shallow (tree-found c.args.text.now c.in_ok-tokens.tokens.items tree is same) in
    only-err-is _ c.from_residual-in_err-parse.result (of_tokens c.in_err-parse.field-0.0) out_of_memory c.from_residual-in_err-parse.ensures.1 (ap of_tokens memory)

pub returns-clause-read : goal.returns-clause-read
returns-clause-read c =
    let answer = rw c.as_slice.ensures.value at c.in_ok-parse.ensures.answer in
    let placed = rw c.as_slice.ensures.value at c.in_ok-parse.ensures.placed in
    system-read c.args.text.now c.in_ok-tokens.tokens.items (system_of c.in_ok-parse.field-0) answer.0 c.in_ok-tokens.ensures.spelled
    (λ long. let bad = c.in_ok-tokens.ensures.too_long.1 long in cc) answer.1 answer.2 placed

pub returns-clause-found : goal.returns-clause-found
returns-clause-found c = λ tree is.
    let same = c.in_ok-tokens.ensures.complete is.tokens is.short is.spelled in
    let found = rw c.as_slice.ensures.value at c.in_ok-parse.ensures.found in
    found tree is.nesting is.shallow (tree-found c.args.text.now c.in_ok-tokens.tokens.items tree is same)
