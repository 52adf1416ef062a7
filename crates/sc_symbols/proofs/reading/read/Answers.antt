use Rattle.sc_tree.specs.View.{system_of}
use Rattle.sc_frontend.proofs.TextLemmas.{system-read}
use Rattle.sc_symbols.proofs.reading.read.Goals as goal

pub returns-in-Ok-parse : goal.returns-in-Ok-parse
returns-in-Ok-parse c =
    let answer = rw c.as_slice.ensures.value at c.in-Ok-parse.ensures.answer in
    let placed = rw c.as_slice.ensures.value at c.in-Ok-parse.ensures.placed in
    system-read c.args.text.now c.in-Ok.tokens.items (system_of c.in-Ok-parse.system) answer.0 c.in-Ok.ensures.spelled
    (λ long. let bad = c.in-Ok.ensures.too_long.1 long in cc) answer.1 answer.2 placed
