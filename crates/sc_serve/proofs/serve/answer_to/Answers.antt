use Rattle.sc_serve.proofs.ServedLemmas.{formatted}
use Rattle.sc_serve.proofs.serve.answer_to.Goals as goal

-- what is answered, in the format that is asked for
pub returns : goal.returns
returns g c =
    formatted (g.F.Files.bytes_of c.args.files.now) c.args.invocation.now c.format_asked.result c.in_ok-answer.answer c.formatted.result
    c.format_asked.ensures c.in_ok-answer.ensures c.formatted.ensures
