use Rattle.std.proofs.Common.{map}
use Rattle.sc_serve.proofs.ServedLemmas.{helped, response}
use Rattle.sc_serve.proofs.serve.respond.Goals as goal

-- what is asked for is answered
pub returns-in-Ok : goal.returns-in-Ok
returns-in-Ok g c =
    response (map g.S.AsStr.text c.args.arguments.now) (g.F.Files.bytes_of c.args.files.now) c.in-Ok.invocation c.answer_to.result
    (rw c.in-Ok.is at c.requires) c.answer_to.ensures

-- or help
pub returns-in-Err : goal.returns-in-Err
returns-in-Err g c =
    helped (map g.S.AsStr.text c.args.arguments.now) (g.F.Files.bytes_of c.args.files.now) c.answer_unasked.result c.answer_unasked.ensures
