use Rattle.std.proofs.Common.{map}
use Rattle.sc_serve.proofs.ServedLemmas.{served}
use Rattle.sc_serve.proofs.serve.serve.Goals as goal

-- what is answered is delivered
pub returns-in-Ok : goal.returns-in-Ok
returns-in-Ok g c =
    served (map g.S.AsStr.text c.args.arguments.now) (g.F.Files.bytes_of c.args.files.now) c.in-Ok.answer _ _ _ c.in-Ok.ensures c.deliver.ensures
