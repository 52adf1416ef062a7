use Rattle.sc_serve.proofs.ServedLemmas.{flushed}
use Rattle.sc_serve.proofs.delivery.write_out.Goals as goal

-- all is written, but may be held back
pub returns-in-Ok-clause-err : goal.returns-in-Ok-clause-err
returns-in-Ok-clause-err g c =
    flushed _ _ _ c.args.text.now c.flush.result c.in-Ok.ensures.ok c.flush.ensures.bytes
