use Rattle.sc_language_server.proofs.Messages.{writes_one}
use Rattle.sc_language_server.proofs.serving.write_body.Goals as goal

pub returns : goal.returns
returns g c = writes_one _ _ c.args.body.now c.in_ok-write_message.ensures
