use Rattle.std.proofs.Common.{sym, ◌∙◌}
use Rattle.sc_language_server.proofs.Messages.{framed_by}
use Rattle.sc_language_server.proofs.framing.write_message.Goals as goal

pub returns : goal.returns
returns g c =
    framed_by _ _ _ _ _ _ _ c.args.body.now c.flush.result (c.as_bytes.ensures.value ∙ c.format.ensures.text)
    c.in_ok-write_all.ensures.bytes c.in_ok-write_all-2.ensures.bytes c.in_ok-write_all-3.ensures.bytes c.in_ok-write_all-4.ensures.bytes c.flush.ensures.bytes
