use Rattle.std.specs.Prelude.{◌≡◌, IfOk, string_bytes}
use Rattle.std.proofs.Common.{subst}
use Rattle.sc_serve.proofs.RefusalLemmas.{placed}
use Rattle.sc_serve.proofs.refusal.placed_line.Goals as goal

pub returns : goal.returns
returns c =
    subst (λ text. IfOk c.format.result (λ line. string_bytes line ≡ text))
    (placed c.args.code.now c.args.name.now c.args.file.now c.args.line c.args.column) c.format.ensures.ok
