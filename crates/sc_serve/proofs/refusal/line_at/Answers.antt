use Rattle.std.specs.Prelude.{◌≡◌, IfOk, string_bytes}
use Rattle.std.specs.Option.{option_map}
use Rattle.std.proofs.Common.{sym, subst}
use Rattle.sc_source.specs.Source.{seen}
use Rattle.sc_serve.specs.Refusal.{refusal_line}
use Rattle.sc_serve.proofs.refusal.line_at.Goals as goal

pub returns-in-None : goal.returns-in-None
returns-in-None c =
    subst (λ place. IfOk c.format.result (λ line. string_bytes line
    ≡ refusal_line c.args.code.now c.args.name.now (option_map seen place))) (sym c.in-None.is)
    c.format.ensures.ok
