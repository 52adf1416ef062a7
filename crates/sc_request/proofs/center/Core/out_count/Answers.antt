use Rattle.std.proofs.Common.{sym, ◌∙◌}
use Rattle.sc_request.proofs.Outs.{none_out}
use Rattle.sc_request.proofs.center.Core.out_count.Goals as goal

pub returns-clause-none : goal.returns-clause-none
returns-clause-none c = λ is h. none_out c.args.self.now.state.handlers.items h (sym c.args.self.now.counted ∙ is)
