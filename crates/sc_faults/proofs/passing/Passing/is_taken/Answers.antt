use Rattle.std.proofs.Common.{drop, ap, sym, ◌∙◌}
use Rattle.sc_class.specs.SystemIn.{system_in}
use Rattle.sc_rules.specs.Judging.{is_taken}
use Rattle.sc_typing.specs.Views.{formals_in, types_in}
use Rattle.sc_faults.proofs.CallSteps.{taken_untyped}
use Rattle.sc_faults.proofs.passing.Passing.is_taken.Goals as goal

pub returns-in-None : goal.returns-in-None
returns-in-None c =
    let s = system_in c.args.tables.now in
    let ts = types_in c.args.self.now.found.now in
    let fs = drop c.args.number (formals_in s c.args.self.now.formals) in
    sym (ap (λ a. is_taken s c.args.self.now.target ts fs a) c.in-None.is ∙ taken_untyped s c.args.self.now.target ts fs)
