use Rattle.std.proofs.Common.{true, ap, sym, ◌∙◌}
use Rattle.std.specs.Option.{option_map_or}
use Rattle.sc_rules.specs.Typing.{takes_if_any}
use Rattle.sc_typing.specs.Views.{formals_in, formal_if_any, types_in}
use Rattle.sc_class.specs.SystemIn.{system_in}
use Rattle.sc_typing.proofs.ActualNumbers.{taken_at}
use Rattle.sc_typing.proofs.expressions.actuals.Passing.is_taken.Goals as goal

pub returns-in-None : goal.returns-in-None
returns-in-None c =
    let s = system_in c.args.tables.now in
    let ts = types_in c.args.self.now.found.now in
    sym (taken_at s c.args.self.now.target ts (formals_in s c.args.formals) c.args.number c.args.actual
    ∙ ap (λ o. option_map_or (λ f. takes_if_any s c.args.self.now.target ts f c.args.actual) o true) (sym c.formal_at.ensures ∙ ap formal_if_any c.in-None.is))

pub returns-in-Some : goal.returns-in-Some
returns-in-Some c =
    let s = system_in c.args.tables.now in
    let ts = types_in c.args.self.now.found.now in
    c.takes_if_any.ensures
    ∙ sym (taken_at s c.args.self.now.target ts (formals_in s c.args.formals) c.args.number c.args.actual
    ∙ ap (λ o. option_map_or (λ f. takes_if_any s c.args.self.now.target ts f c.args.actual) o true) (sym c.formal_at.ensures ∙ ap formal_if_any c.in-Some.is))
