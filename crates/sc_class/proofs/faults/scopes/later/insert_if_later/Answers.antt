use Rattle.std.proofs.Common.{◌≡◌, List, sym, subst, ◌∙◌}
use Rattle.std.specs.Prelude.{OnOk}
use Rattle.sc_text.specs.declared.token.Span.{Span}
use Rattle.sc_tree.specs.View.{name_of}
use Rattle.sc_class.proofs.ScopeSteps.{later_one, later_none}
use Rattle.sc_class.proofs.faults.scopes.later.insert_if_later.Goals as goal

pub returns-then-is_later_like : goal.returns-then-is_later_like
returns-then-is_later_like c =
    subst (λ (ps : List Span). OnOk c.insert.result (c.insert.new.self ≡ ps)) (later_one c.args.found.now (name_of c.args.one.now) (name_of c.args.name.now) (sym c.is_later_like.ensures ∙ c.if-is_later_like.true)) c.insert.ensures

pub returns : goal.returns
returns c = later_none c.args.found.now (name_of c.args.one.now) (name_of c.args.name.now) (sym c.is_later_like.ensures ∙ c.if-is_later_like.false)
