use Rattle.std.proofs.Common.{◌≡◌, ◌<◌, ◌≤◌, ℕ, true, false, List, subst, arith}
use Rattle.std.specs.Prelude.{OnOk, nat_lt}
use Rattle.sc_text.specs.declared.token.Span.{Span}
use Rattle.sc_tree.specs.View.{name_of}
use Rattle.sc_class.proofs.ScopeSteps.{own_one, own_none}
use Rattle.sc_class.proofs.faults.scopes.later.insert_unless_before.Goals as goal

less : (a b : ℕ) → a < b → nat_lt a b ≡ true
less a b l = grind arith

not_less : (a b : ℕ) → b ≤ a → nat_lt a b ≡ false
not_less a b l = grind arith

pub returns-then-name-first : goal.returns-then-name-first
returns-then-name-first c = own_none c.args.found.now c.args.first (name_of c.args.name.now) (less c.args.name.now.span.start c.args.first.start c.if-name-first.true)

pub returns : goal.returns
returns c =
    subst (λ (ps : List Span). OnOk c.insert.result (c.insert.new.self ≡ ps)) (own_one c.args.found.now c.args.first (name_of c.args.name.now) (not_less c.args.name.now.span.start c.args.first.start c.if-name-first.false)) c.insert.ensures
