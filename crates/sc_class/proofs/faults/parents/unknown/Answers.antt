use Rattle.std.proofs.Common.{◌≡◌, refl, rules}
use Rattle.sc_text.specs.declared.token.Span.{Span}
use Rattle.sc_tree.specs.Plain.{System, Parent}
use Rattle.sc_class.specs.Tables.Ancestors.{UnknownParentAt, unknown_parent}
use Rattle.sc_class.proofs.faults.parents.unknown.Goals as goal

there : (s : System) (q : Parent) (p : Span) → UnknownParentAt s q p → p ≡ q.name.span
there s q _ (unknown_parent a b) = refl

pub returns-in-None : goal.returns-in-None
returns-in-None c = (unknown_parent (search rules) (search rules), λ p y. there _ _ p y)
