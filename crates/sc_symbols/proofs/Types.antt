-- The types that judging gives are those that the rules give.
use Rattle.std.proofs.Common.{◌≡◌, Bool, Some, Ok, Err, ap, subst}
use Rattle.sc_tree.specs.Plain.{Expr}
use Rattle.sc_rules.specs.declared.entity_types.entity_type.EntityType.{EntityType}
use Rattle.sc_rules.specs.declared.position.Context.{Context}
use Rattle.sc_rules.specs.declared.position.Position.TheVariants.{Plain}
use Rattle.sc_rules.specs.Names.{RoutineContext, Entities}
use Rattle.sc_rules.specs.Typing.{Typing, typing, HasType}
use Rattle.sc_rules.specs.Judging.{Judged, judge, judged_type}
use Rattle.sc_rules.proofs.Complete.{typed}
use Rattle.sc_rules.proofs.Refusals.{gave, refuses}
use Rattle.sc_rules.proofs.Sound.{told}
use Rattle.sc_rules.proofs.ToldActuals.{Told}
use Rattle.sc_symbols.specs.Internal.{judged}
use Rattle.sc_symbols.specs.Mentions.{AreTypes}

module _ (h : RoutineContext) (c : Context) (n : Entities) (e : Expr) (t : EntityType) where
  found : (j : Judged Typing) → Told h c Plain n e j → judged_type j ≡ Some t → (b : Bool) × HasType h c Plain n e (typing (Some t) b)
  found (Ok u) (gave d) q = (u.is_separate, subst (λ o. HasType h c Plain n e (typing o u.is_separate)) q d)
  found (Err f) g q = cc

pub are_types : AreTypes judged
are_types h c n e t = (λ q. found h c n e t (judge h c Plain n e) (told h c Plain n e) q, λ d. ap judged_type (typed d.1))
