use Rattle.std.proofs.Common.{rules}
use borrow.Author.Tests.{tests}
use Rattle.std.proofs.lemmas.Iterator.{YieldsList-from_slice}
use Rattle.std.proofs.lemmas.Iterator.Search.{position_from_yields_List}
use Rattle.sc_lower.specs.AttributeBindings.{is_named}
use Rattle.sc_lower.proofs.program.attributes.place.Goals as goal

pub returns : goal.returns
returns c = position_from_yields_List (is_named c.args.name.now) _ _ _ c.position.ensures.ran (YieldsList-from_slice c.args.attributes.now (cc)) (λ x b q k. search (rules, tests))
