use Rattle.sc_headline.proofs.SearchLaws.{gives_up}
use Rattle.sc_headline.proofs.laws.searches_give_up_at_limits.Goals as goal

pub returns : goal.returns
returns c = gives_up c.worlds_are_one.ensures
