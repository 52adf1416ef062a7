use Rattle.sc_headline.proofs.Exactness.{one_world}
use Rattle.sc_headline.proofs.laws.worlds_are_one.Goals as goal

pub returns : goal.returns
returns c = one_world c.runs_are_functional.ensures
