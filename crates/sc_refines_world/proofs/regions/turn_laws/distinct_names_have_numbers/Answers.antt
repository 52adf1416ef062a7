use Rattle.sc_refines_world.proofs.regions.TurnWants.{distinct_names_have_numbers}
use Rattle.sc_refines_world.proofs.regions.turn_laws.distinct_names_have_numbers.Goals as goal

pub returns : goal.returns
returns c = distinct_names_have_numbers
