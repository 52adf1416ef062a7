use Rattle.sc_refines_world.proofs.regions.ProgramTables.{programs_serve}
use Rattle.sc_refines_world.proofs.regions.half_laws.programs_serve.Goals as goal

pub returns : goal.returns
returns c = programs_serve c.features_without_a_parent.ensures c.features_differ.ensures c.found_features_stand.ensures
