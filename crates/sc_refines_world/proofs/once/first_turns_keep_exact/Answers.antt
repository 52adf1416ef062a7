use Rattle.sc_refines_world.proofs.Turned.{first_turns_keep_exact}
use Rattle.sc_refines_world.proofs.once.first_turns_keep_exact.Goals as goal

pub returns : goal.returns
returns c =
    first_turns_keep_exact c.programs_serve.ensures c.distinct_names_have_numbers.ensures c.creators_are_told.ensures
    c.sound_jobs_are_taken.ensures
