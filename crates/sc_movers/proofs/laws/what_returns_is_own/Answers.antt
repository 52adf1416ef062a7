use Rattle.sc_movers.proofs.ReturnedWorlds.{all_return_own}
use Rattle.sc_movers.proofs.laws.what_returns_is_own.Goals as goal

pub returns : goal.returns
returns c =
    all_return_own
    c.first_turns_are_functional.ensures
    c.first_turns_keep_exact.ensures
    c.core_picks_where_the_machine_turns.ensures
    c.core_settles_as_half_where_reached.ensures
    c.entries_are_remembered.ensures
    c.settled_objects_meet.ensures
    c.regions_follow.ensures
    c.regions_ask.ensures
    c.others_keep_halves.ensures
    c.created_are_new.ensures
    c.openings_are_in_order.ensures
    c.turns_keep_order.ensures
    c.new_stores_are_sound.ensures
    c.sound_jobs_are_taken.ensures
    c.ends_the_one.ensures
