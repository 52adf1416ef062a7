use Rattle.sc_movers.proofs.Movers.{turns_are_movers}
use Rattle.sc_movers.proofs.laws.turns_are_movers.Goals as goal

pub returns : goal.returns
returns c =
    turns_are_movers
    c.kept_alike_turn_alike.ensures
    c.openings_are_of_their_program.ensures
    c.runs_stay_of_their_program.ensures
    c.runs_are_functional.ensures
    c.what_returns_is_own.ensures
    c.no_idle_handler_is_pushed.ensures
    c.who_waits_unlent_hears_nothing.ensures
