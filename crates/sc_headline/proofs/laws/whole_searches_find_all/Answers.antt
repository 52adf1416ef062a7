use Rattle.sc_headline.proofs.SearchLaws.{whole}
use Rattle.sc_headline.proofs.laws.whole_searches_find_all.Goals as goal

pub returns : goal.returns
returns c =
    whole
    c.anew_runs_as_machine.ensures
    c.kept_alike_read_alike.ensures
    c.standing_world_is_near.ensures
    c.world_reports_as_machine.ensures
    c.turns_are_movers.ensures
    c.openings_are_of_their_program.ensures
    c.runs_stay_of_their_program.ensures
