use Rattle.std.proofs.Common.{◌∙◌, slice_get, sym, ap}
use Rattle.sc_chance.specs.Found.{IsReported}
use Rattle.sc_chance.specs.Outcomes.{reports_of}
use Rattle.sc_chance.specs.Sought.{shows}
use Rattle.sc_chance.proofs.Reports.{first_of, none_played, one_more_played}
use Rattle.sc_chance.proofs.running.play_until.Goals as goal

-- there is none yet
pub loop-number-init : goal.loop-number-init
loop-number-init c = record {
  stage = c.in_ok-stage.ensures;
  played = none_played (IsReported c.args.program.now.image c.args.limit) _ c.in_ok-outcomes.ensures;
}

-- one more
pub loop-number-preserved : goal.loop-number-preserved
loop-number-preserved c = record {
  stage = c.in_ok-run.ensures.stage;
  played =
      one_more_played (IsReported c.args.program.now.image c.args.limit) _ _ _ _ c.in_ok-count.ensures
      c.loop-number.invariant.played
      (record { lines = c.in_ok-run.run'.lines.items; hows = c.in_ok-run.run'.statuses.items; is_run = c.in_ok-run.ensures.run });
}

-- the run that was found, and the report of the first one
pub returns-then-shows : goal.returns-then-shows
returns-then-shows c = record {
  is_run = c.in_ok-run.ensures.run;
  first = slice_get (reports_of c.loop-number.outcomes) 0;
  of_run =
      first_of (IsReported c.args.program.now.image c.args.limit) _ (reports_of c.loop-number.outcomes)
      c.loop-number.invariant.played;
  shows_it =
      ap (shows c.args.sought c.in_ok-run.run') (sym c.first.ensures) ∙ sym c.shows.ensures ∙ c.if-shows.true;
}
