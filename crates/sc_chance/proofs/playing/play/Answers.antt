use Rattle.sc_chance.proofs.playing.play.Goals as goal

-- the world that is left is one of the program, and what is kept of the opening stays
pub returns-clause-stage : goal.returns-clause-stage
returns-clause-stage c = record {
  of = c.in_ok-lines.ensures.reached.alike.of;
  regions = c.in_ok-reopen.ensures.stage.regions;
  parts = c.in_ok-reopen.ensures.stage.parts;
}
