use Rattle.std.proofs.Common.{◌∷◌, [], refl}
use Rattle.sc_world.specs.Views.{world_in}
use Rattle.sc_search.proofs.LineTurns.{moves_more}
use Rattle.sc_search.proofs.movers.move_on.Goals as goal

pub loop-preserved : goal.loop-preserved
loop-preserved c = record {
  moves = moves_more c.args.turns.now.items c.loop.turns.items c.push.new.self.items c.in-Some.handler (world_in c.args.world.now) (world_in c.loop.world)
      (world_in c.turn.new.self) c.loop.invariant.moves c.in_ok-turn.ensures.ok c.in_ok-push.ensures.items;
  of = λ p most is.
      c.runs_stay_of_their_program.ensures p most (c.in-Some.handler ∷ []) (world_in c.loop.world) (world_in c.turn.new.self) (c.loop.invariant.of p most is)
      (world_in c.turn.new.self, c.in_ok-turn.ensures.ok, refl);
}

pub returns-then-not-matches-clause-of : goal.returns-then-not-matches-clause-of
returns-then-not-matches-clause-of c = λ p most is.
    c.runs_stay_of_their_program.ensures p most (c.in-Some.handler ∷ []) (world_in c.loop.world) (world_in c.turn.new.self) (c.loop.invariant.of p most is)
    (world_in c.turn.new.self, c.in_ok-turn.ensures.ok, refl)
