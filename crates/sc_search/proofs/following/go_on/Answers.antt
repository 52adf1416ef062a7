use Rattle.std.proofs.Common.{◌∷◌, [], ℕ, Option, refl, subst, arith}
use Rattle.std.specs.Prelude.{IfSome}
use Rattle.sc_world.specs.Views.{world_in}
use Rattle.sc_search.specs.Joined.{FollowsAtOnce}
use Rattle.sc_search.proofs.Joins.{by_more, by_none, by_within}
use Rattle.sc_search.proofs.following.go_on.Goals as goal

pub loop-init : goal.loop-init
loop-init c = record {
  goes = by_none c.args.turns.now.items (world_in c.args.world.now);
  of = λ p limit is. is;
}

pub loop-preserved : goal.loop-preserved
loop-preserved c =
    let h = c.in-Some.next in
    let x = world_in c.args.world.now in
    let y = world_in c.loop.world in
    let z = world_in c.turn.new.self in
    let asks : FollowsAtOnce h y = subst (λ (o : Option ℕ). IfSome o (λ (k : ℕ). FollowsAtOnce k y)) c.in-Some.is c.in_ok-next.ensures in
    record {
      goes = by_more c.loop.counter h c.args.turns.now.items c.loop.turns.items c.push.new.self.items x y z c.loop.invariant.goes asks c.in_ok-turn.ensures.ok
          c.in_ok-push.ensures.items;
      of = λ p limit is.
          c.runs_stay_of_their_program.ensures p limit (h ∷ []) y z (c.loop.invariant.of p limit is) (z, c.in_ok-turn.ensures.ok, refl);
    }

pub returns-in_default-clause-goes : goal.returns-in_default-clause-goes
returns-in_default-clause-goes c =
    by_within c.loop.counter c.args.most c.args.turns.now.items c.loop.turns.items (world_in c.args.world.now) (world_in c.loop.world)
    (omega (arith, c.loop.auto.counter-end)) c.loop.invariant.goes

pub returns-clause-goes : goal.returns-clause-goes
returns-clause-goes c =
    by_within c.loop.counter c.args.most c.args.turns.now.items c.loop.turns.items (world_in c.args.world.now) (world_in c.loop.world)
    (omega (arith, c.loop.auto.counter-end)) c.loop.invariant.goes
