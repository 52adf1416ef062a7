use Rattle.std.proofs.Common.{◌∙◌, ℕ, List, subst}
use Rattle.sc_lockpass.specs.Versions.{most_handlers}
use Rattle.sc_request.specs.Cores.{center_of}
use Rattle.sc_world.specs.Views.{world_in}
use Rattle.sc_search.specs.declared.store.Store.{Store}
use Rattle.sc_search.specs.Stored.{IsAlikeAfter, order_after}
use Rattle.sc_search.specs.Views.{orders_in, orders_of}
use Rattle.sc_search.proofs.Loaded.{meets_after}
use Rattle.sc_search.proofs.LoadedStates.{after_movers}
use Rattle.sc_search.proofs.Reasons.{met_by}
use Rattle.sc_search.proofs.movers.play_movers.Goals as goal

pub returns-then-is_met-clause-rests : goal.returns-then-is_met-clause-rests
returns-then-is_met-clause-rests c =
    let p = c.args.subject.program.now.image in
    let v = c.args.subject.version in
    let a = c.args.subject.aim in
    let x = c.args.progress.now in
    let w = world_in c.go.new.self.world in
    let after =
    subst (λ (hs : List ℕ). IsAlikeAfter p v (order_after (orders_of x) c.args.parent hs) w) c.deref.ensures.value
    (subst (λ (s : Store). IsAlikeAfter p v (order_after (orders_in s) c.args.parent c.deref.result.now) w) c.loop.invariant.store c.in_ok-go.ensures.after) in
    let met =
    met_by a c.is_met.result c.deref-in-loop.result.now (center_of c.core.result.now) w c.is_met.ensures c.if-is_met.true
    (c.deref-in-loop.ensures.value ∙ c.in_ok-statuses.ensures) c.core.ensures.center in
    meets_after c.openings_are_of_their_program.ensures c.runs_stay_of_their_program.ensures p v c.kept_alike_read_alike.ensures a
    (order_after (orders_of x) c.args.parent c.loop.turns.items) w c.in_ok-go.ensures.reached.of after met

pub returns-in-All-clause-reached : goal.returns-in-All-clause-reached
returns-in-All-clause-reached c = record {
  reached = c.in_ok-go.ensures.reached.reached;
  stored = c.in_ok-go.ensures.reached.stored;
  of = c.in_ok-move_on.ensures.of c.args.subject.program.now.image (most_handlers c.args.subject.version) c.in_ok-go.ensures.reached.of;
}

pub returns-in-All-clause-rests : goal.returns-in-All-clause-rests
returns-in-All-clause-rests c =
    let p = c.args.subject.program.now.image in
    let v = c.args.subject.version in
    let x = c.args.progress.now in
    let w = world_in c.go.new.self.world in
    let after =
    subst (λ (hs : List ℕ). IsAlikeAfter p v (order_after (orders_of x) c.args.parent hs) w) c.deref.ensures.value
    (subst (λ (s : Store). IsAlikeAfter p v (order_after (orders_in s) c.args.parent c.deref.result.now) w) c.loop.invariant.store c.in_ok-go.ensures.after) in
    after_movers p v c.args.subject.aim c.openings_are_of_their_program.ensures c.runs_stay_of_their_program.ensures c.kept_alike_turn_alike.ensures (orders_of x)
    c.args.parent c.loop.turns.items c.move_on.new.turns.items w (world_in c.move_on.new.world) c.in_ok-go.ensures.reached.of after
    (c.in_ok-move_on.ensures.moves c.in-All.is)

pub returns-in-TooMany-clause-reached : goal.returns-in-TooMany-clause-reached
returns-in-TooMany-clause-reached c = record {
  reached = c.in_ok-go.ensures.reached.reached;
  stored = c.in_ok-go.ensures.reached.stored;
  of = c.in_ok-move_on.ensures.of c.args.subject.program.now.image (most_handlers c.args.subject.version) c.in_ok-go.ensures.reached.of;
}

pub loop-preserved : goal.loop-preserved
loop-preserved c = record {
  store = c.go.ensures.store ∙ c.loop.invariant.store;
  edges = c.go.ensures.edges ∙ c.loop.invariant.edges;
  reached = record {
    reached = c.in_ok-go.ensures.reached.reached;
    stored = c.in_ok-go.ensures.reached.stored;
    of = c.in_ok-move_on.ensures.of c.args.subject.program.now.image (most_handlers c.args.subject.version) c.in_ok-go.ensures.reached.of;
  };
}
