use Rattle.std.proofs.Common.{◌≡◌, ◌++◌, ◌∷◌, ◌∙◌, [], ℕ, List, length, sym, ap, subst, arith}
use Rattle.sc_lockpass.specs.Versions.{most_handlers}
use Rattle.sc_model.specs.declared.status.Status.{Status}
use Rattle.sc_world.specs.declared.configuration.Configuration.{Configuration}
use Rattle.sc_world.specs.Views.{world_in}
use Rattle.sc_world.specs.Kept.{IsOf}
use Rattle.sc_search.specs.declared.store.Store.{Store}
use Rattle.sc_search.specs.Steps.{AddsEdge}
use Rattle.sc_search.specs.Stops.{AreReached}
use Rattle.sc_search.specs.Stored.{order_after}
use Rattle.sc_search.specs.Tuples.{state_by}
use Rattle.sc_search.specs.Views.{contents_in, met_of, orders_in, orders_of, parts_in, states_in, states_of, statuses_in, statuses_of}
use Rattle.sc_search.proofs.LoadedStates.{keeps_pushed, reached_kept}
use Rattle.sc_search.proofs.Reasons.{full, played_out}
use Rattle.sc_search.proofs.progress.Progress.keep_new.Goals as goal

pub returns-then-number-limits-clause-stops : goal.returns-then-number-limits-clause-stops
returns-then-number-limits-clause-stops c =
    let x = c.args.self.now in
    full c.args.subject.program.now.image c.args.subject.version c.args.subject.aim (states_of x) (orders_of x) (statuses_of x) x.turns
    c.args.limits c.give_up.result c.requires.reached.reached (omega (arith, c.if-number-limits.true, c.len-number.ensures))
    c.give_up.ensures.reason c.give_up.ensures.states

pub returns-then-self-limits-clause-stops : goal.returns-then-self-limits-clause-stops
returns-then-self-limits-clause-stops c =
    played_out c.args.subject.program.now.image c.args.subject.version c.args.subject.aim c.args.self.now.turns c.args.limits c.give_up-then-self-limits.result
    c.requires.reached.reached.played (omega (arith, c.if-self-limits.true)) c.give_up-then-self-limits.ensures.reason c.give_up-then-self-limits.ensures.turns

pub returns-clause-keeps : goal.returns-clause-keeps
returns-clause-keeps c =
    let a = c.args.subject.aim in
    let x = c.args.self.now in
    let w = world_in x.world in
    let before : c.push_edge.new.self.store ≡ x.store = c.push_edge.ensures.store ∙ c.push_end.ensures.store in
    let tuple : c.deref.result.now ≡ x.tuple.items = c.deref.ensures.value ∙ ap (λ v. v.items) (c.push_edge.ensures.tuple ∙ c.push_end.ensures.tuple) in
    let edge : AddsEdge c.args.way.parent c.len-number.result (length c.args.way.turns.now) x.edges.items c.push_edge.new.self.edges.items =
    subst (λ es. AddsEdge c.args.way.parent c.len-number.result (length c.args.way.turns.now) es.items c.push_edge.new.self.edges.items) c.push_end.ensures.edges c.in_ok-push_edge.ensures.edge in
    keeps_pushed a w c.args.way.parent (length c.args.way.turns.now) (met_of x) (record { states = states_in c.push.new.self; edges = c.push_edge.new.self.edges.items })
    (state_by (contents_in x.store) (parts_in x.store) x.tuple.items) c.len-number.result c.requires.unmet
    (c.in_ok-push.ensures.states
    ∙ ap (λ (s : Store). states_in s ++ state_by (contents_in s) (parts_in s) c.deref.result.now ∷ []) before
    ∙ ap (λ (t : List ℕ). states_in x.store ++ state_by (contents_in x.store) (parts_in x.store) t ∷ []) tuple)
    c.requires.kept.kept_is c.len-number.ensures edge

pub returns-clause-reached : goal.returns-clause-reached
returns-clause-reached c =
    let p = c.args.subject.program.now.image in
    let v = c.args.subject.version in
    let a = c.args.subject.aim in
    let x = c.args.self.now in
    let w = world_in x.world in
    let before : c.push_edge.new.self.store ≡ x.store = c.push_edge.ensures.store ∙ c.push_end.ensures.store in
    let tuple : c.deref.result.now ≡ x.tuple.items = c.deref.ensures.value ∙ ap (λ v. v.items) (c.push_edge.ensures.tuple ∙ c.push_end.ensures.tuple) in
    let states =
    c.in_ok-push.ensures.states
    ∙ ap (λ (s : Store). states_in s ++ state_by (contents_in s) (parts_in s) c.deref.result.now ∷ []) before
    ∙ ap (λ (t : List ℕ). states_in x.store ++ state_by (contents_in x.store) (parts_in x.store) t ∷ []) tuple
    ∙ ap (λ k. states_in x.store ++ k ∷ []) c.requires.kept.kept_is in
    let orders = c.in_ok-push.ensures.orders ∙ ap (λ (s : Store). orders_in s ++ order_after (orders_in s) c.args.way.parent c.args.way.turns.now ∷ []) before in
    let told =
    c.in_ok-push.ensures.statuses ∙ ap (λ (s : Store). statuses_in s ++ c.args.statuses.now ∷ []) before
    ∙ ap (λ (ss : List Status). statuses_of x ++ ss ∷ []) c.requires.told in
    let turns : c.push_edge.new.self.turns ≡ x.turns = c.push_edge.ensures.turns ∙ c.push_end.ensures.turns in
    let world : c.push_edge.new.self.world ≡ x.world = c.push_edge.ensures.world ∙ c.push_end.ensures.world in
    record {
      reached = subst (λ (n : ℕ). AreReached p v a (states_in c.push.new.self) (orders_in c.push.new.self) (statuses_in c.push.new.self) n) (sym turns)
          (reached_kept p v a c.openings_are_of_their_program.ensures c.runs_stay_of_their_program.ensures c.kept_alike_read_alike.ensures (states_of x)
          (states_in c.push.new.self) (orders_of x) (orders_in c.push.new.self) (statuses_of x) (statuses_in c.push.new.self) x.turns
          (order_after (orders_of x) c.args.way.parent c.args.way.turns.now) w c.requires.reached.of c.requires.leads c.requires.unmet states orders told c.requires.reached.reached);
      stored = c.in_ok-push.ensures.stored;
      of = subst (λ (u : Configuration). IsOf p (most_handlers v) (world_in u)) (sym world) c.requires.reached.of;
    }
