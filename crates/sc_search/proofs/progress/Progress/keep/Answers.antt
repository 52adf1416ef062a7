use Rattle.std.proofs.Common.{◌≡◌, ◌∙◌, ℕ, List, Some, length, slice_get, sym, ap, subst}
use Rattle.sc_request.specs.Cores.{center_of}
use Rattle.sc_world.specs.declared.configuration.Configuration.{Configuration}
use Rattle.sc_world.specs.Views.{world_in}
use Rattle.sc_world.specs.Kept.{PlainKept, kept}
use Rattle.sc_search.specs.Aims.{IsMet}
use Rattle.sc_search.specs.Steps.{AddsEdge}
use Rattle.sc_search.specs.Stops.{MeetsAfter}
use Rattle.sc_search.specs.Stored.{order_after}
use Rattle.sc_search.specs.Tuples.{state_by}
use Rattle.sc_search.specs.Views.{contents_in, met_of, orders_of, parts_in, states_in, states_of}
use Rattle.sc_search.proofs.KeptStates.{keeps_found, of_world}
use Rattle.sc_search.proofs.Loaded.{meets_after}
use Rattle.sc_search.proofs.OrderEnds.{unmet_by}
use Rattle.sc_search.proofs.Reasons.{met_by}
use Rattle.sc_search.proofs.progress.Progress.keep.Goals as goal

pub returns-then-is_met-clause-stops : goal.returns-then-is_met-clause-stops
returns-then-is_met-clause-stops c =
    let p = c.args.subject.program.now.image in
    let v = c.args.subject.version in
    let a = c.args.subject.aim in
    let x = c.args.self.now in
    let w = world_in x.world in
    let met =
    met_by a c.is_met.result c.deref.result.now (center_of c.core.result.now) w c.is_met.ensures c.if-is_met.true (c.deref.ensures.value ∙ c.in_ok-statuses.ensures)
    c.core.ensures.center in
    subst (λ (hs : List ℕ). MeetsAfter p v a hs) (sym c.in_ok-order_of.ensures)
    (meets_after c.openings_are_of_their_program.ensures c.runs_stay_of_their_program.ensures p v c.kept_alike_read_alike.ensures a
    (order_after (orders_of x) c.args.way.parent c.args.way.turns.now) w c.requires.reached.of c.requires.leads met)

pub returns-in-Some-clause-keeps : goal.returns-in-Some-clause-keeps
returns-in-Some-clause-keeps c =
    let a = c.args.subject.aim in
    let x = c.args.self.now in
    let w = world_in x.world in
    let y = c.number.new.self in
    let tells =
    of_world a c.is_met.result c.deref.result.now (center_of c.core.result.now) w c.is_met.ensures (c.deref.ensures.value ∙ c.in_ok-statuses.ensures)
    c.core.ensures.center in
    let states : states_of y ≡ states_of x = c.in_ok-number.ensures.states ∙ ap states_in c.count_turns.ensures.store in
    let world : y.world ≡ x.world = c.number.ensures.world ∙ c.count_turns.ensures.world in
    let kept_is : state_by (contents_in y.store) (parts_in y.store) c.deref-2.result.now ≡ kept w =
    ap (λ (t : List ℕ). state_by (contents_in y.store) (parts_in y.store) t) c.deref-2.ensures.value ∙ c.in_ok-number.ensures.kept.kept_is
    ∙ ap (λ (u : Configuration). kept (world_in u)) world in
    let at : slice_get (states_of x) c.in-Some.number ≡ Some (kept w) =
    ap (λ (ks : List PlainKept). slice_get ks c.in-Some.number) (sym states) ∙ c.in-Some.ensures.found ∙ ap (λ (k : PlainKept). Some k) kept_is in
    let edge : AddsEdge c.args.way.parent c.in-Some.number (length c.args.way.turns.now) x.edges.items c.push_edge.new.self.edges.items =
    subst (λ es. AddsEdge c.args.way.parent c.in-Some.number (length c.args.way.turns.now) es.items c.push_edge.new.self.edges.items) (c.number.ensures.edges ∙ c.count_turns.ensures.edges)
    c.in_ok-push_edge-in-Some.ensures.edge in
    keeps_found a w c.args.way.parent (length c.args.way.turns.now) (met_of x) c.is_met.result c.if-is_met.false tells (met_of c.push_edge.new.self) c.in-Some.number
    (ap states_in c.push_edge.ensures.store ∙ states) at edge

pub keep_new-requires-clause-unmet : goal.keep_new-requires-clause-unmet
keep_new-requires-clause-unmet c =
    let a = c.args.subject.aim in
    let x = c.args.self.now in
    let world : c.number.new.self.world ≡ x.world = c.number.ensures.world ∙ c.count_turns.ensures.world in
    subst (λ (u : Configuration). IsMet a (world_in u) → ⊥) (sym world)
    (unmet_by a c.is_met.result c.deref.result.now (center_of c.core.result.now) (world_in x.world) c.is_met.ensures c.if-is_met.false
    (c.deref.ensures.value ∙ c.in_ok-statuses.ensures) c.core.ensures.center)
