use Rattle.std.proofs.Common.{◌≡◌, ◌+◌, ◌<◌, ◌++◌, ◌∷◌, ◌∙◌, [], ℕ, List, None, Some, get_or, is_some, length, true, refl, sym, ap, subst, arith}
use Rattle.sc_request.specs.Logs.{pick_for}
use Rattle.sc_world.specs.Views.{world_in}
use Rattle.sc_search.specs.declared.store.Store.{Store}
use Rattle.sc_search.specs.Steps.{GoesOnBy, Tries}
use Rattle.sc_search.specs.Stops.{Moves}
use Rattle.sc_search.specs.Stored.{IsAlikeAfter, order_after}
use Rattle.sc_search.specs.Views.{Met, met_of, orders_in, orders_of, states_in}
use Rattle.sc_search.proofs.Joins.{by_length, by_moves}
use Rattle.sc_search.proofs.KeptStates.{goes_through}
use Rattle.sc_search.proofs.Lengths.{moved, still}
use Rattle.sc_search.proofs.Loaded.{after_turn, tries_alike, tries_none_alike}
use Rattle.sc_search.proofs.LoadedStates.{after_movers, keeps_since, met_same}
use Rattle.sc_search.proofs.closing.move_on.Goals as goal

pub go_on-requires-clause-there : goal.go_on-requires-clause-there
go_on-requires-clause-there c =
    let same : c.turn.new.self.store ≡ c.args.progress.now.store = c.turn.ensures.store ∙ c.load.ensures.store in
    subst (λ (s : Store). c.args.number < length (states_in s)) (sym same) c.requires.there

pub keep-requires-clause-from : goal.keep-requires-clause-from
keep-requires-clause-from c =
    let same : c.go_on.new.self.store ≡ c.args.progress.now.store = c.go_on.ensures.store ∙ c.turn.ensures.store ∙ c.load.ensures.store in
    subst (λ (s : Store). c.args.number < length (states_in s)) (sym same) c.requires.there

pub keep-requires-clause-leads : goal.keep-requires-clause-leads
keep-requires-clause-leads c =
    let p = c.args.subject.program.now.image in
    let v = c.args.subject.version in
    let x = c.args.progress.now in
    let same : c.go_on.new.self.store ≡ x.store = c.go_on.ensures.store ∙ c.turn.ensures.store ∙ c.load.ensures.store in
    let order = get_or (orders_of x) c.args.number [] in
    let first = c.args.handler ∷ [] in
    let after =
    after_turn c.openings_are_of_their_program.ensures c.runs_stay_of_their_program.ensures p v c.kept_alike_turn_alike.ensures order (order ++ first) c.args.handler
    (world_in c.load.new.self.world) (world_in c.turn.new.self.world) refl c.in_ok-load.ensures.reached.of c.in_ok-load.ensures.after c.in_ok-turn.ensures.turn in
    let goes : GoesOnBy c.args.joined first c.go_on.new.turns.items (world_in c.turn.new.self.world) (world_in c.go_on.new.self.world) =
    subst (λ (hs : List ℕ). GoesOnBy c.args.joined hs c.go_on.new.turns.items (world_in c.turn.new.self.world) (world_in c.go_on.new.self.world))
    c.in_ok-turns.ensures.items c.in_ok-go_on.ensures.goes in
    let moves : Moves first c.go_on.new.turns.items (world_in c.turn.new.self.world) (world_in c.go_on.new.self.world) =
    by_moves c.args.joined first c.go_on.new.turns.items (world_in c.turn.new.self.world) (world_in c.go_on.new.self.world) goes in
    let all : IsAlikeAfter p v (order_after (orders_of x) (Some c.args.number) c.go_on.new.turns.items) (world_in c.go_on.new.self.world) =
    after_movers p v c.args.subject.aim c.openings_are_of_their_program.ensures c.runs_stay_of_their_program.ensures c.kept_alike_turn_alike.ensures (orders_of x)
    (Some c.args.number) first c.go_on.new.turns.items (world_in c.turn.new.self.world) (world_in c.go_on.new.self.world) c.in_ok-turn.ensures.reached.of after moves in
    subst (λ (s : Store). IsAlikeAfter p v (order_after (orders_in s) (Some c.args.number) c.deref.result.now) (world_in c.go_on.new.self.world)) (sym same)
    (subst (λ (hs : List ℕ). IsAlikeAfter p v (order_after (orders_of x) (Some c.args.number) hs) (world_in c.go_on.new.self.world)) (sym c.deref.ensures.value) all)

pub returns-clause-tries : goal.returns-clause-tries
returns-clause-tries c =
    let x = c.args.progress.now in
    let same : c.go_on.new.self.store ≡ x.store = c.go_on.ensures.store ∙ c.turn.ensures.store ∙ c.load.ensures.store in
    let job : is_some (pick_for c.args.handler (world_in c.load.new.self.world).center) ≡ true =
    moved (pick_for c.args.handler (world_in c.load.new.self.world).center) c.in_ok-turn.field-0 c.in_ok-turn.ensures.turned c.in_default.not-Nothing in
    let first = c.args.handler ∷ [] in
    let goes : GoesOnBy c.args.joined first c.go_on.new.turns.items (world_in c.turn.new.self.world) (world_in c.go_on.new.self.world) =
    subst (λ (hs : List ℕ). GoesOnBy c.args.joined hs c.go_on.new.turns.items (world_in c.turn.new.self.world) (world_in c.go_on.new.self.world))
    c.in_ok-turns.ensures.items c.in_ok-go_on.ensures.goes in
    let count : length c.deref.result.now ≡ 1 + length goes.goes.handlers =
    ap length c.deref.ensures.value
    ∙ by_length c.args.joined c.args.handler c.go_on.new.turns.items (world_in c.turn.new.self.world) (world_in c.go_on.new.self.world) goes in
    goes_through
    (λ keeps. tries_alike c.openings_are_of_their_program.ensures c.runs_stay_of_their_program.ensures c.args.subject.program.now.image c.args.subject.version
    c.kept_alike_turn_alike.ensures c.kept_alike_read_alike.ensures c.args.subject.aim c.args.joined (get_or (orders_of x) c.args.number []) c.args.number c.args.handler
    (length c.deref.result.now) (world_in c.load.new.self.world) (world_in c.turn.new.self.world) (world_in c.go_on.new.self.world) (met_of x) (met_of c.keep.new.self)
    c.in_ok-load.ensures.reached.of c.in_ok-turn.ensures.reached.of c.in_ok-load.ensures.after c.in_ok-load.ensures.stands job c.in_ok-turn.ensures.turn
    goes.goes (omega (arith, count))
    (keeps_since c.args.subject.aim (world_in c.go_on.new.self.world) (Some c.args.number) (length c.deref.result.now) (met_of x) (met_of c.go_on.new.self) (met_of c.keep.new.self)
    (ap states_in same) (ap (λ (es : _). es) (ap (λ e. e.items) (c.go_on.ensures.edges ∙ c.turn.ensures.edges ∙ c.load.ensures.edges))) keeps))
    c.keep.result c.keep.ensures.keeps

pub returns-in-Nothing-clause-tries : goal.returns-in-Nothing-clause-tries
returns-in-Nothing-clause-tries c =
    let p = c.args.subject.program.now.image in
    let v = c.args.subject.version in
    let x = c.args.progress.now in
    let none : pick_for c.args.handler (world_in c.load.new.self.world).center ≡ None =
    still (pick_for c.args.handler (world_in c.load.new.self.world).center) c.in_ok-turn.field-0 c.in_ok-turn.ensures.turned c.in-Nothing.is in
    let same : met_of x ≡ met_of c.turn.new.self =
    met_same (met_of x) (met_of c.turn.new.self) (ap states_in (sym (c.turn.ensures.store ∙ c.load.ensures.store)))
    (ap (λ e. e.items) (sym (c.turn.ensures.edges ∙ c.load.ensures.edges))) in
    subst (λ (m : Met). Tries p v c.args.subject.aim c.args.joined (met_of x) m c.args.number c.args.handler) same
    (tries_none_alike c.openings_are_of_their_program.ensures c.runs_stay_of_their_program.ensures p v c.kept_alike_turn_alike.ensures c.kept_alike_read_alike.ensures
    c.args.subject.aim c.args.joined (get_or (orders_of x) c.args.number []) c.args.number c.args.handler (world_in c.load.new.self.world) (met_of x)
    c.in_ok-load.ensures.reached.of c.in_ok-load.ensures.after c.in_ok-load.ensures.stands none)
