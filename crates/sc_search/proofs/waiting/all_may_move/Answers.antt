use Rattle.std.proofs.Common.{◌≡◌, ◌∙◌, true, false, List, length, not, sym, ap, subst}
use Rattle.sc_orders.specs.declared.edges.Edge.{Edge}
use Rattle.sc_orders.specs.Edges.{AreWithin}
use Rattle.sc_search.specs.Views.{met_of, orders_of, statuses_of}
use Rattle.sc_search.specs.Waiting.{IsLed}
use Rattle.sc_search.proofs.KeptStates.{at_none, none_is}
use Rattle.sc_search.proofs.Waits.{edges_within, led_are_moving, rows_few}
use Rattle.sc_search.proofs.waiting.all_may_move.Goals as goal

pub first_waiting-requires-clause-within : goal.first_waiting-requires-clause-within
first_waiting-requires-clause-within c =
    let x = c.args.progress.now in
    subst (λ (es : List Edge). AreWithin es (length (statuses_of x))) (sym c.deref.ensures.value)
    (edges_within c.kept_alike_read_alike.ensures c.openings_are_of_their_program.ensures c.runs_stay_of_their_program.ensures
    c.args.subject.program.now.image c.args.subject.version c.args.subject.aim c.requires.explored.0 (met_of x) (orders_of x) (statuses_of x) x.turns
    c.requires.explored.1 c.requires.reached.reached)

pub first_waiting-requires-clause-few : goal.first_waiting-requires-clause-few
first_waiting-requires-clause-few c =
    let x = c.args.progress.now in
    rows_few c.kept_alike_read_alike.ensures c.openings_are_of_their_program.ensures c.runs_stay_of_their_program.ensures
    c.args.subject.program.now.image c.args.subject.version c.args.subject.aim c.requires.explored.0 (met_of x) (orders_of x) (statuses_of x) x.turns
    c.requires.explored.1 c.requires.reached.reached

pub returns-then-not-seeks_stuck : goal.returns-then-not-seeks_stuck
returns-then-not-seeks_stuck c = λ e seeks.
    let no : true ≡ false = sym seeks ∙ sym c.seeks_stuck.ensures ∙ c.if-not-seeks_stuck.true in
    cc

pub returns : goal.returns
returns c = λ e.
    let x = c.args.progress.now in
    led_are_moving c.kept_alike_read_alike.ensures c.openings_are_of_their_program.ensures c.runs_stay_of_their_program.ensures
    c.args.subject.program.now.image c.args.subject.version c.args.subject.aim c.requires.explored.0 (met_of x) (orders_of x) (statuses_of x) x.turns
    c.requires.explored.1 c.requires.reached.reached
    (λ h number.
    subst (λ (es : List Edge). IsLed es (statuses_of x) h number) c.deref.ensures.value (at_none c.in_ok-first.first (none_is c.in_ok-first.first (c.is_none.ensures ∙ ap not e)) c.in_ok-first.ensures.none h number))
