use Rattle.std.proofs.Common.{List, length, sym, subst}
use Rattle.sc_orders.specs.declared.edges.Edge.{Edge}
use Rattle.sc_orders.specs.Edges.{AreWithin}
use Rattle.sc_search.specs.Views.{met_of, orders_of, statuses_of}
use Rattle.sc_search.specs.Waiting.{IsLed, IsLeft}
use Rattle.sc_search.proofs.KeptStates.{goes_through}
use Rattle.sc_search.proofs.Waits.{edges_within, led_are_moving, left_is_stuck, ok_some_on}
use Rattle.sc_search.proofs.waiting.first_stuck.Goals as goal

pub first_waiting-requires-clause-within : goal.first_waiting-requires-clause-within
first_waiting-requires-clause-within c =
    let x = c.args.progress.now in
    subst (λ (es : List Edge). AreWithin es (length (statuses_of x))) (sym c.deref.ensures.value)
    (edges_within c.kept_alike_read_alike.ensures c.openings_are_of_their_program.ensures c.runs_stay_of_their_program.ensures
    c.args.subject.program.now.image c.args.subject.version c.args.subject.aim 0 (met_of x) (orders_of x) (statuses_of x) x.turns c.requires.explored c.requires.reached.reached)

pub returns-clause-stuck : goal.returns-clause-stuck
returns-clause-stuck c =
    let x = c.args.progress.now in
    ok_some_on c.first_waiting.result
    (λ number is. left_is_stuck c.kept_alike_read_alike.ensures c.openings_are_of_their_program.ensures c.runs_stay_of_their_program.ensures
    c.args.subject.program.now.image c.args.subject.version c.args.subject.aim 0 (met_of x) (orders_of x) (statuses_of x) x.turns c.requires.explored c.requires.reached.reached
    c.requires.explored is.0 number
    (subst (λ (es : List Edge). IsLeft es (statuses_of x) is.0 number) c.deref.ensures.value is.1))
    c.first_waiting.ensures.some

pub returns-clause-none : goal.returns-clause-none
returns-clause-none c =
    let x = c.args.progress.now in
    goes_through
    (λ all. led_are_moving c.kept_alike_read_alike.ensures c.openings_are_of_their_program.ensures c.runs_stay_of_their_program.ensures
    c.args.subject.program.now.image c.args.subject.version c.args.subject.aim 0 (met_of x) (orders_of x) (statuses_of x) x.turns c.requires.explored c.requires.reached.reached
    (λ h number.
    subst (λ (es : List Edge). IsLed es (statuses_of x) h number) c.deref.ensures.value (all h number)))
    c.first_waiting.result c.first_waiting.ensures.none
