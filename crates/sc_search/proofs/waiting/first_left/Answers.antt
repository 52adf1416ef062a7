use Rattle.std.proofs.Common.{◌≡◌, ◌↔◌, ◌∙◌, ℕ, Bool, true, false, List, get_or, sym, subst}
use Rattle.sc_orders.specs.Edges.{Leads}
use Rattle.sc_states.specs.RowViews.{rows_of}
use Rattle.sc_search.proofs.Waits.{are_led, is_left, none_on, some_on}
use Rattle.sc_search.proofs.waiting.first_left.Goals as goal

pub returns-clause-some : goal.returns-clause-some
returns-clause-some c =
    let edges = c.args.edges.now in
    let tell : (state : ℕ) → (get_or c.deref-3.result.now state false ≡ true) ↔ Leads edges c.deref.result.now state = λ state. subst (λ (ms : List Bool). (get_or ms state false ≡ true) ↔ Leads edges c.deref.result.now state) (sym c.deref-3.ensures.value)
    (c.in_ok-moves.ensures.leads state) in
    some_on c.first_without.result
    (λ number is. is_left edges (rows_of c.args.statuses.now) c.args.handler number c.deref-2.result.now c.deref.result.now c.deref-3.result.now
    (c.deref-2.ensures.value ∙ c.in_ok-waiting.ensures) (c.deref.ensures.value ∙ c.in_ok-busy.ensures) tell is.0 is.1)
    c.first_without.ensures.some

pub returns-clause-none : goal.returns-clause-none
returns-clause-none c =
    let edges = c.args.edges.now in
    let tell : (state : ℕ) → (get_or c.deref-3.result.now state false ≡ true) ↔ Leads edges c.deref.result.now state = λ state. subst (λ (ms : List Bool). (get_or ms state false ≡ true) ↔ Leads edges c.deref.result.now state) (sym c.deref-3.ensures.value)
    (c.in_ok-moves.ensures.leads state) in
    none_on c.first_without.result
    (λ all. are_led edges (rows_of c.args.statuses.now) c.args.handler c.deref-2.result.now c.deref.result.now c.deref-3.result.now
    (c.deref-2.ensures.value ∙ c.in_ok-waiting.ensures) (c.deref.ensures.value ∙ c.in_ok-busy.ensures) tell all)
    c.first_without.ensures.none
