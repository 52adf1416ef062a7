use Rattle.std.proofs.Common.{◌≡◌, ◌∙◌, inl, [], IsTrue, Some, false, sym, ap, arith, rules}
use Rattle.std.proofs.lemmas.Grind.{common_steps}
use Rattle.std.proofs.lemmas.Option.{get_or_from_slice_get}
use Rattle.sc_world.specs.Kept.{PlainKept, kept, kept_of}
use Rattle.sc_world.specs.Views.{world_of}
use Rattle.sc_world.specs.Worlds.{opened}
use Rattle.sc_search.specs.Views.{orders_of, states_of, statuses_of}
use Rattle.sc_search.specs.Waiting.{SomeWaits}
use Rattle.sc_search.proofs.KeptStates.{at_none, same_some, unmet_not}
use Rattle.sc_search.proofs.OrderEnds.{unmet_runs}
use Rattle.sc_search.proofs.Reasons.{led, lost, two_worlds}
use Rattle.sc_search.proofs.Verdicts.{ends_first, leads}
use Rattle.sc_search.proofs.Waits.{waits_sought}
use Rattle.sc_search.proofs.replay.stuck_after.Goals as goal

pub returns-clause-found : goal.returns-clause-found
returns-clause-found c =
    let p = c.args.subject.program.now.image in
    let v = c.args.subject.version in
    let a = c.args.subject.aim in
    let w = world_of c.in_ok-world.world in
    let made = c.in_ok-world.made.items in
    let there : IsTrue c.is_same.result = first_of (search rules, grind (arith, common_steps)) in
    let at = c.in_ok-state.ensures ∙ ap (λ (k : PlainKept). Some k) (c.is_same.ensures.0 there) in
    leads p v a c.in_ok-lines.lines.items made w (SomeWaits p v) (c.in_ok-lines.ensures ∙ c.deref-3.ensures.value) c.in_ok-world.ensures.runs
    (c.requires.stuck.waits w (made, unmet_runs a made (opened p v) w c.in_ok-world.ensures.runs) at)

pub returns-clause-first : goal.returns-clause-first
returns-clause-first c =
    let p = c.args.subject.program.now.image in
    let v = c.args.subject.version in
    let a = c.args.subject.aim in
    let w = world_of c.in_ok-world.world in
    let made = c.in_ok-world.made.items in
    let there : IsTrue c.is_same.result = first_of (search rules, grind (arith, common_steps)) in
    let at = c.in_ok-state.ensures ∙ ap (λ (k : PlainKept). Some k) (c.is_same.ensures.0 there) in
    ends_first p v a c.in_ok-lines.lines.items made w (c.in_ok-lines.ensures ∙ c.deref-3.ensures.value) c.in_ok-world.ensures.runs
    (waits_sought p v a w c.requires.seeks
    (c.requires.stuck.waits w (made, unmet_runs a made (opened p v) w c.in_ok-world.ensures.runs) at))

pub returns-then-not-is_same-clause-why : goal.returns-then-not-is_same-clause-why
returns-then-not-is_same-clause-why c = λ limits.
    let x = c.args.progress in
    let p = c.args.subject.program.now.image in
    let v = c.args.subject.version in
    let a = c.args.subject.aim in
    let w = world_of c.in_ok-world.world in
    let no : c.is_same.result ≡ false = first_of (search rules, grind (arith, common_steps)) in
    let unmet = at_none c.in_ok-finding.field-0 c.in_default.is c.in_ok-finding.ensures.none in
    inl (two_worlds p v a limits c.give_up-worlds.result c.give_up-worlds.ensures.reason (lost p v a (states_of x) c.args.number c.deref.result.now w
    (led p v a (states_of x) (orders_of x) (statuses_of x) x.turns c.args.number c.deref.result.now c.requires.reached.reached c.requires.stuck.there
    (λ order at. c.deref.ensures.value ∙ c.in_ok-turns.ensures ∙ get_or_from_slice_get (orders_of x) c.args.number order [] at))
    (c.in_ok-world.ensures.all unmet)
    (λ e. unmet_not c.is_same.result _ no c.is_same.ensures
    (same_some (kept_of c.in_ok-state.state) (kept w) (sym c.in_ok-state.ensures ∙ e)))))
