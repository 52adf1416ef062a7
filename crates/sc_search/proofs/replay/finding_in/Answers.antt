use Rattle.std.proofs.Common.{◌≡◌, ◌∙◌, IsTrue, false, true, sym, ap, subst, arith, rules}
use Rattle.std.proofs.lemmas.Grind.{common_steps}
use Rattle.sc_request.specs.Cores.{center_of}
use Rattle.sc_request.specs.Logs.{Center}
use Rattle.sc_world.specs.Views.{world_of}
use Rattle.sc_world.specs.Worlds.{opened}
use Rattle.sc_search.specs.Aims.{AreStuck, HasFailed, HasRefused, TellsRefusal, tells_failure}
use Rattle.sc_search.specs.Found.{HasFailedIn, HasRefusedIn}
use Rattle.sc_search.specs.Waiting.{SomeWaits}
use Rattle.sc_search.proofs.KeptStates.{unmet_not}
use Rattle.sc_search.proofs.OrderEnds.{unmet_by, unmet_runs}
use Rattle.sc_search.proofs.Reasons.{met_by, refuses, stuck_else, tells}
use Rattle.sc_search.proofs.Verdicts.{ends_first, leads}
use Rattle.sc_search.proofs.Waits.{ended_waits, met_sought}
use Rattle.sc_search.proofs.replay.finding_in.Goals as goal

pub returns-then-tells_failure-clause-found : goal.returns-then-tells_failure-clause-found
returns-then-tells_failure-clause-found c =
    leads c.args.subject.program.now.image c.args.subject.version c.args.subject.aim c.in_ok-lines.lines.items c.args.made.now
    (world_of c.args.world.now) HasFailedIn c.in_ok-lines.ensures c.requires
    (subst HasFailed (c.deref-2.ensures.value ∙ c.in_ok-statuses.ensures)
    (tells c.args.subject.aim c.deref-2.result.now (sym c.tells_failure.ensures ∙ c.if-tells_failure.true)))

pub returns-then-tells_refusal-clause-found : goal.returns-then-tells_refusal-clause-found
returns-then-tells_refusal-clause-found c =
    let a = c.args.subject.aim in
    let core = center_of c.core-core.result.now in
    leads c.args.subject.program.now.image c.args.subject.version a c.in_ok-lines.lines.items c.args.made.now
    (world_of c.args.world.now) HasRefusedIn c.in_ok-lines.ensures c.requires
    (subst (λ (d : Center). HasRefused d.state) c.core-core.ensures.center (refuses a core.state (c.tells_refusal.ensures.0 c.if-tells_refusal.true)))

pub returns-clause-found : goal.returns-clause-found
returns-clause-found c =
    let p = c.args.subject.program.now.image in
    let v = c.args.subject.version in
    let a = c.args.subject.aim in
    let w = world_of c.args.world.now in
    let core = center_of c.core-core.result.now in
    let there : IsTrue c.is_met.result = first_of (search rules, grind (arith, common_steps)) in
    let same = c.deref.ensures.value ∙ sym c.deref-2.ensures.value in
    let stuck = subst AreStuck (c.deref.ensures.value ∙ c.in_ok-statuses.ensures)
    (stuck_else a c.deref.result.now core.state (c.is_met.ensures.0 there)
    (ap (λ ss. tells_failure a ss) same ∙ sym c.tells_failure.ensures ∙ c.if-tells_failure.false)
    (unmet_not c.tells_refusal.result (TellsRefusal a core.state) c.if-tells_refusal.false c.tells_refusal.ensures)) in
    leads p v a c.in_ok-lines.lines.items c.args.made.now w (SomeWaits p v) c.in_ok-lines.ensures c.requires
    (ended_waits p v a w (c.args.made.now, unmet_runs a c.args.made.now (opened p v) w c.requires) stuck)

pub returns-then-tells_failure-clause-first : goal.returns-then-tells_failure-clause-first
returns-then-tells_failure-clause-first c =
    let p = c.args.subject.program.now.image in
    let v = c.args.subject.version in
    let a = c.args.subject.aim in
    let w = world_of c.args.world.now in
    let there : c.is_met.result ≡ true = first_of (search rules, grind (arith, common_steps)) in
    let met =
    met_by a c.is_met.result c.deref.result.now (center_of c.core-core.result.now) w c.is_met.ensures there (c.deref.ensures.value ∙ c.in_ok-statuses.ensures)
    c.core-core.ensures.center in
    ends_first p v a c.in_ok-lines.lines.items c.args.made.now w c.in_ok-lines.ensures c.requires
    (met_sought p v a w (c.args.made.now, unmet_runs a c.args.made.now (opened p v) w c.requires) met)

pub returns-then-tells_refusal-clause-first : goal.returns-then-tells_refusal-clause-first
returns-then-tells_refusal-clause-first c =
    let p = c.args.subject.program.now.image in
    let v = c.args.subject.version in
    let a = c.args.subject.aim in
    let w = world_of c.args.world.now in
    let there : c.is_met.result ≡ true = first_of (search rules, grind (arith, common_steps)) in
    let met =
    met_by a c.is_met.result c.deref.result.now (center_of c.core-core.result.now) w c.is_met.ensures there (c.deref.ensures.value ∙ c.in_ok-statuses.ensures)
    c.core-core.ensures.center in
    ends_first p v a c.in_ok-lines.lines.items c.args.made.now w c.in_ok-lines.ensures c.requires
    (met_sought p v a w (c.args.made.now, unmet_runs a c.args.made.now (opened p v) w c.requires) met)

pub returns-clause-first : goal.returns-clause-first
returns-clause-first c =
    let p = c.args.subject.program.now.image in
    let v = c.args.subject.version in
    let a = c.args.subject.aim in
    let w = world_of c.args.world.now in
    let there : c.is_met.result ≡ true = first_of (search rules, grind (arith, common_steps)) in
    let met =
    met_by a c.is_met.result c.deref.result.now (center_of c.core-core.result.now) w c.is_met.ensures there (c.deref.ensures.value ∙ c.in_ok-statuses.ensures)
    c.core-core.ensures.center in
    ends_first p v a c.in_ok-lines.lines.items c.args.made.now w c.in_ok-lines.ensures c.requires
    (met_sought p v a w (c.args.made.now, unmet_runs a c.args.made.now (opened p v) w c.requires) met)

pub returns-then-not-is_met-clause-none : goal.returns-then-not-is_met-clause-none
returns-then-not-is_met-clause-none c =
    let w = world_of c.args.world.now in
    let no : c.is_met.result ≡ false = first_of (search rules, grind (arith, common_steps)) in
    unmet_by c.args.subject.aim c.is_met.result c.deref.result.now (center_of c.core-core.result.now) w c.is_met.ensures no
    (c.deref.ensures.value ∙ c.in_ok-statuses.ensures) c.core-core.ensures.center
