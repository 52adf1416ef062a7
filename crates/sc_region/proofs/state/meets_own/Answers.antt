use Rattle.std.proofs.Common.{◌≡◌, Option, Some, None, map, ap, sym, ◌∙◌}
use Rattle.std.specs.Option.{option_map}
use Rattle.sc_formula.specs.Plain.{plain_formula}
use Rattle.sc_code.specs.JoinedInvariants.{kept_from}
use Rattle.sc_code.specs.Programs.{PlainClass}
use Rattle.sc_region.specs.Classes.{all_hold, class_at}
use Rattle.sc_region.proofs.InvariantTests.{truth_is}
use Rattle.sc_region.proofs.JoinedClauses.{class_there, own_hold}
use Rattle.sc_region.proofs.state.meets_own.Goals as goal

pub returns-in-Some : goal.returns-in-Some
returns-in-Some c =
    let class = c.in-Some.class.now in
    let p = c.args.program.now.image in
    let there : class_at p c.args.declarer ≡ Some class = sym c.class_numbered.ensures.class ∙ ap (option_map (λ code. code.now)) c.in-Some.is in
    truth_is c.meets.result (map plain_formula c.deref.result.now) c.seen_by.result.now c.meets.ensures
    ∙ ap (λ fs. all_hold (map plain_formula fs) c.seen_by.result.now) c.deref.ensures.value
    ∙ ap (all_hold (map plain_formula class.invariant.items)) c.seen_by.ensures
    ∙ sym (own_hold c.args.count class c.args.atoms.now)
    ∙ sym (ap (λ (o : Option PlainClass). all_hold (kept_from c.args.count o) c.args.atoms.now) (class_there p c.args.declarer (Some class) there))

pub returns-in-None : goal.returns-in-None
returns-in-None c =
    let p = c.args.program.now.image in
    let nowhere : class_at p c.args.declarer ≡ None = sym c.class_numbered.ensures.class ∙ ap (option_map (λ code. code.now)) c.in-None.is in
    sym (ap (λ (o : Option PlainClass). all_hold (kept_from c.args.count o) c.args.atoms.now) (class_there p c.args.declarer None nowhere))
