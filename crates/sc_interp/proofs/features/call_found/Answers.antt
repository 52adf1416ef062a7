use Rattle.std.proofs.Common.{◌+◌, ap, ◌∙◌}
use Rattle.sc_model.specs.declared.cause.Cause.TheVariants as cause
use Rattle.sc_code.specs.Programs.{pool_of}
use Rattle.sc_region.specs.Frames.{activation_of}
use Rattle.sc_interp.specs.Features.{calls_found}
use Rattle.sc_interp.specs.Standing.{actuals, call_in, state_of, without}
use Rattle.sc_interp.specs.Values.{reference_of}
use Rattle.sc_interp.proofs.Targets.{refused}
use Rattle.sc_interp.proofs.Told.{comes_done, comes_failed, tells_done, tells_failed}
use Rattle.sc_interp.proofs.features.call_found.Goals as goal

pub returns-in-None-clause-calls : goal.returns-in-None-clause-calls
returns-in-None-clause-calls c = λ p s me code objects fits.
    let a = activation_of c.args.activation.now in
    let site = c.args.site in
    let n = site.count + 1 in
    ap (λ o. calls_found code (reference_of c.args.object) (call_in (pool_of p.pool) site) (actuals site.count (state_of objects a).values) o (without n (state_of objects a))) c.in-None.is
    ∙ refused p s code me objects n cause.BadCode c.refuse.result a (activation_of c.refuse.new.activation) c.refuse.ensures.gone c.refuse.ensures.failed

pub returns-in-None-clause-told : goal.returns-in-None-clause-told
returns-in-None-clause-told c = λ p is. tells_failed p c.refuse.result (activation_of c.refuse.new.activation) cause.BadCode c.refuse.ensures.failed

pub returns-in-Some-Attribute-clause-told : goal.returns-in-Some-Attribute-clause-told
returns-in-Some-Attribute-clause-told c = λ p is. tells_done p c.read_on.result (activation_of c.read_on.new.activation) c.read_on.ensures.done

pub returns-in-None-clause-kept : goal.returns-in-None-clause-kept
returns-in-None-clause-kept c = comes_failed c.refuse.result cause.BadCode _ c.refuse.ensures.failed

pub returns-in-Some-Attribute-clause-kept : goal.returns-in-Some-Attribute-clause-kept
returns-in-Some-Attribute-clause-kept c = comes_done c.read_on.result _ c.read_on.ensures.done
