use Rattle.std.proofs.Common.{◌+◌, Bool, ap, ◌∙◌}
use Rattle.std.proofs.lemmas.Bool.{ne_eqb}
use Rattle.std.specs.Prelude.{if◌then◌else◌}
use Rattle.sc_model.specs.declared.cause.Cause.TheVariants as cause
use Rattle.sc_code.specs.Machine.{requests}
use Rattle.sc_code.specs.Programs.{pool_of}
use Rattle.sc_region.specs.Frames.{activation_of}
use Rattle.sc_interp.specs.Features.{calls_found, calls_seen}
use Rattle.sc_interp.specs.Standing.{actuals, call_in, state_of, without}
use Rattle.sc_interp.specs.Values.{reference_of, value_of}
use Rattle.sc_interp.proofs.Targets.{refused}
use Rattle.sc_interp.proofs.Told.{comes_failed, tells_failed}
use Rattle.sc_interp.proofs.features.call_on.Goals as goal

pub returns-else-object-me-clause-calls : goal.returns-else-object-me-clause-calls
returns-else-object-me-clause-calls c = λ p s me code objects fits.
    let a = activation_of c.args.activation.now in
    let site = c.args.site in
    let r = reference_of c.in-Attached.object in
    let k = call_in (pool_of p.pool) site in
    let us = actuals site.count (state_of objects a).values in
    let f = without (site.count + 1) (state_of objects a) in
    ap (λ v. calls_seen code (reference_of c.args.me) k (value_of v) us c.args.found f) c.in-Attached.is
    ∙ ap (λ (b : Bool). if b then calls_found code r k us c.args.found f else requests code r k us f) (ne_eqb c.in-Attached.object.handler c.args.me.handler c.if-object-me.false)
    ∙ c.request_on.ensures.calls c.args.count p s me code objects fits

pub returns-in-Void-clause-calls : goal.returns-in-Void-clause-calls
returns-in-Void-clause-calls c = λ p s me code objects fits.
    let a = activation_of c.args.activation.now in
    let site = c.args.site in
    let n = site.count + 1 in
    ap (λ v. calls_seen code (reference_of c.args.me) (call_in (pool_of p.pool) site) (value_of v) (actuals site.count (state_of objects a).values) c.args.found (without n (state_of objects a)))
    c.in-Void.is
    ∙ refused p s code me objects n cause.VoidTarget c.refuse.result a (activation_of c.refuse.new.activation) c.refuse.ensures.gone c.refuse.ensures.failed

pub returns-in-Integer-clause-calls : goal.returns-in-Integer-clause-calls
returns-in-Integer-clause-calls c = λ p s me code objects fits.
    let a = activation_of c.args.activation.now in
    let site = c.args.site in
    let n = site.count + 1 in
    ap (λ v. calls_seen code (reference_of c.args.me) (call_in (pool_of p.pool) site) (value_of v) (actuals site.count (state_of objects a).values) c.args.found (without n (state_of objects a)))
    c.in-Integer.is
    ∙ refused p s code me objects n cause.BadCode c.refuse-in-Integer.result a (activation_of c.refuse-in-Integer.new.activation) c.refuse-in-Integer.ensures.gone c.refuse-in-Integer.ensures.failed

pub returns-in-Boolean-clause-calls : goal.returns-in-Boolean-clause-calls
returns-in-Boolean-clause-calls c = λ p s me code objects fits.
    let a = activation_of c.args.activation.now in
    let site = c.args.site in
    let n = site.count + 1 in
    ap (λ v. calls_seen code (reference_of c.args.me) (call_in (pool_of p.pool) site) (value_of v) (actuals site.count (state_of objects a).values) c.args.found (without n (state_of objects a)))
    c.in-Boolean.is
    ∙ refused p s code me objects n cause.BadCode c.refuse-in-Boolean.result a (activation_of c.refuse-in-Boolean.new.activation) c.refuse-in-Boolean.ensures.gone c.refuse-in-Boolean.ensures.failed

pub returns-in-Void-clause-told : goal.returns-in-Void-clause-told
returns-in-Void-clause-told c = λ p is. tells_failed p c.refuse.result (activation_of c.refuse.new.activation) cause.VoidTarget c.refuse.ensures.failed

pub returns-in-Integer-clause-told : goal.returns-in-Integer-clause-told
returns-in-Integer-clause-told c = λ p is. tells_failed p c.refuse-in-Integer.result (activation_of c.refuse-in-Integer.new.activation) cause.BadCode c.refuse-in-Integer.ensures.failed

pub returns-in-Boolean-clause-told : goal.returns-in-Boolean-clause-told
returns-in-Boolean-clause-told c = λ p is. tells_failed p c.refuse-in-Boolean.result (activation_of c.refuse-in-Boolean.new.activation) cause.BadCode c.refuse-in-Boolean.ensures.failed

pub returns-in-Void-clause-kept : goal.returns-in-Void-clause-kept
returns-in-Void-clause-kept c = comes_failed c.refuse.result cause.VoidTarget _ c.refuse.ensures.failed

pub returns-in-Integer-clause-kept : goal.returns-in-Integer-clause-kept
returns-in-Integer-clause-kept c = comes_failed c.refuse-in-Integer.result cause.BadCode _ c.refuse-in-Integer.ensures.failed

pub returns-in-Boolean-clause-kept : goal.returns-in-Boolean-clause-kept
returns-in-Boolean-clause-kept c = comes_failed c.refuse-in-Boolean.result cause.BadCode _ c.refuse-in-Boolean.ensures.failed
