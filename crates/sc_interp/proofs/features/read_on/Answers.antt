use Rattle.std.proofs.Common.{◌+◌, sym, subst}
use Rattle.std.specs.Option.{option_map}
use Rattle.sc_model.specs.declared.cause.Cause.TheVariants as cause
use Rattle.sc_region.specs.Frames.{activation_of}
use Rattle.sc_interp.specs.declared.hops.Hop as outcome
use Rattle.sc_interp.specs.Features.{ReadsInPlace}
use Rattle.sc_interp.specs.Values.{value_of}
use Rattle.sc_interp.proofs.SilentSteps.{done_stepped}
use Rattle.sc_interp.proofs.Targets.{reads_none, reads_some, refused}
use Rattle.sc_interp.proofs.Told.{done_failed}
use Rattle.sc_interp.proofs.features.read_on.Goals as goal

pub returns-in-None-clause-calls : goal.returns-in-None-clause-calls
returns-in-None-clause-calls c =
    let a = activation_of c.args.activation.now in
    let b = activation_of c.refuse.new.activation in
    reads_none c.args.count c.args.site (option_map value_of c.args.value) c.refuse.result a b c.in-None.is
    (λ p s k me objects. refused p s k me objects (c.args.site.count + 1) cause.BadCode c.refuse.result a b c.refuse.ensures.gone c.refuse.ensures.failed)

pub returns-in-Some-clause-calls : goal.returns-in-Some-clause-calls
returns-in-Some-clause-calls c =
    let a = activation_of c.args.activation.now in
    let b = activation_of c.read_target.new.activation in
    reads_some c.args.count c.args.site c.in-Some.is_attached (option_map value_of c.args.value) c.stepped.result a b c.in-Some.is
    (subst (λ (h : outcome.Hop). ReadsInPlace c.args.count c.args.site c.in-Some.is_attached c.args.value h a b) (sym c.stepped.ensures) c.read_target.ensures.calls)

pub returns-in-Some-clause-done : goal.returns-in-Some-clause-done
returns-in-Some-clause-done c = done_stepped c.read_target.result c.stepped.result c.stepped.ensures

pub returns-in-None-clause-done : goal.returns-in-None-clause-done
returns-in-None-clause-done c = done_failed c.refuse.result cause.BadCode c.refuse.ensures.failed
