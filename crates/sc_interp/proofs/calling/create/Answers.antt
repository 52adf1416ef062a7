use Rattle.std.proofs.Common.{◌<◌, ◌≤◌, length, sym, ap, ◌∙◌, arith}
use Rattle.std.proofs.lemmas.List.{length-map}
use Rattle.std.specs.Prelude.{Option}
use Rattle.std.specs.Option.{option_map}
use Rattle.sc_code.specs.Operations.{CreationSite, Create}
use Rattle.sc_code.specs.Programs.{pool_of}
use Rattle.sc_code.specs.Machine.{hop_of}
use Rattle.sc_region.specs.Frames.{activation_of}
use Rattle.sc_interp.specs.Values.{value_of, values_of, reference_of}
use Rattle.sc_interp.specs.Standing.{creation_in, state_of}
use Rattle.sc_interp.proofs.Operands.{create_short, create_comes}
use Rattle.sc_interp.proofs.Told.{create_ready}
use Rattle.sc_interp.proofs.calling.create.Goals as goal

pub returns-then-count-len-clause-follows : goal.returns-then-count-len-clause-follows
returns-then-count-len-clause-follows c = λ count s code objects serves fits.
    let a = activation_of c.args.activation.now in
    let p = c.args.program.now.image in
    let me = reference_of c.args.me in
    let f = state_of objects a in
    let short : length (values_of a.operands.values) < c.in-Some.site.count = omega (arith, length-map a.operands.values value_of, c.if-count-len.true, c.len.ensures) in
    ap (λ (o : Option CreationSite). hop_of s code me (option_map Create o) f) (sym c.creation_at.ensures.site ∙ ap (option_map (creation_in (pool_of p.pool))) c.in-Some.is)
    ∙ create_short p s c.in-Some.site me code f short

pub returns-clause-follows : goal.returns-clause-follows
returns-clause-follows c = λ count s code objects serves fits.
    let a = activation_of c.args.activation.now in
    let p = c.args.program.now.image in
    let me = reference_of c.args.me in
    let f = state_of objects a in
    let enough : c.in-Some.site.count ≤ length (values_of a.operands.values) = omega (arith, length-map a.operands.values value_of, c.if-count-len.false, c.len.ensures) in
    ap (λ (o : Option CreationSite). hop_of s code me (option_map Create o) f) (sym c.creation_at.ensures.site ∙ ap (option_map (creation_in (pool_of p.pool))) c.in-Some.is)
    ∙ create_comes p s c.in-Some.site me code f enough

pub returns-clause-told : goal.returns-clause-told
returns-clause-told c =
    create_ready c.args.program.now.image c.in-Some.site (activation_of c.args.activation.now) c.in-Some.ensures.there (omega (arith, c.if-count-len.false, c.len.ensures))
