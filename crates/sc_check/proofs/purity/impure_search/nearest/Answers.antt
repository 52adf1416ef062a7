use Rattle.std.proofs.Common.{◌+◌, drop, ap, sym, ◌∙◌, arith}
use Rattle.std.specs.Option.{option_or}
use Rattle.std.proofs.lemmas.List.{at_drop_all}
use Rattle.sc_class.specs.SystemIn.{system_in}
use Rattle.sc_check.specs.purity.Internal.Versions.{nearest_in}
use Rattle.sc_check.proofs.purity.ImpureSearchSteps.{nearest_here}
use Rattle.sc_check.proofs.purity.impure_search.nearest.Goals as goal

pub returns-in-Some : goal.returns-in-Some
returns-in-Some c =
    let s = system_in c.args.numbering.now.tables.now in
    let x = c.args.name.now in
    let ks = c.args.classes.now in
    let i = c.loop-class.class-index in
    sym (
    c.loop-class.invariant ∙ nearest_here s x ks i c.number.result c.loop-class-test.true c.number.ensures
    ∙ ap (λ o. option_or o (nearest_in s x (drop (i + 1) ks))) c.in-Some.is
    )

pub loop-class-preserved : goal.loop-class-preserved
loop-class-preserved c =
    let s = system_in c.args.numbering.now.tables.now in
    let x = c.args.name.now in
    let ks = c.args.classes.now in
    let i = c.loop-class.class-index in
    c.loop-class.invariant ∙ nearest_here s x ks i c.number.result c.loop-class-test.true c.number.ensures
    ∙ ap (λ o. option_or o (nearest_in s x (drop (i + 1) ks))) c.in_default.is

pub returns : goal.returns
returns c =
    let s = system_in c.args.numbering.now.tables.now in
    sym (c.loop-class.invariant ∙ at_drop_all (nearest_in s c.args.name.now) c.args.classes.now c.loop-class.class-index (omega (arith, c.loop-class-test.false)))
