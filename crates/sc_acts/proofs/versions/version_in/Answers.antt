use Rattle.std.proofs.Common.{ℕ, ap, sym, ◌∙◌}
use Rattle.std.specs.Option.{option_and_then}
use Rattle.std.specs.Prelude.{Option, slice_get}
use Rattle.sc_code.specs.declared.program.ClassCode.{ClassCode}
use Rattle.sc_code.specs.declared.program.FeatureCode.{FeatureCode}
use Rattle.sc_acts.specs.Tables.{version_in}
use Rattle.sc_acts.proofs.Slices.{lent_at}
use Rattle.sc_acts.proofs.versions.version_in.Goals as goal

-- what the table of a class says of a name
abbrev version_of : ClassCode → ℕ → Option FeatureCode
version_of k x = option_and_then (λ (v : Option FeatureCode). v) (slice_get k.features.items x)

pub returns-in_err-code : goal.returns-in_err-code
returns-in_err-code c =
    let p = c.args.program.now.image in
    c.from_residual.ensures
    ∙ ap (option_and_then (λ (k : ClassCode). version_of k c.args.name))
    (sym (lent_at c.classes.result.now p.classes.items c.from.result c.get.result _ c.get.ensures.lookup c.classes.ensures c.in_err-code.was))
    ∙ ap (λ n. version_in p n c.args.name) c.from.ensures

pub returns-in_err-get : goal.returns-in_err-get
returns-in_err-get c =
    let p = c.args.program.now.image in
    let at = lent_at c.classes.result.now p.classes.items c.from.result c.get.result _ c.get.ensures.lookup c.classes.ensures c.in_ok-code.was in
    let there = lent_at c.deref.result.now c.in_ok-code.code.now.features.items c.args.name c.get-2.result _ c.get-2.ensures.lookup c.deref.ensures.value c.in_err-get.was in
    c.from_residual-in_err-get.ensures
    ∙ sym (ap (option_and_then (λ (k : ClassCode). version_of k c.args.name)) at ∙ ap (option_and_then (λ (v : Option FeatureCode). v)) there)
    ∙ ap (λ n. version_in p n c.args.name) c.from.ensures

pub returns : goal.returns
returns c =
    let p = c.args.program.now.image in
    let at = lent_at c.classes.result.now p.classes.items c.from.result c.get.result _ c.get.ensures.lookup c.classes.ensures c.in_ok-code.was in
    let there = lent_at c.deref.result.now c.in_ok-code.code.now.features.items c.args.name c.get-2.result _ c.get-2.ensures.lookup c.deref.ensures.value c.in_ok-get.was in
    sym (ap (option_and_then (λ (k : ClassCode). version_of k c.args.name)) at ∙ ap (option_and_then (λ (v : Option FeatureCode). v)) there)
    ∙ ap (λ n. version_in p n c.args.name) c.from.ensures
