use Rattle.std.proofs.Common.{ap, sym, ◌∙◌}
use Rattle.std.proofs.lemmas.Option.{slice_get-map}
use Rattle.std.specs.Option.{option_map}
use Rattle.std.specs.Prelude.{[], string_bytes, unwrap_or}
use Rattle.sc_code.specs.declared.program.ConstantPool.{ConstantPool}
use Rattle.sc_acts.proofs.Slices.{lent_at}
use Rattle.sc_acts.proofs.printing.text_at.Goals as goal

pub returns-in-Some : goal.returns-in-Some
returns-in-Some c =
    let xs = c.args.program.now.image.pool.texts.items in
    c.as_str.ensures.value
    ∙ ap (λ o. unwrap_or (option_map string_bytes o) []) (sym (lent_at c.deref.result.now xs c.args.text c.get.result _ c.get.ensures.lookup
    (c.deref.ensures.value ∙ ap (λ (q : ConstantPool). q.texts.items) c.pool.ensures) c.in-Some.is))
    ∙ ap (λ o. unwrap_or o []) (sym (slice_get-map string_bytes xs c.args.text))

pub returns-in-None : goal.returns-in-None
returns-in-None c =
    let xs = c.args.program.now.image.pool.texts.items in
    ap (λ o. unwrap_or (option_map string_bytes o) []) (sym (lent_at c.deref.result.now xs c.args.text c.get.result _ c.get.ensures.lookup
    (c.deref.ensures.value ∙ ap (λ (q : ConstantPool). q.texts.items) c.pool.ensures) c.in-None.is))
    ∙ ap (λ o. unwrap_or o []) (sym (slice_get-map string_bytes xs c.args.text))
