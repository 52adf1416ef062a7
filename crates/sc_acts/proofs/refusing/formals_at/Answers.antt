use Rattle.std.proofs.Common.{ap, sym, ◌∙◌}
use Rattle.std.proofs.lemmas.Option.{slice_get-map}
use Rattle.std.specs.Option.{option_map}
use Rattle.std.specs.Prelude.{[], ℕ, unwrap_or}
use Rattle.std.specs.declared.alloc.Global.{Global}
use Rattle.std.specs.declared.vec.Vec.{Vec}
use Rattle.sc_code.specs.declared.program.ConstantPool.{ConstantPool}
use Rattle.sc_acts.proofs.Slices.{lent_at}
use Rattle.sc_acts.proofs.refusing.formals_at.Goals as goal

pub returns-in-Some : goal.returns-in-Some
returns-in-Some c =
    let xs = c.args.program.now.image.pool.demands.items in
    c.as_slice.ensures.value
    ∙ ap (λ o. unwrap_or (option_map (λ (d : Vec ℕ Global). d.items) o) []) (sym (lent_at c.deref.result.now xs c.args.formals c.get.result _ c.get.ensures.lookup
    (c.deref.ensures.value ∙ ap (λ (q : ConstantPool). q.demands.items) c.pool.ensures) c.in-Some.is))
    ∙ ap (λ o. unwrap_or o []) (sym (slice_get-map (λ (d : Vec ℕ Global). d.items) xs c.args.formals))

pub returns-in-None : goal.returns-in-None
returns-in-None c =
    let xs = c.args.program.now.image.pool.demands.items in
    ap (λ o. unwrap_or (option_map (λ (d : Vec ℕ Global). d.items) o) []) (sym (lent_at c.deref.result.now xs c.args.formals c.get.result _ c.get.ensures.lookup
    (c.deref.ensures.value ∙ ap (λ (q : ConstantPool). q.demands.items) c.pool.ensures) c.in-None.is))
    ∙ ap (λ o. unwrap_or o []) (sym (slice_get-map (λ (d : Vec ℕ Global). d.items) xs c.args.formals))
