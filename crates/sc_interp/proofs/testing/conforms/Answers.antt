use Rattle.std.proofs.Common.{◌≡◌, ℕ, Bool, false, ◌||◌, ap, sym, ◌∙◌}
use Rattle.std.proofs.lemmas.Bool.{ne_eqb}
use Rattle.std.specs.Option.{option_map_or}
use Rattle.std.specs.Prelude.{slice_get}
use Rattle.sc_code.specs.declared.program.ClassCode.{ClassCode}
use Rattle.sc_code.specs.declared.program.Image.{Image}
use Rattle.sc_interp.specs.Serving.{conforms_in}
use Rattle.sc_acts.proofs.Slices.{lent_at}
use Rattle.sc_interp.proofs.testing.conforms.Goals as goal

-- what the table of a class says of another one
abbrev says : ℕ → ClassCode → Bool
says j k = option_map_or (λ (b : Bool). b) (slice_get k.conforms.items j) false

-- of classes that differ the table tells
told : (p : Image) (k j : ℕ) (b : Bool) → (k ≡ j → ⊥) → option_map_or (says j) (slice_get p.classes.items k) false ≡ b → b ≡ conforms_in p k j
told p k j b differ e = sym e ∙ ap (λ (same : Bool). same || option_map_or (says j) (slice_get p.classes.items k) false) (sym (ne_eqb k j differ))

pub returns-in-None : goal.returns-in-None
returns-in-None c =
    let p = c.args.program.now.image in
    told p c.args.class c.args.other false c.if-class-other.false
    (ap (λ o. option_map_or (says c.args.other) o false) (lent_at c.classes.result.now p.classes.items c.args.class c.get.result _ c.get.ensures.lookup c.classes.ensures c.in-None.is))

pub returns-in-Some-get : goal.returns-in-Some-get
returns-in-Some-get c =
    let p = c.args.program.now.image in
    let k = c.in-Some.code.now in
    told p c.args.class c.args.other c.in-Some-get.conforms.now c.if-class-other.false
    (ap (λ o. option_map_or (says c.args.other) o false) (lent_at c.classes.result.now p.classes.items c.args.class c.get.result _ c.get.ensures.lookup c.classes.ensures c.in-Some.is)
    ∙ ap (λ o. option_map_or (λ (b : Bool). b) o false)
    (lent_at c.deref.result.now k.conforms.items c.args.other c.get-in-Some.result _ c.get-in-Some.ensures.lookup c.deref.ensures.value c.in-Some-get.is))

pub returns-in-None-get : goal.returns-in-None-get
returns-in-None-get c =
    let p = c.args.program.now.image in
    let k = c.in-Some.code.now in
    told p c.args.class c.args.other false c.if-class-other.false
    (ap (λ o. option_map_or (says c.args.other) o false) (lent_at c.classes.result.now p.classes.items c.args.class c.get.result _ c.get.ensures.lookup c.classes.ensures c.in-Some.is)
    ∙ ap (λ o. option_map_or (λ (b : Bool). b) o false)
    (lent_at c.deref.result.now k.conforms.items c.args.other c.get-in-Some.result _ c.get-in-Some.ensures.lookup c.deref.ensures.value c.in-None-get.is))
