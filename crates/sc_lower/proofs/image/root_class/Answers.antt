use Rattle.std.proofs.Common.{◌≡◌, ◌<◌, ℕ, Some, None, ap, sym, subst, ◌∙◌, arith}
use Rattle.sc_class.proofs.Items.{some_is}
use Rattle.sc_class.specs.ClassNames.{Root, class_named}
use Rattle.sc_class.specs.Faults.ClassRules.{IsFaultless}
use Rattle.sc_class.specs.SystemIn.{root_in, system_in}
use Rattle.sc_lower.proofs.Rooted.{root_is}
use Rattle.sc_lower.proofs.image.root_class.Goals as goal

pub overflow_cast-result : goal.overflow_cast-result
overflow_cast-result c =
    let s = system_in c.args.tables.now in
    let root = root_in c.args.tables.now in
    let found = root_is s root (subst (IsFaultless s) c.root.ensures.same c.root.ensures.faultless) c.class_named.result
    (c.class_named.ensures ∙ ap (class_named s) (c.deref.ensures ∙ ap (λ (r : Root). r.class) c.root.ensures.same)) in
    let same : found.0 ≡ c.in-Some.number = some_is found.0 c.in-Some.number (sym (c.declared_number.ensures found.0 found.1) ∙ c.in-Some.is) in
    let small : c.in-Some.number < 256 = subst (λ (k : ℕ). k < 256) same found.3 in
    omega (arith, small)

pub returns : goal.returns
returns c =
    let s = system_in c.args.tables.now in
    let root = root_in c.args.tables.now in
    let found = root_is s root (subst (IsFaultless s) c.root.ensures.same c.root.ensures.faultless) c.class_named.result
    (c.class_named.ensures ∙ ap (class_named s) (c.deref.ensures ∙ ap (λ (r : Root). r.class) c.root.ensures.same)) in
    found.2 ∙ sym (c.declared_number.ensures found.0 found.1) ∙ c.in-Some.is

pub unreachable-requires : goal.unreachable-requires
unreachable-requires c =
    let s = system_in c.args.tables.now in
    let root = root_in c.args.tables.now in
    let found = root_is s root (subst (IsFaultless s) c.root.ensures.same c.root.ensures.faultless) c.class_named.result
    (c.class_named.ensures ∙ ap (class_named s) (c.deref.ensures ∙ ap (λ (r : Root). r.class) c.root.ensures.same)) in
    let never : Some found.0 ≡ None = sym (c.declared_number.ensures found.0 found.1) ∙ c.in-None.is in
    cc
