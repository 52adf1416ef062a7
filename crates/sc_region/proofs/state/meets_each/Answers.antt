use Rattle.std.proofs.Common.{rules, ◌≡◌, ℕ, Bool, true, length, ap, sym, ◌∙◌}
use Rattle.std.specs.Prelude.{All, IsTrue, ◌↔◌, slice_get}
use Rattle.std.proofs.lemmas.List.{length-map}
use Rattle.sc_code.specs.JoinedInvariants.{kept_along, kept_from}
use Rattle.sc_code.specs.Programs.{attribute_in}
use Rattle.sc_region.specs.Classes.{all_hold, classes_of}
use Rattle.sc_region.proofs.JoinedClauses.{all_told, each_holds}
use Rattle.sc_region.proofs.state.meets_each.Goals as goal

pub returns : goal.returns
returns c =
    let class = c.args.class.now in
    let classes = classes_of c.args.program.now.image in
    let atoms = c.args.atoms.now in
    let count = length class.attributes.items in
    let holds : ℕ → Bool = λ k. all_hold (kept_from count (slice_get classes k)) atoms in
    let each : IsTrue c.all.result ↔ All (λ k. holds k ≡ true) class.invariant_classes.items = search rules in
    all_told c.all.result holds class.invariant_classes.items each
    ∙ sym (each_holds classes count class.invariant_classes.items atoms)
    ∙ ap (λ n. all_hold (kept_along classes n class.invariant_classes.items) atoms) (sym (length-map class.attributes.items attribute_in))
