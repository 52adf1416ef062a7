use Rattle.std.proofs.Common.{◌≡◌, List, [], ◌∷◌, false, drop, map, refl, sym, ◌∙◌}
use Rattle.std.proofs.lemmas.List.{at_drop_all}
use Rattle.sc_tree.specs.Plain.{Declaration}
use Rattle.sc_tree.specs.View.{declaration_of}
use Rattle.sc_class.specs.SystemIn.{system_in}
use Rattle.sc_rules.specs.Names.{FormalType, formal_type}
use Rattle.sc_rules.specs.Types.{declared_type}
use Rattle.sc_code.specs.Emitted.{types_pass}
use Rattle.sc_routines.proofs.calls.declared_types_pass.Goals as goal

none_passes : (fs : List FormalType) → types_pass fs [] ≡ false
none_passes [] = refl
none_passes (f ∷ fs) = refl

pub returns-then-actuals-number : goal.returns-then-actuals-number
returns-then-actuals-number c =
    let all = c.args.formals.now in
    let taken = λ (d : Declaration). formal_type (declared_type (system_in c.args.tables.now) (map declaration_of all) d.declared_type) in
    let left = map taken (map declaration_of (drop c.loop-number.number all)) in
    sym (none_passes left) ∙ sym (at_drop_all (types_pass left) c.args.actuals.now c.loop-number.number c.if-actuals-number.true) ∙ c.loop-number.invariant
