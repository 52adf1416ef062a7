use Rattle.std.proofs.Common.{◌≡◌, drop, map}
use Rattle.sc_tree.specs.Plain.{Declaration}
use Rattle.sc_tree.specs.View.{declaration_of}
use Rattle.sc_class.specs.SystemIn.{system_in}
use Rattle.sc_rules.specs.Names.{formal_type}
use Rattle.sc_rules.specs.Types.{declared_type}
use Rattle.sc_code.specs.Emitted.{types_pass}
use Rattle.sc_routines.proofs.calls.declared_types_pass.Given as goal

abbrev pub invariant-loop-number : goal.invariant-loop-number
invariant-loop-number l =
    let taken = λ (d : Declaration). formal_type (declared_type (system_in l.tables) (map declaration_of l.formals) d.declared_type) in
    types_pass (map taken (map declaration_of (drop l.number l.formals))) (drop l.number l.actuals)
    ≡ types_pass (map taken (map declaration_of l.formals)) l.actuals
