use Rattle.std.proofs.Common.{◌≡◌, map, take}
use Rattle.std.specs.List.{flat_map}
use Rattle.sc_tree.specs.View.{declaration_of}
use Rattle.sc_warnings.specs.Warnings.{name_if_reserved}
use Rattle.sc_warnings.proofs.routines.reserved_names.Given as goal

abbrev pub invariant-loop-formal : goal.invariant-loop-formal
invariant-loop-formal l =
    map (λ name. name.now) l.names.items ≡ flat_map (λ x. name_if_reserved (declaration_of x)) (take l.formal-index l.formals)
