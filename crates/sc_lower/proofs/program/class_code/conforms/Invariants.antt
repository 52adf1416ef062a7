use Rattle.std.proofs.Common.{◌≡◌, map}
use Rattle.std.specs.List.{range_with_len}
use Rattle.sc_class.specs.SystemIn.{system_in}
use Rattle.sc_class.specs.declared.identity.ClassId.TheVariants as class_id
use Rattle.sc_class.specs.Tables.Conformance.{class_conforms}
use Rattle.sc_lower.proofs.program.class_code.conforms.Given as goal

abbrev pub invariant-loop-other : goal.invariant-loop-other
invariant-loop-other l = l.conforms.items ≡ map (λ j. class_conforms (system_in l.tables) (class_id.Declared l.class) (class_id.Declared j)) (range_with_len 0 l.other)
