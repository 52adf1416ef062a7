use Rattle.std.proofs.Common.{◌≡◌, map}
use Rattle.std.specs.Prelude.{string_bytes}
use Rattle.std.specs.List.{range_with_len}
use Rattle.sc_class.specs.SystemIn.{system_in}
use Rattle.sc_code.specs.Programs.{class_in, class_code_of}
use Rattle.sc_lower.proofs.program.class_code.class_codes.Given as goal

abbrev pub invariant-loop-class : goal.invariant-loop-class
invariant-loop-class l = map class_in l.codes.items ≡ map (class_code_of (system_in l.numbering.tables.now) (map string_bytes l.names)) (range_with_len 0 l.class)
