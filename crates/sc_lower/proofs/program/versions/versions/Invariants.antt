use Rattle.std.proofs.Common.{◌≡◌, take, map}
use Rattle.std.specs.Prelude.{string_bytes}
use Rattle.sc_class.specs.SystemIn.{system_in}
use Rattle.sc_code.specs.Programs.{version_entry}
use Rattle.sc_lower.proofs.program.versions.versions.Given as goal

abbrev pub invariant-loop-name : goal.invariant-loop-name
invariant-loop-name l = l.versions.items ≡ map (version_entry (system_in l.numbering.tables.now) l.class) (map string_bytes (take l.name-index l.names))
