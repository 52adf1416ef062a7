use Rattle.std.proofs.Common.{◌++◌, take}
use Rattle.std.specs.List.{flat_map}
use Rattle.sc_lockpass.specs.declared.version.Version.TheVariants.{Two}
use Rattle.sc_audit.specs.Records.{first_line, line_text}
use Rattle.sc_audit.specs.Writing.{Writes}
use Rattle.sc_audit.proofs.writing.write_record.Given as goal

-- the lines so far are written, but for the block
abbrev pub invariant-loop-line : goal.invariant-loop-line
invariant-loop-line g l = Writes (g.W.Write.contents l.fn.writer) (g.W.Write.contents l.writer)
    (first_line Two ++ flat_map line_text (take l.line-index l.lines)) l.block.items
