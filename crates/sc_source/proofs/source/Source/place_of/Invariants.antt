use Rattle.std.proofs.Common.{◌≡◌, drop}
use Rattle.sc_source.specs.Internal.Files.{files_in}
use Rattle.sc_source.specs.Source as spec
use Rattle.sc_source.proofs.source.Source.place_of.Given as goal

-- what is left of the text is the text of the files that are left, and the offset goes on in them
abbrev pub invariant-loop-file : goal.invariant-loop-file
invariant-loop-file l = record {
  text : spec.joined (files_in l.rest (drop l.file-index l.file-items)) ≡ l.rest;
  place : spec.place_of (files_in l.rest (drop l.file-index l.file-items)) l.offset ≡ spec.place_of l.self l.fn.offset;
}
