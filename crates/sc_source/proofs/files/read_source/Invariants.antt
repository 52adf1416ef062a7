use Rattle.std.proofs.Common.{◌≡◌, length, map, take}
use Rattle.sc_source.specs.Files.{left_of}
use Rattle.sc_source.proofs.files.read_source.Given as goal

-- a reader for each name so far, which has all of its file left
abbrev pub invariant-loop-name : goal.invariant-loop-name
invariant-loop-name g l = record {
  many : length l.readers.items ≡ l.name-index;
  told : map (λ file. left_of g.F.Reader.Read.remaining (g.F.Files.bytes_of file.files.now file.name.now) file.state) l.readers.items
      ≡ map (λ name. g.F.Files.bytes_of l.fn.files name.now) (take l.name-index l.fn.names);
}
