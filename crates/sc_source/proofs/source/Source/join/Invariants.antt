use Rattle.std.proofs.Common.{◌≡◌, ℕ, List, drop, map, take, Bor}
use Rattle.std.specs.List.{All}
use Rattle.std.specs.Io.KnownBytes.{IsAtEnd}
use Rattle.sc_source.specs.Source.{names_of, texts_of, unmarked}
use Rattle.sc_source.specs.Joining.{AreSound, AreTold, names_for}
use Rattle.sc_source.proofs.source.Source.join.Given as goal

-- the files so far are joined and have their names, the readers so far are at their ends, and the others are as they were
abbrev pub invariant-loop-file : goal.invariant-loop-file
invariant-loop-file g l = record {
  joined : (files : List (List ℕ)) → AreTold (map g.R.Read.remaining l.fn.readers) files
      → AreSound (take l.file files) × (texts_of l.source ≡ map unmarked (take l.file files));
  ended : All (λ reader. IsAtEnd (g.R.Read.remaining reader)) (take l.file l.readers);
  named : names_of l.source ≡ names_for (map (λ (name : Bor (List ℕ)). name.now) l.fn.names) l.file;
  unread : drop l.file l.readers ≡ drop l.file l.fn.readers;
}
