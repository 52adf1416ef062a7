use Rattle.std.proofs.Common.{drop}
use Rattle.sc_symbols.specs.Internal.{renamed_in}
use Rattle.sc_symbols.specs.Renaming.{KeepsMeaning}
use Rattle.sc_symbols.proofs.meanings.Renaming.keeps_meaning.Given as goal

abbrev pub invariant-loop-index : goal.invariant-loop-index
invariant-loop-index l =
    KeepsMeaning (renamed_in l.self) (drop l.index l.before) (drop l.index l.after) → KeepsMeaning (renamed_in l.self) l.before l.after
