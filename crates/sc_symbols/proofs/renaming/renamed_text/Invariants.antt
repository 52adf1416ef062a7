use Rattle.std.proofs.Common.{◌≡◌, ◌++◌, drop}
use Rattle.std.specs.Prelude.{string_bytes}
use Rattle.sc_symbols.specs.Renaming.{renamed, renamed_from}
use Rattle.sc_symbols.proofs.renaming.renamed_text.Given as goal

-- what is written, and what is left to write
abbrev pub invariant-loop-used : goal.invariant-loop-used
invariant-loop-used l =
    renamed l.text l.uses l.name ≡ string_bytes l.renamed ++ renamed_from l.place l.text (drop l.used-index l.uses) l.name
