-- Texts of small records, as they are written.
use Rattle.std.proofs.Common.{◌≡◌, ℕ, List, [], ◌∷◌, ◌++◌, codes, refl}
use Rattle.std.specs.Fmt.{digits}
use Rattle.sc_lockpass.specs.declared.version.Version.TheVariants.{One, Two}
use Rattle.sc_audit.specs.declared.line.RecordLine.{RecordLine}
use Rattle.sc_audit.specs.Records.{text_of}

abbrev turns : ℕ → ℕ → RecordLine
turns handler many = record { handler = handler; turns = many }

abbrev line : List ℕ → List ℕ
line text = text ++ 10 ∷ []

one_line : text_of One (turns 0 5 ∷ []) ≡ line (codes "scoop record 1") ++ line (codes "0 5") ++ line (codes "end 1")
unfolding digits
one_line = refl

no_line : text_of Two [] ≡ line (codes "scoop record 2") ++ line (codes "end 0")
unfolding digits
no_line = refl

longer_numbers : text_of Two (turns 511 1 ∷ turns 10 9999999 ∷ []) ≡
    line (codes "scoop record 2") ++ line (codes "511 1") ++ line (codes "10 9999999") ++ line (codes "end 2")
unfolding digits
longer_numbers = refl
