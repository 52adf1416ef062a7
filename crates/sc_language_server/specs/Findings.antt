-- What is found in a system.
use Rattle.std.specs.Prelude.{ℕ, zero, List, [], ◌∷◌, Option, Some, None, ◌≡◌, ◌<◌, ◌⊎◌, length, map}
use Rattle.sc_class.specs.ClassNames.{Root}
use Rattle.sc_frontend.specs.Texts.{IsExamined, IsUnreadable}
use Rattle.sc_frontend.specs.declared.refused.Refused.{Refused}
use Rattle.sc_frontend.specs.declared.rejection.Rejection.{Rejection}
use Rattle.sc_rules.specs.declared.refusal_code.RefusalCode.{RefusalCode}
use Rattle.sc_language_server.specs.declared.findings.Finding.{Finding}

-- a code before others, if there is one
abbrev pub with_code : Option RefusalCode → List RefusalCode → List RefusalCode
with_code None rest = rest
with_code (Some code) rest = code ∷ rest

-- the codes of the refusals among findings
abbrev pub codes_of : List Finding → List RefusalCode
codes_of [] = []
codes_of (finding ∷ rest) = with_code finding.code (codes_of rest)

-- the code of a refusal
abbrev pub code_of : Refused → RefusalCode
code_of refused = refused.code

-- The refusals among what is found in a text are those that its check lists; or it can't be read, and something is found.
abbrev pub AreFound : List ℕ → Root → List Finding → Type 0
AreFound text root findings =
    ((refused : List Refused) × IsExamined text root refused × (codes_of findings ≡ map code_of refused))
    ⊎ ((rejection : Rejection) × IsUnreadable text rejection × (0 < length findings))
