-- How a refusal is reported.
use Rattle.std.specs.Prelude.{ℕ, List, [], ◌∷◌, ◌++◌, Option, Some, None, codes, decimal}
use Rattle.sc_rules.specs.RefusalText.{code_of, name_of}
use Rattle.sc_frontend.specs.declared.refused.Refused.{Refused}
use Rattle.sc_source.specs.Source.{File, Place, line_feed, place_at}

-- ` FILE:LINE:COLUMN`, or nothing if there is no place
abbrev pub place_text : Option Place → List ℕ
place_text None = []
place_text (Some p) = codes " " ++ (p.file ++ (codes ":" ++ (decimal p.line ++ (codes ":" ++ decimal p.column))))

-- `refused CODE Name FILE:LINE:COLUMN`, as a line
abbrev pub refusal_line : List ℕ → List ℕ → Option Place → List ℕ
refusal_line code name place =
    codes "refused " ++ (code ++ (codes " " ++ (name ++ (place_text place ++ (line_feed ∷ [])))))

-- the line that reports a refusal, with the place in the files at which its part of the text begins
abbrev pub refused_line : List File → Refused → List ℕ
refused_line source refused =
    refusal_line (code_of refused.code) (name_of refused.code) (place_at source refused.span)

-- the line that reports that a program would be too long
abbrev pub too_long_line : List ℕ
too_long_line = codes "refused CodeTooLong" ++ (line_feed ∷ [])
