-- The text of the line that reports a refusal.
use Rattle.std.specs.Prelude.{ℕ, ◌≡◌, List, [], ◌∷◌, ◌++◌, Some, codes, decimal}
use Rattle.std.proofs.Common.{◌∙◌, sym, ap, append_assoc}
use Rattle.sc_source.specs.Source.{line_feed}
use Rattle.sc_serve.specs.Refusal.{refusal_line}

-- with a place, joined part by part
pub placed : (code name file : List ℕ) (line column : ℕ) →
    codes "refused " ++ (code ++ (codes " " ++ (name ++ (codes " "
    ++ (file ++ (codes ":" ++ (decimal line ++ (codes ":" ++ (decimal column ++ (line_feed ∷ []))))))))))
    ≡ refusal_line code name (Some (record { file = file; line = line; column = column }))
placed code name file line column =
    ap (λ text. codes "refused " ++ (code ++ (codes " " ++ (name ++ (codes " " ++ text)))))
    (sym (append_assoc file (codes ":" ++ (decimal line ++ (codes ":" ++ decimal column))) (line_feed ∷ [])
    ∙ ap (λ text. file ++ (codes ":" ++ text))
    (append_assoc (decimal line) (codes ":" ++ decimal column) (line_feed ∷ []))))
