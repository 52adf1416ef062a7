-- The codes of what is found.
use Rattle.std.proofs.Common.{◌≡◌, ℕ, List, [], ◌∷◌, ◌++◌, Option, Some, None, append-nil, refl, ap, ◌∙◌}
use Rattle.sc_rules.specs.declared.refusal_code.RefusalCode.{RefusalCode}
use Rattle.sc_language_server.specs.Findings.{codes_of, with_code}
use Rattle.sc_language_server.specs.declared.findings.Finding.{Finding}

with_first : (code : Option RefusalCode) (xs ys : List RefusalCode) → with_code code (xs ++ ys) ≡ with_code code xs ++ ys
with_first None xs ys = refl
with_first (Some code) xs ys = refl

-- a finding that is added last
pub codes_last : (xs : List Finding) (x : Finding) → codes_of (xs ++ (x ∷ [])) ≡ codes_of xs ++ with_code x.code []
codes_last [] x = refl
codes_last (y ∷ ys) x = ap (λ codes. with_code y.code codes) (codes_last ys x) ∙ with_first y.code (codes_of ys) (with_code x.code [])

pub no_code : (xs : List Finding) (x : Finding) → x.code ≡ None → codes_of (xs ++ (x ∷ [])) ≡ codes_of xs
no_code xs x e = codes_last xs x ∙ ap (λ code. codes_of xs ++ with_code code []) e ∙ append-nil (codes_of xs)
