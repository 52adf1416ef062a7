-- What the laws of canonical text say of one tree: its canonical tokens spell it again, no deeper, and take
-- their names, numbers and strings from the tokens that spelled it.
use Rattle.std.proofs.Common.{◌≡◌, ℕ, ◌≤◌, List, [], ◌∷◌, ◌++◌, map, refl, ap, sym, ◌∙◌, subst, append_assoc}
use Rattle.sc_text.specs.Kind.{Kind, NAME, TERMINAL}
use Rattle.sc_text.specs.declared.token.Terminal.{Terminal}
use Rattle.sc_tree.specs.Grammar.{none_name}
use Rattle.sc_tree.specs.Canonical.Layout.{Part, Line, word, tokens_of_part, tokens_of_parts, tokens_of_lines}

-- Each token of the second list is one of the first, a reserved word, a symbol or the name `none`.
pub data Keeps : List Kind → List Kind → Type 0 where
  same : (c : List Kind) → Keeps c c
  each : (k : Kind) {c d : List Kind} → Keeps c d → Keeps (k ∷ c) (k ∷ d)
  added : (t : Terminal) {c d : List Kind} → Keeps c d → Keeps c (TERMINAL t ∷ d)
  added_none : {c d : List Kind} → Keeps c d → Keeps c (NAME none_name ∷ d)
  dropped : (k : Kind) {c d : List Kind} → Keeps c d → Keeps (k ∷ c) d
  both : {a b c d : List Kind} → Keeps a c → Keeps b d → Keeps (a ++ b) (c ++ d)
  twice : {c d e : List Kind} → Keeps c d → Keeps c e → Keeps c (d ++ e)
  nothing : (c : List Kind) → Keeps c []
  through : {c d e : List Kind} → Keeps c d → Keeps d e → Keeps c e
  before : {a d : List Kind} (b : List Kind) → Keeps a d → Keeps (a ++ b) d
  behind : {b d : List Kind} (a : List Kind) → Keeps b d → Keeps (a ++ b) d

-- tokens that spell something without nesting, again
pub record Remains (R : List Kind → Type 0) (c d : List Kind) : Type 0 where
  pub spelled : R d
  pub kept : Keeps c d

-- tokens that spell something with some nesting, again
pub record Again (R : List Kind → ℕ → Type 0) (c : List Kind) (h : ℕ) (d : List Kind) : Type 0 where
  pub nesting : ℕ
  pub low : nesting ≤ h
  pub spelled : R d nesting
  pub kept : Keeps c d

pub remains_along : {R : List Kind → Type 0} {c d e : List Kind} → d ≡ e → Remains R c e → Remains R c d
remains_along {R = R} {c = c} e r = subst (λ x. Remains R c x) (sym e) r

pub again_along : {R : List Kind → ℕ → Type 0} {c d e : List Kind} {h : ℕ} → d ≡ e → Again R c h e → Again R c h d
again_along {R = R} {c = c} {h = h} e r = subst (λ x. Again R c h x) (sym e) r

pub kept_along : {c d e : List Kind} → d ≡ e → Keeps c e → Keeps c d
kept_along {c = c} e k = subst (λ x. Keeps c x) (sym e) k

pub tokens-append : (ps qs : List Part) → tokens_of_parts (ps ++ qs) ≡ tokens_of_parts ps ++ tokens_of_parts qs
tokens-append [] qs = refl
tokens-append (p ∷ ps) qs =
    ap (λ c. tokens_of_part p ++ c) (tokens-append ps qs)
    ∙ sym (append_assoc (tokens_of_part p) (tokens_of_parts ps) (tokens_of_parts qs))

pub tokens-words : (ts : List Terminal) → tokens_of_parts (map word ts) ≡ map TERMINAL ts
tokens-words [] = refl
tokens-words (t ∷ ts) = ap (λ c. TERMINAL t ∷ c) (tokens-words ts)

pub lines-append : (ls ms : List Line) → tokens_of_lines (ls ++ ms) ≡ tokens_of_lines ls ++ tokens_of_lines ms
lines-append [] ms = refl
lines-append (l ∷ ls) ms =
    ap (λ c. tokens_of_parts l.parts ++ c) (lines-append ls ms) ∙ sym (append_assoc (tokens_of_parts l.parts) (tokens_of_lines ls) (tokens_of_lines ms))
