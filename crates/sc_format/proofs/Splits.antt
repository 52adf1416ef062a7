-- A text as gaps and tokens, and its layout token by token.
use Rattle.std.proofs.Common.{append_assoc, append-nil, length-append, ◌≡◌, ℕ, ◌+◌, ◌-◌, List, [], ◌∷◌, ◌++◌, length, take, drop, refl, ap, sym, ◌∙◌, subst, arith}
use Rattle.std.proofs.lemmas.List.{take_at, drop_at}
use Rattle.sc_text.specs.Kind.{Kind}
use Rattle.sc_text.specs.Spelling.{Lexeme, IsGap, IsToken, BeginsWith, here, gap, token, Spells, span_at}
use Rattle.sc_format.specs.declared.layout.State.{State}
use Rattle.sc_format.specs.Formatted.{laid, laid_token}
use Rattle.sc_format.specs.Layout.{after, role_of}
use Rattle.sc_format.proofs.Lines.{IsGaps, more, none}

-- From this place on the text is gaps and these tokens.
pub data IsSplit : ℕ → List ℕ → List Lexeme → Type 0 where
  tail : {place : ℕ} {g : List ℕ} → IsGaps g [] → IsSplit place g []
  part : {place : ℕ} {text : List ℕ} (g w rest : List ℕ) (k : Kind) (at next : ℕ) {ts : List Lexeme} →
      text ≡ g ++ (w ++ rest) → at ≡ place + length g → next ≡ at + length w → IsGaps g (w ++ rest) → IsToken k w rest →
      IsSplit next rest ts → IsSplit place text (record { kind = k; span = record { start = at; end = next } } ∷ ts)

gap-first : (place next : ℕ) (cs text : List ℕ) (ts : List Lexeme) → next ≡ place + length cs → IsGap cs text → IsSplit next text ts → IsSplit place (cs ++ text) ts
gap-first place next cs text [] e h (tail i) = tail (more (subst (IsGap cs) (sym (append-nil text)) h) i)
gap-first place next cs text (t ∷ ts) e h (part g w rest k at after p q r i j s) =
    part (cs ++ g) w rest k at after (ap (λ (x : List ℕ). cs ++ x) p ∙ sym (append_assoc cs g (w ++ rest)))
    (omega (arith, e, q, length-append cs g)) r (more (subst (IsGap cs) p h) i) j s

pub split : {place end : ℕ} {text rest : List ℕ} {ts : List Lexeme} → BeginsWith place text ts end rest → rest ≡ [] → IsSplit place text ts
split (here {place} {text}) e = subst (λ (t : List ℕ). IsSplit place t []) (sym e) (tail none)
split (gap {place} {cs = cs} {text = text} {ts = ts} h b) e = gap-first place (place + length cs) cs text ts refl h (split b e)
split (token {place} {k = k} {cs = cs} {text = text} t b) e = part [] cs text k place (place + length cs) refl (omega arith) refl none t (split b e)

gaps-first : {g rest after : List ℕ} {ts : List Lexeme} (place next end : ℕ) → IsGaps g rest → next ≡ place + length g →
    BeginsWith next rest ts end after → BeginsWith place (g ++ rest) ts end after
gaps-first {rest = rest} {after = after} {ts = ts} place next end none e b =
    let n : next ≡ place = e ∙ (let z : place + length {A = ℕ} [] ≡ place = omega arith in z) in
    subst (λ (m : ℕ). BeginsWith m rest ts end after) n b
gaps-first {after = after} {ts = ts} place next end (more {cs} {gs} {rest} h i) e b =
    subst (λ (t : List ℕ). BeginsWith place t ts end after) (sym (append_assoc cs gs rest))
    (gap h (gaps-first (place + length cs) next end i (omega (arith, e, length-append cs gs)) b))

pub joined-split : {place : ℕ} {text : List ℕ} {ts : List Lexeme} → IsSplit place text ts → BeginsWith place text ts (place + length text) []
joined-split (tail {place} {g} i) =
    subst (λ (t : List ℕ). BeginsWith place t [] (place + length g) []) (append-nil g) (gaps-first place (place + length g) (place + length g) i refl here)
joined-split (part {place} {text} g w rest k at next {ts} p q r i j s) =
    let ih = joined-split s in
    let end : next + length rest ≡ place + length text = omega (arith, q, r, ap length p, length-append g (w ++ rest), length-append w rest) in
    let rests = subst (λ (n : ℕ). BeginsWith next rest ts n []) end ih in
    let placed = subst (λ (n : ℕ). BeginsWith n rest ts (place + length text) []) r rests in
    let one : BeginsWith at (w ++ rest) (record { kind = k; span = span_at at (length w) } ∷ ts) (place + length text) [] = token j placed in
    let spanned = subst (λ (n : ℕ). BeginsWith at (w ++ rest) (record { kind = k; span = record { start = at; end = n } } ∷ ts) (place + length text) []) (sym r) one in
    subst (λ (t : List ℕ). BeginsWith place t (record { kind = k; span = record { start = at; end = next } } ∷ ts) (place + length text) []) (sym p)
    (gaps-first place at (place + length text) i q spanned)

pub spelled-split : {text : List ℕ} {ts : List Lexeme} → IsSplit 0 text ts → Spells text ts
spelled-split {text} {ts} s =
    let n : 0 + length text ≡ length text = omega arith in
    subst (λ (m : ℕ). BeginsWith 0 text ts m []) n (joined-split s)

-- ---- the layout of one part

-- what the parts of a text before it are read as
pub part-laid : (from : ℕ) (text g w rest : List ℕ) (k : Kind) (at next : ℕ) (ts : List Lexeme) (s : State) (before : List ℕ) →
    text ≡ g ++ (w ++ rest) → at + 1 ≡ from + length g → next ≡ at + length w →
    laid text from (record { kind = k; span = record { start = at; end = next } } ∷ ts) s before
    ≡ laid_token s (role_of k) before g w (laid rest (next + 1) ts (after s (role_of k)) w)
part-laid from text g w rest k at next ts s before p q r =
    let a : at + 1 - from ≡ length g = omega (arith, q) in
    let b : next - at ≡ length w = omega (arith, r) in
    let c : next + 1 - from ≡ length (g ++ w) = omega (arith, q, r, length-append g w) in
    let gap-is : take (at + 1 - from) text ≡ g = ap (λ (n : ℕ). take n text) a ∙ ap (take (length g)) p ∙ take_at g (w ++ rest) (length g) refl in
    let word-is : take (next - at) (drop (at + 1 - from) text) ≡ w =
    ap (λ (n : ℕ). take n (drop (at + 1 - from) text)) b
    ∙ ap (λ (n : ℕ). take (length w) (drop n text)) a ∙ ap (λ (t : List ℕ). take (length w) (drop (length g) t)) p
    ∙ ap (take (length w)) (drop_at g (w ++ rest) (length g) refl) ∙ take_at w rest (length w) refl
    in
    let rest-is : drop (next + 1 - from) text ≡ rest =
    ap (λ (n : ℕ). drop n text) c ∙ ap (drop (length (g ++ w))) (p ∙ sym (append_assoc g w rest)) ∙ drop_at (g ++ w) rest (length (g ++ w)) refl
    in
    ap (λ (x : List ℕ). laid_token s (role_of k) before x (take (next - at) (drop (at + 1 - from) text))
    (laid (drop (next + 1 - from) text) (next + 1) ts (after s (role_of k)) (take (next - at) (drop (at + 1 - from) text)))) gap-is
    ∙ ap (λ (x : List ℕ). laid_token s (role_of k) before g x (laid (drop (next + 1 - from) text) (next + 1) ts (after s (role_of k)) x)) word-is
    ∙ ap (λ (x : List ℕ). laid_token s (role_of k) before g w (laid x (next + 1) ts (after s (role_of k)) w)) rest-is
