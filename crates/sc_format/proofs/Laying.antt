-- The loop over the tokens of a text.
use Rattle.std.proofs.Common.{add-one, get_or, drop-cons, append_assoc, ◌≡◌, ℕ, ◌+◌, ◌-◌, ◌≤◌, ◌<◌, List, [], ◌∷◌, ◌++◌, length, take, drop, ap, sym, ◌∙◌, subst, arith, length-drop}
use Rattle.std.proofs.lemmas.List.{drop-drop, drop_all}
use Rattle.sc_text.specs.declared.token.Token.{Token}
use Rattle.sc_text.specs.Spelling.{Lexeme, StandInOrder, lexeme_of, lexemes_of}
use Rattle.sc_format.specs.declared.layout.Blank.TheVariants as blank
use Rattle.sc_format.specs.declared.layout.State.{State}
use Rattle.sc_format.specs.declared.layout.Want.{Want}
use Rattle.sc_format.specs.declared.role.Role.{Role}
use Rattle.sc_format.specs.Formatted.{laid, wanted}
use Rattle.sc_format.specs.Gaps.{laid_gap}
use Rattle.sc_format.specs.Layout.{after, line, role_of}

order-within : (text : List ℕ) (from : ℕ) (ts : List Lexeme) → StandInOrder text from ts → from ≤ length text
order-within text from [] h = h
order-within text from (t ∷ ts) h = let le = order-within text t.span.end ts h.3 in omega (arith, h.0, h.1)

-- a token's place in the text with a line feed before it
pub record Placed (source : List ℕ) (from start end : ℕ) : Type 0 where
  pub after : from ≤ start + 1
  pub some : start < end
  pub within : end + 1 ≤ length source

pub lexemes-at : (ts : List Token) (i : ℕ) (t : Token) → i < length ts → t ≡ get_or ts i t →
    lexemes_of (drop i ts) ≡ lexeme_of t ∷ lexemes_of (drop (i + 1) ts)
lexemes-at ts i t h e =
    let f : drop i ts ≡ get_or ts i t ∷ drop (i + 1) ts = rw add-one (drop-cons ts i t h) in
    ap lexemes_of (f ∙ ap (λ (u : Token). u ∷ drop (i + 1) ts) (sym e))

pub placed : (source : List ℕ) (from i : ℕ) (ts : List Token) (t : Token) → 0 < length source → from ≤ length source → i < length ts →
    t ≡ get_or ts i t → StandInOrder (drop 1 source) (from - 1) (lexemes_of (drop i ts)) → Placed source from t.span.start t.span.end
placed source from i ts t some le h e order =
    let all = subst (StandInOrder (drop 1 source) (from - 1)) (lexemes-at ts i t h e) order in
    let within = order-within (drop 1 source) t.span.end (lexemes_of (drop (i + 1) ts)) all.3 in
    record { after = omega (arith, all.0); some = all.1; within = omega (arith, length-drop 1 source, within) }

pub order-more : (source : List ℕ) (from i : ℕ) (ts : List Token) (t : Token) → i < length ts →
    t ≡ get_or ts i t → StandInOrder (drop 1 source) (from - 1) (lexemes_of (drop i ts)) →
    StandInOrder (drop 1 source) (t.span.end + 1 - 1) (lexemes_of (drop (i + 1) ts))
order-more source from i ts t h e order =
    let all = subst (StandInOrder (drop 1 source) (from - 1)) (lexemes-at ts i t h e) order in
    let n : t.span.end ≡ t.span.end + 1 - 1 = omega arith in
    subst (λ (m : ℕ). StandInOrder (drop 1 source) m (lexemes_of (drop (i + 1) ts))) n all.3

regroup : (a b c d : List ℕ) → ((a ++ b) ++ c) ++ d ≡ a ++ (b ++ (c ++ d))
regroup a b c d = simp append_assoc

-- one token, as its parts are read from the text before it
token-laid : (t : Lexeme) (ts : List Lexeme) (s s' : State) (r : Role) (w : Want) (before gap word word1 rest rest1 out out1 out2 all : List ℕ) (place : ℕ) →
    r ≡ role_of t.kind → w ≡ wanted s r before word → s' ≡ after s r → word1 ≡ word → rest1 ≡ rest →
    out1 ≡ out ++ laid_gap w gap → out2 ≡ out1 ++ word →
    out ++ (laid_gap (wanted s (role_of t.kind) before word1) gap ++ (word1 ++ laid rest1 place ts (after s (role_of t.kind)) word1)) ≡ all →
    out2 ++ laid rest place ts s' word ≡ all
token-laid t ts s s' r w before gap word word1 rest rest1 out out1 out2 all place p q u e f g h was =
    ap (λ (o : List ℕ). o ++ laid rest place ts s' word) (h ∙ ap (λ (o : List ℕ). o ++ word) g)
    ∙ regroup out (laid_gap w gap) word (laid rest place ts s' word)
    ∙ ap (λ (v : Want). out ++ (laid_gap v gap ++ (word ++ laid rest place ts s' word))) q
    ∙ ap (λ (x : State). out ++ (laid_gap (wanted s r before word) gap ++ (word ++ laid rest place ts x word))) u
    ∙ ap (λ (x : Role). out ++ (laid_gap (wanted s x before word) gap ++ (word ++ laid rest place ts (after s x) word))) p
    ∙ ap (λ (x : List ℕ). out ++ (laid_gap (wanted s (role_of t.kind) before x) gap ++ (x ++ laid rest place ts (after s (role_of t.kind)) x))) (sym e)
    ∙ ap (λ (x : List ℕ). out ++ (laid_gap (wanted s (role_of t.kind) before word1) gap ++ (word1 ++ laid x place ts (after s (role_of t.kind)) word1))) (sym f)
    ∙ was

rest_at : (source : List ℕ) (from n : ℕ) → from ≤ n → drop (n - from) (drop from source) ≡ drop n source
rest_at source from n le = let e : from + (n - from) ≡ n = omega arith in drop-drop (n - from) from source ∙ ap (λ (k : ℕ). drop k source) e

pub laid-more : (source : List ℕ) (from i : ℕ) (tokens : List Token) (t : Token) (s s' : State) (r : Role) (w : Want)
    (before gap word out out1 out2 all : List ℕ) → i < length tokens → t ≡ get_or tokens i t → Placed source from t.span.start t.span.end →
    r ≡ role_of (lexeme_of t).kind → w ≡ wanted s r before word → s' ≡ after s r →
    gap ≡ take (t.span.start + 1 - from) (drop from source) →
    word ≡ take ((t.span.end + 1) - (t.span.start + 1)) (drop (t.span.start + 1) source) →
    out1 ≡ out ++ laid_gap w gap → out2 ≡ out1 ++ word →
    out ++ laid (drop from source) from (lexemes_of (drop i tokens)) s before ≡ all →
    out2 ++ laid (drop (t.span.end + 1) source) (t.span.end + 1) (lexemes_of (drop (i + 1) tokens)) s' word ≡ all
laid-more source from i tokens t s s' r w before gap word out out1 out2 all h e at p q u g v x y was =
    let ts = lexemes_of (drop (i + 1) tokens) in
    let n : (t.span.end + 1) - (t.span.start + 1) ≡ t.span.end - t.span.start = omega arith in
    let words : take (t.span.end - t.span.start) (drop (t.span.start + 1 - from) (drop from source)) ≡ word =
    ap (take (t.span.end - t.span.start)) (rest_at source from (t.span.start + 1) at.after)
    ∙ ap (λ (k : ℕ). take k (drop (t.span.start + 1) source)) (sym n) ∙ sym v
    in
    let rests : drop (t.span.end + 1 - from) (drop from source) ≡ drop (t.span.end + 1) source =
    rest_at source from (t.span.end + 1) (omega (arith, at.after, at.some))
    in
    token-laid (lexeme_of t) ts s s' r w before gap word (take (t.span.end - t.span.start) (drop (t.span.start + 1 - from) (drop from source)))
    (drop (t.span.end + 1) source) (drop (t.span.end + 1 - from) (drop from source)) out out1 out2 all (t.span.end + 1) p q u words rests x y
    (ap (λ (k : List ℕ). out ++ (laid_gap (wanted s (role_of (lexeme_of t).kind) before (take (t.span.end - t.span.start) (drop (t.span.start + 1 - from) (drop from source)))) k
    ++ (take (t.span.end - t.span.start) (drop (t.span.start + 1 - from) (drop from source))
    ++ laid (drop (t.span.end + 1 - from) (drop from source)) (t.span.end + 1) ts (after s (role_of (lexeme_of t).kind)) (take (t.span.end - t.span.start) (drop (t.span.start + 1 - from) (drop from source)))))) g
    ∙ sym (ap (λ (us : List Lexeme). out ++ laid (drop from source) from us s before) (lexemes-at tokens i t h e)) ∙ was)

pub laid-done : (source : List ℕ) (from i : ℕ) (tokens : List Token) (s : State) (before gap out out1 all : List ℕ) → length tokens ≤ i →
    gap ≡ drop from source → out1 ≡ out ++ laid_gap (line 0 blank.Never) gap →
    out ++ laid (drop from source) from (lexemes_of (drop i tokens)) s before ≡ all → out1 ≡ all
laid-done source from i tokens s before gap out out1 all le e p was =
    p ∙ ap (λ (g : List ℕ). out ++ laid_gap (line 0 blank.Never) g) e
    ∙ sym (ap (λ (us : List Token). out ++ laid (drop from source) from (lexemes_of us) s before) (drop_all i tokens le)) ∙ was
