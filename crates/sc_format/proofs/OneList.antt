-- No text has two lists of elements: what begins a text is one thing.
use Rattle.std.proofs.Common.{◌≡◌, ℕ, ◌<◌, true, false, IsTrue, List, [], ◌∷◌, ◌++◌, length, length-append, take, drop, refl, ap, sym, ◌∙◌, arith}
use Rattle.std.proofs.lemmas.List.{take_at, drop_at}
use Rattle.sc_text.specs.Characters.{hyphen, is_white_space}
use Rattle.sc_text.specs.Kind.{Kind}
use Rattle.sc_text.specs.Reading.Front.{Front, Gap, Lexed, front}
use Rattle.sc_text.specs.Spelling.{white_space, comment, IsToken, name, reserved_word, integer, manifest_string, long, short, word, last_digit, digit}
use Rattle.sc_text.proofs.Complete.{gap_complete, token_complete}
use Rattle.sc_format.specs.Elements.{COMMENT, TOKEN, Element, Has, comment_first, nothing, token_first, white_first}
use Rattle.sc_format.specs.Gaps.{trimmed_end}

token_some : {k : Kind} {cs rest : List ℕ} → IsToken k cs rest → 0 < length cs
token_some (name (word first all) stops e) = omega arith
token_some (reserved_word (word first all) stops e) = omega arith
token_some (integer (last_digit h) stops le) = omega arith
token_some (integer (digit us h all i) stops le) = omega arith
token_some (manifest_string h) = omega arith
token_some (long e) = omega arith
token_some (short e stops) = omega arith

no-element : {A : Type 0} (c : ℕ) (cs : List ℕ) → [] ≡ c ∷ cs → A
no-element c cs e = absurd (let v : ⊥ = cc in v)

not-empty : {A : Type 0} (xs ys : List ℕ) → 0 < length xs → [] ≡ xs ++ ys → A
not-empty xs ys some e = absurd (omega (arith, ap length e, length-append xs ys))

white-head : {A : Type 0} (c d : ℕ) (cs ds : List ℕ) → IsTrue (is_white_space c) → is_white_space d ≡ false → c ∷ cs ≡ d ∷ ds → A
white-head c d cs ds w n e =
    let same : c ≡ d = cc in
    let f : true ≡ false = sym w ∙ ap is_white_space same ∙ n in
    absurd (let v : ⊥ = cc in v)

rest-same : (c d : ℕ) (cs ds : List ℕ) → c ∷ cs ≡ d ∷ ds → cs ≡ ds
rest-same c d cs ds e = ap (drop 1) e

-- a gap isn't a token
apart : {A : Type 0} (xs ys : List ℕ) (n m : ℕ) (k : Kind) → front 0 xs ≡ Gap n → front 0 ys ≡ Lexed k m → xs ≡ ys → A
apart xs ys n m k p q e = let f : Gap n ≡ Lexed k m = sym p ∙ ap (front 0) e ∙ q in absurd (let v : ⊥ = cc in v)

front-same : (xs ys : List ℕ) (a b : Front) → front 0 xs ≡ a → front 0 ys ≡ b → xs ≡ ys → a ≡ b
front-same xs ys a b p q e = sym p ∙ ap (front 0) e ∙ q

gap-length : (n m : ℕ) → Gap n ≡ Gap m → n ≡ m
gap-length n m e = cc

lexed-length : (k l : Kind) (n m : ℕ) → Lexed k n ≡ Lexed l m → n ≡ m
lexed-length k l n m e = cc

lexed-kind : (k l : Kind) (n m : ℕ) → Lexed k n ≡ Lexed l m → k ≡ l
lexed-kind k l n m e = cc

first-same : (a b c d : List ℕ) → a ++ b ≡ c ++ d → length a ≡ length c → a ≡ c
first-same a b c d e n =
    sym (take_at a b (length a) refl) ∙ ap (take (length a)) e ∙ ap (λ (k : ℕ). take k (c ++ d)) n ∙ take_at c d (length c) refl

second-same : (a b c d : List ℕ) → a ++ b ≡ c ++ d → length a ≡ length c → b ≡ d
second-same a b c d e n =
    sym (drop_at a b (length a) refl) ∙ ap (drop (length a)) e ∙ ap (λ (k : ℕ). drop k (c ++ d)) n ∙ drop_at c d (length c) refl

one : {text : List ℕ} {es : List Element} → Has text es → (other : List ℕ) (fs : List Element) → Has other fs → text ≡ other → es ≡ fs
one nothing other fs nothing e = refl
one nothing other fs (white_first {c = d} {rest = ds} w h) e = no-element d ds e
one nothing other fs (comment_first cs {rest} all stops h) e = no-element hyphen (hyphen ∷ (cs ++ rest)) e
one nothing other fs (token_first {cs = cs} {rest = rest} t h) e = not-empty cs rest (token_some t) e
one (white_first {c} {rest} w h) other fs nothing e = no-element c rest (sym e)
one (white_first {c} {rest} w h) other fs (white_first {c = d} {rest = ds} v i) e = one h ds fs i (rest-same c d rest ds e)
one (white_first {c} {rest} w h) other fs (comment_first cs {rest = more} all stops i) e = white-head c hyphen rest (hyphen ∷ (cs ++ more)) w refl e
one (white_first {c} {rest} w h) other fs (token_first {k} {cs} {rest = more} t i) e =
    apart (c ∷ rest) (cs ++ more) 1 (length cs) k (gap_complete (white_space {c = c} {rest = rest} w) 0) (token_complete t 0) e
one (comment_first cs {rest} all stops h) other fs nothing e = no-element hyphen (hyphen ∷ (cs ++ rest)) (sym e)
one (comment_first cs {rest} all stops h) other fs (white_first {c = d} {rest = ds} v i) e = white-head d hyphen ds (hyphen ∷ (cs ++ rest)) v refl (sym e)
one (comment_first cs {rest} {es} all stops h) other fs (comment_first ds {rest = more} {es = gs} also stop i) e =
    let n = gap-length _ _ (front-same _ _ _ _ (gap_complete (comment {cs = cs} {rest = rest} all stops) 0) (gap_complete (comment {cs = ds} {rest = more} also stop) 0) e) in
    let text = first-same (hyphen ∷ hyphen ∷ cs) rest (hyphen ∷ hyphen ∷ ds) more e n in
    let later = one h more gs i (second-same (hyphen ∷ hyphen ∷ cs) rest (hyphen ∷ hyphen ∷ ds) more e n) in
    ap (λ (t : List ℕ). COMMENT (trimmed_end t) ∷ es) text ∙ ap (λ (us : List Element). COMMENT (trimmed_end (hyphen ∷ hyphen ∷ ds)) ∷ us) later
one (comment_first cs {rest} all stops h) other fs (token_first {k} {cs = ds} {rest = more} t i) e =
    apart (hyphen ∷ hyphen ∷ (cs ++ rest)) (ds ++ more) (length (hyphen ∷ hyphen ∷ cs)) (length ds) k (gap_complete (comment {cs = cs} {rest = rest} all stops) 0) (token_complete t 0) e
one (token_first {cs = cs} {rest = rest} t h) other fs nothing e = not-empty cs rest (token_some t) (sym e)
one (token_first {k} {cs} {rest} t h) other fs (white_first {c = d} {rest = ds} v i) e =
    apart (d ∷ ds) (cs ++ rest) 1 (length cs) k (gap_complete (white_space {c = d} {rest = ds} v) 0) (token_complete t 0) (sym e)
one (token_first {k} {cs} {rest} t h) other fs (comment_first ds {rest = more} all stops i) e =
    apart (hyphen ∷ hyphen ∷ (ds ++ more)) (cs ++ rest) (length (hyphen ∷ hyphen ∷ ds)) (length cs) k (gap_complete (comment {cs = ds} {rest = more} all stops) 0) (token_complete t 0) (sym e)
one (token_first {k} {cs} {rest} {es} t h) other fs (token_first {k = l} {cs = ds} {rest = more} {es = gs} u i) e =
    let f = front-same _ _ _ _ (token_complete t 0) (token_complete u 0) e in
    let n = lexed-length k l (length cs) (length ds) f in
    let later = one h more gs i (second-same cs rest ds more e n) in
    ap (λ (x : Kind). TOKEN x cs ∷ es) (lexed-kind k l (length cs) (length ds) f)
    ∙ ap (λ (x : List ℕ). TOKEN l x ∷ es) (first-same cs rest ds more e n) ∙ ap (λ (us : List Element). TOKEN l ds ∷ us) later

pub one-list : (text : List ℕ) (es fs : List Element) → Has text es → Has text fs → es ≡ fs
one-list text es fs h i = one h text fs i refl
