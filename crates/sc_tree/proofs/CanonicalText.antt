-- Canonical text spells the canonical tokens.
use Rattle.std.proofs.Common.{◌≡◌, ℕ, zero, suc, ◌+◌, ◌==◌, ◌&&◌, Bool, true, false, not, List, [], ◌∷◌, ◌++◌, length, replicate, refl, ap, sym, ◌∙◌, subst, arith, append_assoc, length-append}
use Rattle.std.specs.Prelude.{if◌then◌else◌, codes}
use Rattle.std.proofs.lemmas.Bool.Decides.{nat_tests}
use Rattle.sc_text.specs.declared.token.Terminal.{Terminal}
use Rattle.sc_text.specs.declared.token.Terminal.TheVariants as terminal
use Rattle.sc_text.specs.Kind.{Kind, NAME, INTEGER, STRING, TERMINAL}
use Rattle.sc_text.specs.Characters.{is_letter, tab, line_feed, space}
use Rattle.sc_text.specs.Words.{reserved, reserved_words, short_symbol, goes_on}
use Rattle.sc_text.specs.Spelling.{Lexeme, IsWord, word as a_word, IsGap, white_space, IsToken, name, reserved_word, integer, manifest_string, long, short, BeginsWith, here, gap, token}
use Rattle.sc_text.proofs.Whole.{one_spelling_lem}
use Rattle.sc_tree.specs.Plain.{System}
use Rattle.sc_tree.specs.Grammar.{IsSystem, handler_name, none_name}
use Rattle.sc_tree.specs.Canonical.{canonical_text, canonical_tokens}
use Rattle.sc_tree.specs.Canonical.Terminals.{terminal_text}
use Rattle.sc_tree.specs.Canonical.Layout.{Part, Token, ClassName, HandlerOfName, Line, tokens_of_part, tokens_of_parts, tokens_of_lines, text_of_part, is_closing, opens, closes, row, line_text, text_of_lines}
use Rattle.sc_tree.specs.Canonical.Classes.{classes_lines}
use Rattle.sc_tree.specs.CanonicalLaws.{CanonicalTokensSpell, CanonicalTextSpells, CanonicalTextStays, kinds_of_lexemes}
use Rattle.sc_tree.proofs.CanonicalTokens.{Keeps, same, each, added, added_none, dropped, both, twice, through, nothing, before, behind}
use Rattle.sc_tree.specs.Bare.{bare_system}
use Rattle.sc_tree.proofs.Whole.{one_system}
use Rattle.sc_tree.proofs.CanonicalPlaces.{classes-bare}
use Rattle.sc_tree.proofs.CanonicalClasses.{system_again}
use Rattle.sc_tree.proofs.CanonicalSpelling.{IsClear, space_next, line_feed_next, comma_next, semicolon_next, colon_next, dot_next, parenthesis_next, brace_next, angle_next, clear_name, clear_digit, goes_on-none, dot_free, IsName, name_is, name_token, class_name_token, IsValue, value_is, integer_token, IsText, text_is, string_token, terminal_token}

-- ---- tokens that some text spells

abbrev IsWritable : Kind → Type 0
IsWritable (NAME x) = IsName x
IsWritable (INTEGER z) = IsValue z
IsWritable (STRING s) = IsText s
IsWritable (TERMINAL t) = Unit {0}

data AreWritable : List Kind → Type 0 where
  none_written : AreWritable []
  also : {k : Kind} {ks : List Kind} → IsWritable k → AreWritable ks → AreWritable (k ∷ ks)

token_writable : {k : Kind} {cs rest : List ℕ} → IsToken k cs rest → IsWritable k
token_writable {rest = rest} (name w f e) = name_is {rest = rest} (name w f e)
token_writable (reserved_word w f e) = tt
token_writable {rest = rest} (integer i f l) = value_is {rest = rest} (integer i f l)
token_writable (manifest_string m) = text_is (manifest_string {rest = []} m)
token_writable (long e) = tt
token_writable (short e f) = tt

text_writable : {place end : ℕ} {text rest : List ℕ} {ts : List Lexeme} → BeginsWith place text ts end rest → AreWritable (kinds_of_lexemes ts)
text_writable here = none_written
text_writable (gap g b) = text_writable b
text_writable (token t b) = also (token_writable t) (text_writable b)

first_of : (a b : List Kind) → AreWritable (a ++ b) → AreWritable a
first_of [] b w = none_written
first_of (k ∷ a) b (also p w) = also p (first_of a b w)

rest_of : (a b : List Kind) → AreWritable (a ++ b) → AreWritable b
rest_of [] b w = w
rest_of (k ∷ a) b (also p w) = rest_of a b w

all_of : {a b : List Kind} → AreWritable a → AreWritable b → AreWritable (a ++ b)
all_of none_written w = w
all_of (also p v) w = also p (all_of v w)

none_is_name : IsName none_name
unfolding reserved reserved_words
none_is_name = record { lower = refl; word = a_word refl refl; free = refl }

handler_is_name : IsName handler_name
unfolding reserved reserved_words
handler_is_name = record { lower = refl; word = a_word refl refl; free = refl }

keeps_writable : {c d : List Kind} → Keeps c d → AreWritable c → AreWritable d
keeps_writable (same c) w = w
keeps_writable (each k r) (also p w) = also p (keeps_writable r w)
keeps_writable (added t r) w = also tt (keeps_writable r w)
keeps_writable (added_none r) w = also none_is_name (keeps_writable r w)
keeps_writable (dropped k r) (also p w) = keeps_writable r w
keeps_writable (both {a} {b} r s) w = all_of (keeps_writable r (first_of a b w)) (keeps_writable s (rest_of a b w))
keeps_writable (twice r s) w = all_of (keeps_writable r w) (keeps_writable s w)
keeps_writable (through r s) w = keeps_writable s (keeps_writable r w)
keeps_writable (nothing c) w = none_written
keeps_writable (before {a} b r) w = keeps_writable r (first_of a b w)
keeps_writable (behind {b} a r) w = keeps_writable r (rest_of a b w)

-- ---- text and the tokens that it spells, from a place on

record Spelling (place : ℕ) (text : List ℕ) (ks : List Kind) : Type 0 where
  end : ℕ
  lexemes : List Lexeme
  begins : BeginsWith place text lexemes end []
  kinds : kinds_of_lexemes lexemes ≡ ks

-- from any place on
record Spelled (text : List ℕ) (ks : List Kind) : Type 0 where
  from : (place : ℕ) → Spelling place text ks

nothing_left : Spelled [] []
nothing_left = record { from = λ place. record { end = place; lexemes = []; begins = here; kinds = refl } }

gap_first : {cs text : List ℕ} {ks : List Kind} → IsGap cs text → Spelled text ks → Spelled (cs ++ text) ks
gap_first {cs = cs} g s =
    record {
      from = λ place. let r = s.from (place + length cs) in record { end = r.end; lexemes = r.lexemes; begins = gap g r.begins; kinds = r.kinds };
    }

token_first : {k : Kind} {cs text : List ℕ} {ks : List Kind} → IsToken k cs text → Spelled text ks → Spelled (cs ++ text) (k ∷ ks)
token_first {k = k} {cs = cs} t s =
    record {
      from = λ place. let r = s.from (place + length cs) in
          record {
            end = r.end;
            lexemes = record { kind = k; span = record { start = place; end = place + length cs } } ∷ r.lexemes;
            begins = token t r.begins;
            kinds = ap (λ js. k ∷ js) r.kinds;
          };
    }

spelled_along : {text other : List ℕ} {ks ls : List Kind} → text ≡ other → ks ≡ ls → Spelled other ls → Spelled text ks
spelled_along {text = text} {ls = ls} e f s = subst (λ js. Spelled text js) (sym f) (subst (λ cs. Spelled cs ls) (sym e) s)

-- ---- a part of a line

letter_apart : (c : ℕ) → is_letter c ≡ true → ((c == 61) ≡ false) × ((c == 47) ≡ false) × ((c == 92) ≡ false) × ((c == 45) ≡ false)
letter_apart c e = (grind (arith, nat_tests), grind (arith, nat_tests), grind (arith, nat_tests), grind (arith, nat_tests))

angle_free : {x : List ℕ} (r : List ℕ) → IsWord x → goes_on 60 (x ++ r) ≡ false
angle_free r (a_word {c} {cs} first all) = let k = letter_apart c first in goes_on-none 60 c (cs ++ r) k.0 k.1 k.2 k.3

greater_token : (r : List ℕ) → IsClear r → IsToken (TERMINAL terminal.Greater) (62 ∷ []) r
unfolding terminal_text
greater_token r c = terminal_token terminal.Greater r (λ e. c)

handler_first : (x rest : List ℕ) (ks : List Kind) → IsName x → IsClear rest → Spelled rest ks →
    Spelled (text_of_part (HandlerOfName x) ++ rest) (tokens_of_part (HandlerOfName x) ++ ks)
unfolding text_of_part short_symbol
handler_first x rest ks n clear s =
    let greater : Spelled (62 ∷ rest) (TERMINAL terminal.Greater ∷ ks) = token_first (greater_token rest clear) s in
    let handler = token_first (name_token {rest = 62 ∷ rest} handler_is_name (clear_name (angle_next rest))) greater in
    let dot = token_first (short {a = 46} {rest = handler_name ++ 62 ∷ rest} refl (dot_free (handler_name ++ 62 ∷ rest))) handler in
    let named = token_first (name_token {rest = codes ".handler>" ++ rest} n (clear_name (dot_next (handler_name ++ 62 ∷ rest)))) dot in
    spelled_along (ap (λ cs. 60 ∷ cs) (append_assoc x (codes ".handler>") rest)) refl (token_first (short {a = 60} refl (angle_free (codes ".handler>" ++ rest) n.word)) named)

part_first : (p : Part) (rest : List ℕ) (ks : List Kind) → AreWritable (tokens_of_part p) → (opens p ≡ false → IsClear rest) → Spelled rest ks →
    Spelled (text_of_part p ++ rest) (tokens_of_part p ++ ks)
unfolding text_of_part opens
part_first (Token (NAME x)) rest ks (also n w) h s = token_first (name_token n (clear_name (h refl))) s
part_first (Token (INTEGER z)) rest ks (also v w) h s = token_first (integer_token v (clear_digit (h refl))) s
part_first (Token (STRING t)) rest ks (also v w) h s = token_first (string_token rest v) s
part_first (Token (TERMINAL t)) rest ks w h s = token_first (terminal_token t rest h) s
part_first (ClassName x) rest ks (also n w) h s = token_first (class_name_token n (clear_name (h refl))) s
part_first (HandlerOfName x) rest ks (also l (also n w)) h s = handler_first x rest ks n (h refl) s

-- ---- a line

closing_clear : (t : Terminal) (r : List ℕ) → is_closing t ≡ true → IsClear (terminal_text t ++ r)
unfolding terminal_text
closing_clear terminal.CloseParenthesis r e = parenthesis_next r
closing_clear terminal.CloseBrace r e = brace_next r
closing_clear terminal.Dot r e = dot_next r
closing_clear terminal.Comma r e = comma_next r
closing_clear terminal.Semicolon r e = semicolon_next r
closing_clear terminal.Colon r e = colon_next r
closing_clear _ r e = cc

part_clear : (p : Part) (r : List ℕ) → closes p ≡ true → IsClear (text_of_part p ++ r)
unfolding text_of_part closes
part_clear (Token (TERMINAL t)) r e = closing_clear t r e
part_clear (Token (NAME x)) r e = cc
part_clear (Token (INTEGER z)) r e = cc
part_clear (Token (STRING s)) r e = cc
part_clear (ClassName x) r e = cc
part_clear (HandlerOfName x) r e = cc

row_clear : (ps : List Part) (rest : List ℕ) → IsClear rest → IsClear (row true ps ++ rest)
row_clear [] rest c = c
row_clear (p ∷ ps) rest c = go (closes p) refl
  where
    go : (b : Bool) → closes p ≡ b → IsClear (((if true && not b then space ∷ [] else []) ++ (text_of_part p ++ row (not (opens p)) ps)) ++ rest)
    go true e = subst IsClear (sym (append_assoc (text_of_part p) (row (not (opens p)) ps) rest)) (part_clear p (row (not (opens p)) ps ++ rest) e)
    go false e = space_next ((text_of_part p ++ row (not (opens p)) ps) ++ rest)

space_first : (b : Bool) {text : List ℕ} {ks : List Kind} → Spelled text ks → Spelled ((if b then space ∷ [] else []) ++ text) ks
space_first true s = gap_first (white_space refl) s
space_first false s = s

row_first : (ps : List Part) (apart : Bool) (rest : List ℕ) (ks : List Kind) → AreWritable (tokens_of_parts ps) → IsClear rest → Spelled rest ks →
    Spelled (row apart ps ++ rest) (tokens_of_parts ps ++ ks)
row_first [] apart rest ks w c s = s
row_first (p ∷ ps) apart rest ks w c s =
    let more = row (not (opens p)) ps in
    let further = row_first ps (not (opens p)) rest ks (rest_of (tokens_of_part p) (tokens_of_parts ps) w) c s in
    let this = part_first p (more ++ rest) (tokens_of_parts ps ++ ks) (first_of (tokens_of_part p) (tokens_of_parts ps) w) (λ e. subst (λ b. IsClear (row (not b) ps ++ rest)) (sym e) (row_clear ps rest c)) further in
    spelled_along (append_assoc (if apart && not (closes p) then space ∷ [] else []) (text_of_part p ++ more) rest ∙ ap (λ cs. (if apart && not (closes p) then space ∷ [] else []) ++ cs) (append_assoc (text_of_part p) more rest))
    (append_assoc (tokens_of_part p) (tokens_of_parts ps) ks) (space_first (apart && not (closes p)) this)

tabs_first : (n : ℕ) {text : List ℕ} {ks : List Kind} → Spelled text ks → Spelled (replicate n tab ++ text) ks
tabs_first zero s = s
tabs_first (suc n) s = gap_first (white_space refl) (tabs_first n s)

line_first : (l : Line) (rest : List ℕ) (ks : List Kind) → AreWritable (tokens_of_parts l.parts) → Spelled rest ks →
    Spelled (line_text l ++ rest) (tokens_of_parts l.parts ++ ks)
line_first l rest ks w s =
    spelled_along (append_assoc (replicate l.indent tab) (row false l.parts ++ line_feed ∷ []) rest ∙ ap (λ cs. replicate l.indent tab ++ cs) (append_assoc (row false l.parts) (line_feed ∷ []) rest)) refl
    (tabs_first l.indent (row_first l.parts false (line_feed ∷ rest) ks w (line_feed_next rest) (gap_first (white_space refl) s)))

lines_first : (ls : List Line) → AreWritable (tokens_of_lines ls) → Spelled (text_of_lines ls) (tokens_of_lines ls)
lines_first [] w = nothing_left
lines_first (l ∷ ls) w =
    line_first l (text_of_lines ls) (tokens_of_lines ls) (first_of (tokens_of_parts l.parts) (tokens_of_lines ls) w) (lines_first ls (rest_of (tokens_of_parts l.parts) (tokens_of_lines ls) w))

-- ---- the whole

begins_length : {place end : ℕ} {text rest : List ℕ} {ts : List Lexeme} → BeginsWith place text ts end rest → place + length text ≡ end + length rest
begins_length here = refl
begins_length (gap {place} {cs = cs} {text} g b) = let e = begins_length b in omega (arith, e, length-append cs text)
begins_length (token {place} {cs = cs} {text} t b) = let e = begins_length b in omega (arith, e, length-append cs text)

-- the lines of a tree, with and without places
tree_lines : (s : System) → classes_lines (bare_system s).classes ≡ classes_lines s.classes
tree_lines s = classes-bare s.classes

pub canonical_tokens_again : CanonicalTokensSpell
unfolding canonical_tokens
canonical_tokens_again s ts h d =
    let r = system_again d in
    (r.nesting, r.low, subst (λ ls. IsSystem (bare_system s) (tokens_of_lines ls) r.nesting) (tree_lines s) r.spelled)

pub canonical_text_again : CanonicalTextSpells
unfolding canonical_text canonical_tokens
canonical_text_again text ts s h b d =
    let r = system_again d in
    let lines = classes_lines s.classes in
    let writable = subst (λ ls. AreWritable (tokens_of_lines ls)) (tree_lines s) (keeps_writable r.kept (text_writable b)) in
    let again = subst (λ ls. IsSystem (bare_system s) (tokens_of_lines ls) r.nesting) (tree_lines s) r.spelled in
    let p = (lines_first lines writable).from 0 in
    let e : p.end ≡ length (text_of_lines lines) = omega (arith, begins_length p.begins) in
    record {
      lexemes = p.lexemes;
      nesting = r.nesting;
      spelled = subst (λ n. BeginsWith 0 (text_of_lines lines) p.lexemes n []) e p.begins;
      canonical = p.kinds;
      again = subst (λ ks. IsSystem (bare_system s) ks r.nesting) (sym p.kinds) again;
      low = r.low;
    }

one_canonical_text : (s t : System) → bare_system t ≡ bare_system s → canonical_text t ≡ canonical_text s
unfolding canonical_text
one_canonical_text s t e = ap text_of_lines (sym (tree_lines t) ∙ ap (λ b. classes_lines b.classes) e ∙ tree_lines s)

pub canonical_text_stays : CanonicalTextStays
canonical_text_stays text ts us s t g h b d c k =
    let r = canonical_text_again text ts s h b d in
    let same_lexemes : us ≡ r.lexemes = one_spelling_lem (canonical_text s) us r.lexemes c r.spelled in
    let same_tree = one_system (kinds_of_lexemes us) (bare_system t) (bare_system s) g r.nesting k (subst (λ ls. IsSystem (bare_system s) (kinds_of_lexemes ls) r.nesting) (sym same_lexemes) r.again) in
    (same_tree, one_canonical_text s t same_tree)
