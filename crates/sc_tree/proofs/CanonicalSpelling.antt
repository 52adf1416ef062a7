-- The text of each token of canonical text spells it.
use Rattle.std.proofs.Common.{◌≡◌, ℕ, ◌+◌, ◌-◌, ◌*◌, ◌^◌, ◌≤◌, ◌<◌, ◌==◌, ◌&&◌, ◌||◌, Bool, true, false, List, [], ◌∷◌, ◌++◌, map, length, Some, None, ℤ, pos, refl, ap, sym, ◌∙◌, subst, arith}
use Rattle.std.specs.Prelude.{if◌then◌else◌, codes}
use Rattle.std.specs.Char.{to_ascii_lowercase, to_ascii_uppercase}
use Rattle.std.specs.Fmt.{decimal, signed_decimal}
use Rattle.std.specs.List.{list_all}
use Rattle.std.specs.Str.{bytes_eq, str_to_ascii_lowercase}
use Rattle.std.proofs.lemmas.Bool.Decides.{nat_tests}
use Rattle.std.proofs.lemmas.Fmt.{decimal_nonempty, digits_decimal, digits_value-decimal}
use Rattle.std.proofs.lemmas.Str.Ascii.{lowercase-lowercase, lowercase-uppercase}
use Rattle.std.proofs.lemmas.Str.Parse.{IsNumeralModel, IsDigitsTest, FoldsDigits, numerals_by_fold}
use Rattle.sc_text.proofs.Classes.{eq_true}
use Rattle.sc_text.specs.declared.token.Terminal.{Terminal}
use Rattle.sc_text.specs.declared.token.Terminal.TheVariants as terminal
use Rattle.sc_text.specs.Kind.{NAME, INTEGER, STRING, TERMINAL}
use Rattle.sc_text.specs.Characters as characters
use Rattle.sc_text.specs.Characters.{is_letter, is_digit, is_underscore, is_name_part, is_plain, ends_line, escape, begins_with, digit_follows, decimal_from, tab, line_feed, space, quote, percent}
use Rattle.sc_text.specs.Words.{reserved, reserved_words, word_among, long_symbol, short_symbol, goes_on}
use Rattle.sc_text.specs.Spelling.{IsWord, word as a_word, IsInteger, last_digit, digit, IsManifest, nothing, itself, mark, IsToken, name, reserved_word, integer, manifest_string, long, short}
use Rattle.sc_tree.specs.Canonical.Terminals.{terminal_text}
use Rattle.sc_tree.specs.Canonical.Layout.{marked, manifest, is_opening}

-- ---- what may follow a token

-- what follows a token that doesn't open: nothing, white space or what stands close behind the token
pub data IsClear : List ℕ → Type 0 where
  nothing_more : IsClear []
  space_next : (cs : List ℕ) → IsClear (32 ∷ cs)
  line_feed_next : (cs : List ℕ) → IsClear (10 ∷ cs)
  comma_next : (cs : List ℕ) → IsClear (44 ∷ cs)
  semicolon_next : (cs : List ℕ) → IsClear (59 ∷ cs)
  colon_next : (cs : List ℕ) → IsClear (58 ∷ cs)
  dot_next : (cs : List ℕ) → IsClear (46 ∷ cs)
  parenthesis_next : (cs : List ℕ) → IsClear (41 ∷ cs)
  brace_next : (cs : List ℕ) → IsClear (125 ∷ cs)
  angle_next : (cs : List ℕ) → IsClear (62 ∷ cs)

pub clear_name : {r : List ℕ} → IsClear r → begins_with is_name_part r ≡ false
clear_name nothing_more = refl
clear_name (space_next cs) = refl
clear_name (line_feed_next cs) = refl
clear_name (comma_next cs) = refl
clear_name (semicolon_next cs) = refl
clear_name (colon_next cs) = refl
clear_name (dot_next cs) = refl
clear_name (parenthesis_next cs) = refl
clear_name (brace_next cs) = refl
clear_name (angle_next cs) = refl

pub clear_digit : {r : List ℕ} → IsClear r → digit_follows r ≡ false
clear_digit nothing_more = refl
clear_digit (space_next cs) = refl
clear_digit (line_feed_next cs) = refl
clear_digit (comma_next cs) = refl
clear_digit (semicolon_next cs) = refl
clear_digit (colon_next cs) = refl
clear_digit (dot_next cs) = refl
clear_digit (parenthesis_next cs) = refl
clear_digit (brace_next cs) = refl
clear_digit (angle_next cs) = refl

and_false : (a : Bool) → (a && false) ≡ false
and_false true = refl
and_false false = refl

-- a character that ends no longer symbol and no beginning of a comment
pub goes_on-none : (a b : ℕ) (cs : List ℕ) → (b == 61) ≡ false → (b == 47) ≡ false → (b == 92) ≡ false → (b == 45) ≡ false → goes_on a (b ∷ cs) ≡ false
unfolding long_symbol
goes_on-none a b cs p q r s = simp (p, q, r, s, and_false)

clear_symbol : (a : ℕ) {r : List ℕ} → IsClear r → goes_on a r ≡ false
clear_symbol a nothing_more = refl
clear_symbol a (space_next cs) = goes_on-none a 32 cs refl refl refl refl
clear_symbol a (line_feed_next cs) = goes_on-none a 10 cs refl refl refl refl
clear_symbol a (comma_next cs) = goes_on-none a 44 cs refl refl refl refl
clear_symbol a (semicolon_next cs) = goes_on-none a 59 cs refl refl refl refl
clear_symbol a (colon_next cs) = goes_on-none a 58 cs refl refl refl refl
clear_symbol a (dot_next cs) = goes_on-none a 46 cs refl refl refl refl
clear_symbol a (parenthesis_next cs) = goes_on-none a 41 cs refl refl refl refl
clear_symbol a (brace_next cs) = goes_on-none a 125 cs refl refl refl refl
clear_symbol a (angle_next cs) = goes_on-none a 62 cs refl refl refl refl

-- ---- names

-- the letters of a name that tokens can have
pub record IsName (x : List ℕ) : Type 0 where
  pub lower : map to_ascii_lowercase x ≡ x
  pub word : IsWord x
  pub free : reserved x ≡ None

lower-map : (x : List ℕ) → str_to_ascii_lowercase x ≡ map to_ascii_lowercase x
lower-map x = refl

word_among-case : (ws : List (List ℕ × Terminal)) (x y : List ℕ) → str_to_ascii_lowercase x ≡ str_to_ascii_lowercase y → word_among ws x ≡ word_among ws y
word_among-case [] x y e = refl
word_among-case (w ∷ ws) x y e =
    ap (λ z. if bytes_eq z (str_to_ascii_lowercase w.0) then Some w.1 else word_among ws x) e
    ∙ ap (λ o. if bytes_eq (str_to_ascii_lowercase y) (str_to_ascii_lowercase w.0) then Some w.1 else o) (word_among-case ws x y e)

reserved-case : (x y : List ℕ) → map to_ascii_lowercase x ≡ map to_ascii_lowercase y → reserved x ≡ reserved y
unfolding reserved
reserved-case x y e = word_among-case reserved_words x y (lower-map x ∙ e ∙ sym (lower-map y))

lower-lower : (x : List ℕ) → map to_ascii_lowercase (map to_ascii_lowercase x) ≡ map to_ascii_lowercase x
lower-lower [] = refl
lower-lower (c ∷ cs) =
    ap (λ d. d ∷ map to_ascii_lowercase (map to_ascii_lowercase cs)) (lowercase-lowercase c)
    ∙ ap (λ ds. to_ascii_lowercase c ∷ ds) (lower-lower cs)

lower-upper : (x : List ℕ) → map to_ascii_lowercase (map to_ascii_uppercase x) ≡ map to_ascii_lowercase x
lower-upper [] = refl
lower-upper (c ∷ cs) =
    ap (λ d. d ∷ map to_ascii_lowercase (map to_ascii_uppercase cs)) (lowercase-uppercase c)
    ∙ ap (λ ds. to_ascii_lowercase c ∷ ds) (lower-upper cs)

letter-lower : (c : ℕ) → is_letter c ≡ true → is_letter (to_ascii_lowercase c) ≡ true
letter-lower c e = grind (arith, nat_tests)

letter-upper : (c : ℕ) → is_letter c ≡ true → is_letter (to_ascii_uppercase c) ≡ true
letter-upper c e = grind (arith, nat_tests)

part-lower : (c : ℕ) → is_name_part c ≡ true → is_name_part (to_ascii_lowercase c) ≡ true
part-lower c e = grind (arith, nat_tests)

part-upper : (c : ℕ) → is_name_part c ≡ true → is_name_part (to_ascii_uppercase c) ≡ true
part-upper c e = grind (arith, nat_tests)

both_true : (a b : Bool) → (a && b) ≡ true → (a ≡ true) × (b ≡ true)
both_true true true e = (refl, refl)
both_true true false e = cc
both_true false b e = cc

all_mapped : (p : ℕ → Bool) (f : ℕ → ℕ) → ((c : ℕ) → p c ≡ true → p (f c) ≡ true) → (cs : List ℕ) → list_all p cs ≡ true → list_all p (map f cs) ≡ true
all_mapped p f h [] e = refl
all_mapped p f h (c ∷ cs) e =
    let k = both_true (p c) (list_all p cs) e in
    ap (λ b. b && list_all p (map f cs)) (h c k.0) ∙ all_mapped p f h cs k.1

word-lower : {x : List ℕ} → IsWord x → IsWord (map to_ascii_lowercase x)
word-lower (a_word {c} {cs} first all) = a_word (letter-lower c first) (all_mapped is_name_part to_ascii_lowercase part-lower cs all)

word-upper : {x : List ℕ} → IsWord x → IsWord (map to_ascii_uppercase x)
word-upper (a_word {c} {cs} first all) = a_word (letter-upper c first) (all_mapped is_name_part to_ascii_uppercase part-upper cs all)

pub name_is : {x cs rest : List ℕ} → IsToken (NAME x) cs rest → IsName x
name_is (name {cs} w f e) = record { lower = lower-lower cs; word = word-lower w; free = reserved-case (map to_ascii_lowercase cs) cs (lower-lower cs) ∙ e }

pub name_token : {x rest : List ℕ} → IsName x → begins_with is_name_part rest ≡ false → IsToken (NAME x) x rest
name_token {x = x} {rest = rest} n f = subst (λ y. IsToken (NAME y) x rest) n.lower (name n.word f n.free)

pub class_name_token : {x rest : List ℕ} → IsName x → begins_with is_name_part rest ≡ false → IsToken (NAME x) (map to_ascii_uppercase x) rest
class_name_token {x = x} {rest = rest} n f =
    subst (λ y. IsToken (NAME y) (map to_ascii_uppercase x) rest) (lower-upper x ∙ n.lower)
    (name (word-upper n.word) f (reserved-case (map to_ascii_uppercase x) x (lower-upper x) ∙ n.free))

-- ---- integers

decimal_folds : FoldsDigits decimal_from
decimal_folds = record { empty = λ n. refl; more = more_digits }
  where
    more_digits : (n c : ℕ) (cs : List ℕ) → (48 ≤ c) × (c ≤ 57) → decimal_from n (c ∷ cs) ≡ decimal_from (n * 10 + (c - 48)) cs
    more_digits n c cs k =
        let e : is_digit c ≡ true = grind (arith, nat_tests) in
        let f : 10 * n + (c - 48) ≡ n * 10 + (c - 48) = omega arith in
        ap (λ b. decimal_from (if b then 10 * n + (c - 48) else n) cs) e ∙ ap (λ m. decimal_from m cs) f

-- digits, one or more
digits_integer : (c : ℕ) (cs : List ℕ) → is_digit c ≡ true → list_all is_digit cs ≡ true → IsInteger (c ∷ cs)
digits_integer c [] e all = last_digit e
digits_integer c (d ∷ ds) e all = let k = both_true (is_digit d) (list_all is_digit ds) all in digit [] e refl (digits_integer d ds k.0 k.1)

digit_range : (c : ℕ) → is_digit c ≡ true → (48 ≤ c) × (c ≤ 57)
digit_range c e = grind (arith, nat_tests)

range_digit : (c : ℕ) → (48 ≤ c) × (c ≤ 57) → is_digit c ≡ true
range_digit c k = grind (arith, nat_tests)

tells_digits : IsDigitsTest (λ ds. list_all is_digit ds ≡ true)
tells_digits =
    record {
      empty = refl;
      parts = λ c cs e. let k = both_true (is_digit c) (list_all is_digit cs) e in (digit_range c k.0, k.1);
      more = λ c cs k e. ap (λ b. b && list_all is_digit cs) (range_digit c k) ∙ e;
    }

decimal_model : IsNumeralModel (λ ds. list_all is_digit ds ≡ true) (decimal_from 0)
decimal_model = numerals_by_fold (λ ds. list_all is_digit ds ≡ true) tells_digits decimal_from decimal_folds

decimal_integer : (n : ℕ) → n < 2 ^ 64 → IsInteger (decimal n)
decimal_integer n h = go (decimal n) (decimal_nonempty n h) (digits_decimal decimal_model n h)
  where
    go : (ds : List ℕ) → 0 < length ds → list_all is_digit ds ≡ true → IsInteger ds
    go [] some e = absurd (omega arith)
    go (c ∷ cs) some e = let k = both_true (is_digit c) (list_all is_digit cs) e in digits_integer c cs k.0 k.1

-- a value that an integer token can have
pub record IsValue (z : ℤ) : Type 0 where
  pub number : ℕ
  pub same : z ≡ pos number
  pub small : number ≤ 9223372036854775807

pub value_is : {z : ℤ} {cs rest : List ℕ} → IsToken (INTEGER z) cs rest → IsValue z
value_is (integer {cs} i f l) = record { number = characters.decimal cs; same = refl; small = l }

pub integer_token : {z : ℤ} {rest : List ℕ} → IsValue z → digit_follows rest ≡ false → IsToken (INTEGER z) (signed_decimal z) rest
integer_token {z = z} {rest = rest} v f =
    let small = v.small in
    let h : v.number < 2 ^ 64 = omega (arith, small) in
    let value : characters.decimal (decimal v.number) ≡ v.number = digits_value-decimal decimal_model v.number h in
    subst (λ y. IsToken (INTEGER y) (signed_decimal y) rest) (sym v.same)
    (subst (λ n. IsToken (INTEGER (pos n)) (decimal v.number) rest) value (integer (decimal_integer v.number h) f (omega (arith, value, small))))

-- ---- manifest strings

-- how a character that a manifest string can hold is written
data IsWritten (v : ℕ) : List ℕ → Type 0 where
  plainly : is_plain v ≡ true → IsWritten v (v ∷ [])
  by_mark : (c : ℕ) → escape c ≡ Some v → IsWritten v (percent ∷ c ∷ [])

escape_percent : (v : ℕ) → (v == percent) ≡ true → escape v ≡ Some v
escape_percent v e = let p = eq_true v percent e in subst (λ x. escape x ≡ Some x) (sym p) refl

escape_quote : (v : ℕ) → (v == quote) ≡ true → escape v ≡ Some v
escape_quote v e = let p = eq_true v quote e in subst (λ x. escape x ≡ Some x) (sym p) refl

written : (v : ℕ) → (v == 13) ≡ false → IsWritten v (marked v)
written v e = first (v == line_feed) refl
  where
    other : (b c : Bool) → (v == quote) ≡ b → (v == percent) ≡ c → (v == line_feed) ≡ false → IsWritten v (if c || b then percent ∷ v ∷ [] else v ∷ [])
    other b true p q r = by_mark v (escape_percent v q)
    other true false p q r = by_mark v (escape_quote v p)
    other false false p q r = plainly (simp (p, q, r, e))

    second : (b : Bool) → (v == tab) ≡ b → (v == line_feed) ≡ false →
        IsWritten v (if b then codes "%T" else (if v == percent || v == quote then percent ∷ v ∷ [] else v ∷ []))
    second true p r = subst (λ x. IsWritten x (codes "%T")) (sym (eq_true v tab p)) (by_mark 84 refl)
    second false p r = other (v == quote) (v == percent) refl refl r

    first : (b : Bool) → (v == line_feed) ≡ b →
        IsWritten v (if b then codes "%N" else (if v == tab then codes "%T" else (if v == percent || v == quote then percent ∷ v ∷ [] else v ∷ [])))
    first true p = subst (λ x. IsWritten x (codes "%N")) (sym (eq_true v line_feed p)) (by_mark 78 refl)
    first false p = second (v == tab) refl p

plain_no_return : (c : ℕ) → is_plain c ≡ true → (c == 13) ≡ false
plain_no_return c e = grind (arith, nat_tests)

mark_no_return : (c v : ℕ) → escape c ≡ Some v → (v == 13) ≡ false
mark_no_return c v e = grind (arith, nat_tests)

one_more : {v : ℕ} {ds cs vs : List ℕ} → IsWritten v ds → IsManifest cs vs → IsManifest (ds ++ cs) (v ∷ vs)
one_more (plainly e) m = itself e m
one_more (by_mark c e) m = mark e m

manifest_again : {cs vs : List ℕ} → IsManifest cs vs → IsManifest (manifest vs) vs
manifest_again nothing = nothing
manifest_again (itself {c} e m) = one_more (written c (plain_no_return c e)) (manifest_again m)
manifest_again (mark {c} {v} e m) = one_more (written v (mark_no_return c v e)) (manifest_again m)

-- characters that a string token can have
pub record IsText (s : List ℕ) : Type 0 where
  pub between : List ℕ
  pub read : IsManifest between s

pub text_is : {s cs rest : List ℕ} → IsToken (STRING s) cs rest → IsText s
text_is (manifest_string {cs} m) = record { between = cs; read = m }

pub string_token : {s : List ℕ} (rest : List ℕ) → IsText s → IsToken (STRING s) (quote ∷ (manifest s ++ quote ∷ [])) rest
string_token rest t = manifest_string (manifest_again t.read)

-- ---- reserved words and symbols

parenthesis_free : (r : List ℕ) → goes_on 40 r ≡ false
unfolding long_symbol
parenthesis_free [] = refl
parenthesis_free (c ∷ cs) = refl

brace_free : (r : List ℕ) → goes_on 123 r ≡ false
unfolding long_symbol
brace_free [] = refl
brace_free (c ∷ cs) = refl

pub dot_free : (r : List ℕ) → goes_on 46 r ≡ false
unfolding long_symbol
dot_free [] = refl
dot_free (c ∷ cs) = refl

pub terminal_token : (t : Terminal) (r : List ℕ) → (is_opening t ≡ false → IsClear r) → IsToken (TERMINAL t) (terminal_text t) r
unfolding terminal_text reserved reserved_words long_symbol short_symbol
terminal_token terminal.And r h = reserved_word (a_word refl refl) (clear_name (h refl)) refl
terminal_token terminal.As r h = reserved_word (a_word refl refl) (clear_name (h refl)) refl
terminal_token terminal.Attached r h = reserved_word (a_word refl refl) (clear_name (h refl)) refl
terminal_token terminal.Check r h = reserved_word (a_word refl refl) (clear_name (h refl)) refl
terminal_token terminal.Class r h = reserved_word (a_word refl refl) (clear_name (h refl)) refl
terminal_token terminal.Create r h = reserved_word (a_word refl refl) (clear_name (h refl)) refl
terminal_token terminal.Current r h = reserved_word (a_word refl refl) (clear_name (h refl)) refl
terminal_token terminal.Deferred r h = reserved_word (a_word refl refl) (clear_name (h refl)) refl
terminal_token terminal.Detachable r h = reserved_word (a_word refl refl) (clear_name (h refl)) refl
terminal_token terminal.Do r h = reserved_word (a_word refl refl) (clear_name (h refl)) refl
terminal_token terminal.Else r h = reserved_word (a_word refl refl) (clear_name (h refl)) refl
terminal_token terminal.Elseif r h = reserved_word (a_word refl refl) (clear_name (h refl)) refl
terminal_token terminal.End r h = reserved_word (a_word refl refl) (clear_name (h refl)) refl
terminal_token terminal.Ensure r h = reserved_word (a_word refl refl) (clear_name (h refl)) refl
terminal_token terminal.Expanded r h = reserved_word (a_word refl refl) (clear_name (h refl)) refl
terminal_token terminal.False r h = reserved_word (a_word refl refl) (clear_name (h refl)) refl
terminal_token terminal.Feature r h = reserved_word (a_word refl refl) (clear_name (h refl)) refl
terminal_token terminal.From r h = reserved_word (a_word refl refl) (clear_name (h refl)) refl
terminal_token terminal.Frozen r h = reserved_word (a_word refl refl) (clear_name (h refl)) refl
terminal_token terminal.If r h = reserved_word (a_word refl refl) (clear_name (h refl)) refl
terminal_token terminal.Implies r h = reserved_word (a_word refl refl) (clear_name (h refl)) refl
terminal_token terminal.Indexing r h = reserved_word (a_word refl refl) (clear_name (h refl)) refl
terminal_token terminal.Inherit r h = reserved_word (a_word refl refl) (clear_name (h refl)) refl
terminal_token terminal.Invariant r h = reserved_word (a_word refl refl) (clear_name (h refl)) refl
terminal_token terminal.Is r h = reserved_word (a_word refl refl) (clear_name (h refl)) refl
terminal_token terminal.Local r h = reserved_word (a_word refl refl) (clear_name (h refl)) refl
terminal_token terminal.Loop r h = reserved_word (a_word refl refl) (clear_name (h refl)) refl
terminal_token terminal.Not r h = reserved_word (a_word refl refl) (clear_name (h refl)) refl
terminal_token terminal.Note r h = reserved_word (a_word refl refl) (clear_name (h refl)) refl
terminal_token terminal.Old r h = reserved_word (a_word refl refl) (clear_name (h refl)) refl
terminal_token terminal.Or r h = reserved_word (a_word refl refl) (clear_name (h refl)) refl
terminal_token terminal.Redefine r h = reserved_word (a_word refl refl) (clear_name (h refl)) refl
terminal_token terminal.Require r h = reserved_word (a_word refl refl) (clear_name (h refl)) refl
terminal_token terminal.Result r h = reserved_word (a_word refl refl) (clear_name (h refl)) refl
terminal_token terminal.Separate r h = reserved_word (a_word refl refl) (clear_name (h refl)) refl
terminal_token terminal.Then r h = reserved_word (a_word refl refl) (clear_name (h refl)) refl
terminal_token terminal.True r h = reserved_word (a_word refl refl) (clear_name (h refl)) refl
terminal_token terminal.Until r h = reserved_word (a_word refl refl) (clear_name (h refl)) refl
terminal_token terminal.Void r h = reserved_word (a_word refl refl) (clear_name (h refl)) refl
terminal_token terminal.Xor r h = reserved_word (a_word refl refl) (clear_name (h refl)) refl
terminal_token terminal.Across r h = reserved_word (a_word refl refl) (clear_name (h refl)) refl
terminal_token terminal.Agent r h = reserved_word (a_word refl refl) (clear_name (h refl)) refl
terminal_token terminal.Alias r h = reserved_word (a_word refl refl) (clear_name (h refl)) refl
terminal_token terminal.Assign r h = reserved_word (a_word refl refl) (clear_name (h refl)) refl
terminal_token terminal.Debug r h = reserved_word (a_word refl refl) (clear_name (h refl)) refl
terminal_token terminal.Export r h = reserved_word (a_word refl refl) (clear_name (h refl)) refl
terminal_token terminal.External r h = reserved_word (a_word refl refl) (clear_name (h refl)) refl
terminal_token terminal.Inspect r h = reserved_word (a_word refl refl) (clear_name (h refl)) refl
terminal_token terminal.Like r h = reserved_word (a_word refl refl) (clear_name (h refl)) refl
terminal_token terminal.Once r h = reserved_word (a_word refl refl) (clear_name (h refl)) refl
terminal_token terminal.Rename r h = reserved_word (a_word refl refl) (clear_name (h refl)) refl
terminal_token terminal.Rescue r h = reserved_word (a_word refl refl) (clear_name (h refl)) refl
terminal_token terminal.Retry r h = reserved_word (a_word refl refl) (clear_name (h refl)) refl
terminal_token terminal.Select r h = reserved_word (a_word refl refl) (clear_name (h refl)) refl
terminal_token terminal.Undefine r h = reserved_word (a_word refl refl) (clear_name (h refl)) refl
terminal_token terminal.Variant r h = reserved_word (a_word refl refl) (clear_name (h refl)) refl
terminal_token terminal.When r h = reserved_word (a_word refl refl) (clear_name (h refl)) refl
terminal_token terminal.Becomes r h = long refl
terminal_token terminal.NotEqual r h = long refl
terminal_token terminal.LessEqual r h = long refl
terminal_token terminal.GreaterEqual r h = long refl
terminal_token terminal.Quotient r h = long refl
terminal_token terminal.Remainder r h = long refl
terminal_token terminal.Dot r h = short refl (dot_free r)
terminal_token terminal.OpenParenthesis r h = short refl (parenthesis_free r)
terminal_token terminal.OpenBrace r h = short refl (brace_free r)
terminal_token terminal.Comma r h = short refl (clear_symbol 44 (h refl))
terminal_token terminal.Colon r h = short refl (clear_symbol 58 (h refl))
terminal_token terminal.Semicolon r h = short refl (clear_symbol 59 (h refl))
terminal_token terminal.CloseParenthesis r h = short refl (clear_symbol 41 (h refl))
terminal_token terminal.CloseBrace r h = short refl (clear_symbol 125 (h refl))
terminal_token terminal.Question r h = short refl (clear_symbol 63 (h refl))
terminal_token terminal.Exclamation r h = short refl (clear_symbol 33 (h refl))
terminal_token terminal.Equal r h = short refl (clear_symbol 61 (h refl))
terminal_token terminal.Less r h = short refl (clear_symbol 60 (h refl))
terminal_token terminal.Greater r h = short refl (clear_symbol 62 (h refl))
terminal_token terminal.Plus r h = short refl (clear_symbol 43 (h refl))
terminal_token terminal.Minus r h = short refl (clear_symbol 45 (h refl))
terminal_token terminal.Times r h = short refl (clear_symbol 42 (h refl))
