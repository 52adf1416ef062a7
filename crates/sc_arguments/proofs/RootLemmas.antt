-- Names, as the tokens of a text.
use Rattle.std.proofs.Common.{◌≡◌, ℕ, ◌+◌, ◌≤◌, ◌<◌, ◌==◌, ◌&&◌, List, [], ◌∷◌, ◌++◌, Option, Some, None, Bool, true, false, length, map, drop, refl, ap, subst, arith, append-nil, zero-add, ◌∙◌, if◌then◌else◌, slice_range, get_or, Bor, MatchOption, lit<, zero, suc}
use Rattle.std.specs.Char.{to_ascii_lowercase}
use Rattle.std.proofs.lemmas.List.{length-append}
use Rattle.std.proofs.lemmas.Grind.{common_steps}
use Rattle.std.proofs.lemmas.Bool.{eqb-true}
use Rattle.std.proofs.lemmas.Bool.Decides.{nat_tests}
use Rattle.sc_text.specs.Kind.{Kind, NAME, INTEGER, STRING, TERMINAL}
use Rattle.sc_text.specs.Spelling.{IsWord, IsToken, name, Lexeme, Spells, BeginsWith, here, token, StandInOrder}
use Rattle.std.proofs.lemmas.List.Sums.{AllPass-from_list_all}
use Rattle.std.proofs.lemmas.Str.Pattern.{IsSplitOnceResult, split_after}
use Rattle.sc_text.specs.Characters.{is_letter, is_name_part}
use Rattle.sc_arguments.specs.RootOption.{IsName, NamesRoot, dot}
use Rattle.sc_arguments.specs.Internal.SoleName.{sole_name, name_in}

-- the text of a NAME is a name, and the token has it in lower case
pub name-is : {n cs rest : List ℕ} → IsToken (NAME n) cs rest → IsName cs × (n ≡ map to_ascii_lowercase cs)
name-is (name w ends free) = (record { word = w; free = free }, refl)

-- a name spells a text with one token
pub name-spells : (text : List ℕ) → IsName text →
    Spells text (record { kind = NAME (map to_ascii_lowercase text); span = record { start = 0; end = length text } } ∷ [])
name-spells text is =
    let whole : text ++ [] ≡ text = append-nil text in
    let ends : BeginsWith (0 + length text) [] [] (length text) [] = subst (λ (n : ℕ). BeginsWith n [] [] (length text) []) (omega arith) here in
    let spelled : BeginsWith 0 (text ++ []) (record { kind = NAME (map to_ascii_lowercase text); span = record { start = 0; end = 0 + length text } } ∷ []) (length text) [] =
    token (name is.word refl is.free) ends in
    simp (whole, zero-add) at spelled

-- and that token is found
pub name-found : (text : List ℕ) (ts : List Lexeme) →
    ts ≡ record { kind = NAME (map to_ascii_lowercase text); span = record { start = 0; end = length text } } ∷ [] →
    sole_name (length text) ts ≡ Some (map to_ascii_lowercase text)
name-found text ts e = rw e (grind (arith, nat_tests))

-- a token that is a name is the name of its text
pub token-name : (text n rest : List ℕ) (k : Kind) → name_in k ≡ Some n → IsToken k text rest →
    IsName text × (n ≡ map to_ascii_lowercase text)
token-name text n rest (NAME m) e is =
    let same : n ≡ m = cc in
    let (found, lower) = name-is is in (found, same ∙ lower)
token-name text n rest (INTEGER i) e is = cc
token-name text n rest (STRING s) e is = cc
token-name text n rest (TERMINAL t) e is = cc

-- what is found passed both tests
pub tests-passed : (a b : Bool) (n : List ℕ) (k : Kind) → (if a && b then name_in k else None) ≡ Some n →
    (a ≡ true) × (b ≡ true) × (name_in k ≡ Some n)
tests-passed true true n k e = (refl, refl, e)
tests-passed true false n k e = cc
tests-passed false b n k e = cc

-- the name that is the only token of a text, and the whole of it, is the text's
pub sole-is_name : (text n : List ℕ) (ts : List Lexeme) → StandInOrder text 0 ts → sole_name (length text) ts ≡ Some n →
    IsName text × (n ≡ map to_ascii_lowercase text)
sole-is_name text n [] stand found = cc
sole-is_name text n (t ∷ []) stand found =
    let passed = tests-passed (t.span.start == 0) (t.span.end == length text) n t.kind found in
    let start : t.span.start ≡ 0 = eqb-true t.span.start 0 passed.0 in
    let end : t.span.end ≡ length text = eqb-true t.span.end (length text) passed.1 in
    let slice : slice_range text t.span.start t.span.end ≡ text = rw (start, end) (grind (arith, common_steps)) in
    token-name text n (drop t.span.end text) t.kind passed.2 (rw slice at stand.2)
sole-is_name text n (t ∷ u ∷ ts) stand found = cc

-- no dot is part of a name, or begins one
pub part-is_no_dot : (c : ℕ) → c ≡ dot → is_name_part c ≡ true → ⊥
part-is_no_dot c is part = let bad : false ≡ true = rw is at part in cc

pub letter-is_no_dot : (c : ℕ) → c ≡ dot → is_letter c ≡ true → ⊥
letter-is_no_dot c is letter = let bad : false ≡ true = rw is at letter in cc

pub word-has_no_dot : (cs : List ℕ) → IsWord cs → (i : ℕ) → i < length cs → get_or cs i 0 ≡ dot → ⊥
word-has_no_dot [] is_word i below is = elim is_word [ ]
word-has_no_dot (c ∷ cs) (IsWord.word first others) zero below is = letter-is_no_dot c is first
word-has_no_dot (c ∷ cs) (IsWord.word first others) (suc i) below is =
    part-is_no_dot (get_or cs i 0) is (AllPass-from_list_all is_name_part cs others i 0 (omega arith))

-- two names with a dot between are split there
pub root-split : (text class procedure : List ℕ) (r : Option (Bor (List ℕ) × Bor (List ℕ))) → IsSplitOnceResult dot text r →
    NamesRoot text class procedure →
    MatchOption r ⊥ (λ x. IsName x.0.now × IsName x.1.now × (length x.0.now ≤ length text) × (length x.1.now ≤ length text))
root-split text class procedure None split names =
    split_after dot text names.before names.after None split (lit< tt) names.split (word-has_no_dot names.before names.first.word)
root-split text class procedure (Some x) split names =
    let (first, second) = split_after dot text names.before names.after (Some x) split (lit< tt) names.split (word-has_no_dot names.before names.first.word) in
    let len : length text ≡ length names.before + (1 + length names.after) = omega (arith, simp length-append at (ap length names.split)) in
    (rw first names.first, rw second names.second, rw first (omega arith), rw second (omega arith))
