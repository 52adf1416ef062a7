-- What words say of one option.
use Rattle.std.proofs.Common.{◌≡◌, ◌∙◌, ℕ, ◌==◌, ◌<◌, ◌≤◌, Bool, true, false, List, [], ◌∷◌, ◌++◌, Bor, MatchOption, Option, Some, None, length, map, drop, option_map, slice_index_or, refl, sym, ap, subst, arith, eq-eqb, eqb-true, ne_eqb, if◌then◌else◌}
use Rattle.std.specs.Str.Pattern.{StripsPrefix, FindsTextPrefix}
use Rattle.sc_arguments.specs.Words.{after, ends_options, ends_use, has_value, uses, value_by, words_from}

yes : {X : Type 0} (b : Bool) (x y : X) → b ≡ true → (if b then x else y) ≡ x
yes true x y e = refl
yes false x y e = cc

no : {X : Type 0} (b : Bool) (x y : X) → b ≡ false → (if b then x else y) ≡ y
no true x y e = cc
no false x y e = refl

-- ---- the words from that of an option on

-- the next word is the value of another option
pub passed-by : {X : Type 0} (text : X → List ℕ) (option : List ℕ) (all left after : List X) (x : X) (v v2 : Bool) →
    left ≡ x ∷ after → v ≡ true → v2 ≡ false → words_from option false (map text all) ≡ words_from option v (map text left) →
    words_from option false (map text all) ≡ words_from option v2 (map text after)
passed-by text option all left after x v v2 next value free so-far =
    so-far ∙ ap (λ ws. words_from option v (map text ws)) next ∙ ap (λ b. words_from option b (text x ∷ map text after)) value
    ∙ ap (λ b. words_from option b (map text after)) (sym free)

-- the next word is no value
at-next : {X : Type 0} (text : X → List ℕ) (option : List ℕ) (all left after : List X) (x : X) (word : List ℕ) (v : Bool) →
    left ≡ x ∷ after → word ≡ text x → v ≡ false → words_from option false (map text all) ≡ words_from option v (map text left) →
    words_from option false (map text all) ≡ words_from option false (word ∷ map text after)
at-next text option all left after x word v next same free so-far =
    so-far ∙ ap (λ ws. words_from option v (map text ws)) next ∙ ap (λ t. words_from option v (t ∷ map text after)) (sym same)
    ∙ ap (λ b. words_from option b (word ∷ map text after)) free

-- it ends the options
pub ended-there : {X : Type 0} (text : X → List ℕ) (option : List ℕ) (all left after : List X) (x : X) (word : List ℕ) (v : Bool) →
    left ≡ x ∷ after → word ≡ text x → v ≡ false → ends_options word ≡ true →
    words_from option false (map text all) ≡ words_from option v (map text left) → [] ≡ words_from option false (map text all)
ended-there text option all left after x word v next same free ends so-far =
    sym (at-next text option all left after x word v next same free so-far ∙ yes (ends_options word) [] _ ends)

-- it uses the option
pub used-there : {X : Type 0} (text : X → List ℕ) (option : List ℕ) (all left after : List X) (x : X) (word : List ℕ) (v : Bool) →
    left ≡ x ∷ after → word ≡ text x → v ≡ false → ends_options word ≡ false → uses option word ≡ true →
    words_from option false (map text all) ≡ words_from option v (map text left) →
    map text left ≡ words_from option false (map text all)
used-there text option all left after x word v next same free other is so-far =
    ap (map text) next ∙ ap (λ t. t ∷ map text after) (sym same)
    ∙ sym (at-next text option all left after x word v next same free so-far ∙ no (ends_options word) [] _ other
    ∙ yes (uses option word) (word ∷ map text after) _ is)

-- or another one
pub passed-other : {X : Type 0} (text : X → List ℕ) (option : List ℕ) (all left after : List X) (x : X) (word : List ℕ) (v v2 : Bool) →
    left ≡ x ∷ after → word ≡ text x → v ≡ false → ends_options word ≡ false → uses option word ≡ false → v2 ≡ has_value word →
    words_from option false (map text all) ≡ words_from option v (map text left) →
    words_from option false (map text all) ≡ words_from option v2 (map text after)
passed-other text option all left after x word v v2 next same free other unused value so-far =
    at-next text option all left after x word v next same free so-far ∙ no (ends_options word) [] _ other
    ∙ no (uses option word) (word ∷ map text after) _ unused
    ∙ ap (λ b. words_from option b (map text after)) (sym value)

none-from : (option : List ℕ) (v : Bool) → words_from option v [] ≡ []
none-from option true = refl
none-from option false = refl

-- no word is left
pub none-used : {X : Type 0} (text : X → List ℕ) (option : List ℕ) (all left : List X) (v : Bool) → length left ≡ 0 →
    words_from option false (map text all) ≡ words_from option v (map text left) → map text left ≡ words_from option false (map text all)
none-used text option all [] v none so-far = sym (so-far ∙ none-from option v)
none-used text option all (x ∷ xs) v none so-far = absurd (omega (arith, none))

-- ---- what is after an option's name

after-is : (option rest : List ℕ) → after option (option ++ rest) ≡ Some rest
after-is [] rest = refl
after-is (c ∷ cs) rest = yes (c == c) (after cs (cs ++ rest)) None (eq-eqb c c refl) ∙ after-is cs rest

pub after-found : (option word rest : List ℕ) → StripsPrefix (FindsTextPrefix option) word rest → after option word ≡ Some rest
after-found option word rest is =
    ap (after option) is.1.1 ∙ after-is option (drop is.0 word) ∙ ap (λ xs. Some xs) (sym is.2)

none-next : (c d : ℕ) (cs ds : List ℕ) (b : Bool) → (c == d) ≡ b → ((rest : List ℕ) → d ∷ ds ≡ c ∷ (cs ++ rest) → ⊥) →
    (((rest : List ℕ) → ds ≡ cs ++ rest → ⊥) → after cs ds ≡ None) → (if b then after cs ds else None) ≡ None
none-next c d cs ds true e none next = next (λ rest same. none rest (ap (λ xs. d ∷ xs) same ∙ ap (λ x. x ∷ (cs ++ rest)) (sym (eqb-true c d e))))
none-next c d cs ds false e none next = refl

pub after-none : (option word : List ℕ) → ((rest : List ℕ) → word ≡ option ++ rest → ⊥) → after option word ≡ None
after-none [] word none = absurd (none word refl)
after-none (c ∷ cs) [] none = refl
after-none (c ∷ cs) (d ∷ ds) none = none-next c d cs ds (c == d) refl none (after-none cs ds)

-- ---- whether a word uses an option

whole-use : (is_short : Bool) (rest : List ℕ) → length rest < 1 → ends_use is_short (Some rest) ≡ true
whole-use is_short [] short = refl
whole-use is_short (c ∷ cs) short = absurd (omega (arith, short))

pub uses-whole : (option word rest bytes : List ℕ) → StripsPrefix (FindsTextPrefix option) word rest → bytes ≡ rest → length bytes < 1 →
    true ≡ uses option word
uses-whole option word rest bytes is same short =
    sym (ap (ends_use (length option == 2)) (after-found option word rest is)
    ∙ whole-use (length option == 2) rest (subst (λ (b : List ℕ). length b < 1) same short))

longer-use : (is_short : Bool) (rest : List ℕ) → is_short ≡ false → 1 ≤ length rest → (slice_index_or rest 0 0 == 61) ≡ ends_use is_short (Some rest)
longer-use is_short [] free long = absurd (omega (arith, long))
longer-use true (c ∷ cs) free long = cc
longer-use false (c ∷ cs) free long = refl

pub uses-longer : (option word rest bytes : List ℕ) → StripsPrefix (FindsTextPrefix option) word rest → bytes ≡ rest → 1 ≤ length bytes →
    (length option ≡ 2 → ⊥) → (slice_index_or bytes 0 0 == 61) ≡ uses option word
uses-longer option word rest bytes is same long free =
    ap (λ b. slice_index_or b 0 0 == 61) same
    ∙ longer-use (length option == 2) rest (ne_eqb (length option) 2 free) (subst (λ (b : List ℕ). 1 ≤ length b) same long)
    ∙ sym (ap (ends_use (length option == 2)) (after-found option word rest is))

pub uses-none : (option word : List ℕ) → ((rest : List ℕ) → word ≡ option ++ rest → ⊥) → false ≡ uses option word
uses-none option word none = sym (ap (ends_use (length option == 2)) (after-none option word none))

-- ---- the value of an option

pub value-none : (option word : List ℕ) (words : List (List ℕ)) → ((rest : List ℕ) → word ≡ option ++ rest → ⊥) →
    None ≡ value_by words (after option word)
value-none option word words none = sym (ap (value_by words) (after-none option word none))

pub value-found : (option word rest : List ℕ) (words : List (List ℕ)) (r : Option (List ℕ)) → StripsPrefix (FindsTextPrefix option) word rest →
    r ≡ value_by words (Some rest) → r ≡ value_by words (after option word)
value-found option word rest words r is value = value ∙ sym (ap (value_by words) (after-found option word rest is))

other-sign : (c : ℕ) (cs : List ℕ) (b : Bool) → (c == 61) ≡ b → ((xs : List ℕ) → c ∷ cs ≡ 61 ∷ xs → ⊥) → None ≡ (if b then Some cs else None)
other-sign c cs true e none = absurd (none cs (ap (λ x. x ∷ cs) (eqb-true c 61 e)))
other-sign c cs false e none = refl

pub value-behind : (words : List (List ℕ)) (rest bytes : List ℕ) (r : Option (Bor (List ℕ))) → bytes ≡ rest → 1 ≤ length bytes →
    MatchOption r ((xs : List ℕ) → rest ≡ 61 ∷ xs → ⊥) (λ x. rest ≡ 61 ∷ x.now) → option_map (λ value. value.now) r ≡ value_by words (Some rest)
value-behind words [] bytes r same long is = absurd (omega (arith, long, ap length same))
value-behind words (c ∷ cs) bytes None same long is = other-sign c cs (c == 61) refl is
value-behind words (c ∷ cs) bytes (Some x) same long is = sym (ap (λ t. value_by words (Some t)) is)
