-- Numbers in decimal, read digit by digit.
use Rattle.std.proofs.Common.{◌≡◌, ℕ, zero, suc, ◌+◌, ◌-◌, ◌*◌, ◌/◌, ◌%◌, ◌^◌, ◌<◌, ◌≤◌, List, [], ◌∷◌, ◌++◌, ◌⊎◌, length, get_or, refl, sym, ap, ◌∙◌, inl, inr, arith, decimal}
use Rattle.std.specs.Char.{digit_value}
use Rattle.std.specs.Str.Parse.{AllDigits, digits_value, digits_value_after}
use Rattle.std.proofs.lemmas.Fmt.{decimal_is_IsNumeral, decimal_step, decimal_digit, first_decimal}
use Rattle.std.proofs.lemmas.Str.{digit_value_digit}
use Rattle.std.proofs.lemmas.Str.Parse.{digit_from_value}
use Rattle.sc_audit.specs.Internal.Parts.{IsDigit, with_digit}

abbrev pub AreDigits : List ℕ → Type 0
AreDigits [] = Unit {0}
AreDigits (c ∷ cs) = IsDigit c × AreDigits cs

are-digits : (ds : List ℕ) → AllDigits 10 ds → AreDigits ds
are-digits [] all = tt
are-digits (c ∷ cs) all = (digit_from_value c all.0, are-digits cs all.1)

pub decimal-digits : (n : ℕ) → n < 2 ^ 64 → AreDigits (decimal n)
decimal-digits n small = are-digits (decimal n) (decimal_is_IsNumeral n small).0.1

-- a number is followed by what is no digit, or its text goes on
pub goes-on : (ds es r q : List ℕ) (b c : ℕ) → AreDigits ds → AreDigits es → ¬ IsDigit c → ds ++ (b ∷ r) ≡ es ++ (c ∷ q) →
    ((ds ≡ es) × (b ≡ c) × (r ≡ q)) ⊎ ((more : List ℕ) × (es ≡ ds ++ (b ∷ more)) × (r ≡ more ++ (c ∷ q)))
goes-on [] [] r q b c these those not-c e = inl (refl, cc, cc)
goes-on [] (x ∷ xs) r q b c these those not-c e = inr (xs, cc, cc)
goes-on (d ∷ ds) [] r q b c these those not-c e =
    let same : d ≡ c = cc in
    absurd (not-c (rw same at these.0))
goes-on (d ∷ ds) (x ∷ xs) r q b c these those not-c e =
    let first : d ≡ x = cc in
    let rest : ds ++ (b ∷ r) ≡ xs ++ (c ∷ q) = cc in
    elim (goes-on ds xs r q b c these.1 those.1 not-c rest) [
      | inl same ↦ inl (cc, same.1, same.2)
      | inr more ↦ inr (more.0, cc, more.2)
    ]

-- the digits of one text are those of the other where neither is followed by one
pub same-digits : (ds es r q : List ℕ) (b c : ℕ) → AreDigits ds → AreDigits es → ¬ IsDigit b → ¬ IsDigit c →
    ds ++ (b ∷ r) ≡ es ++ (c ∷ q) → (ds ≡ es) × (b ≡ c) × (r ≡ q)
same-digits [] [] r q b c these those not-b not-c e = (refl, cc, cc)
same-digits [] (x ∷ xs) r q b c these those not-b not-c e =
    let same : x ≡ b = cc in
    absurd (not-b (rw same at those.0))
same-digits (d ∷ ds) [] r q b c these those not-b not-c e =
    let same : d ≡ c = cc in
    absurd (not-c (rw same at these.0))
same-digits (d ∷ ds) (x ∷ xs) r q b c these those not-b not-c e =
    let rest : ds ++ (b ∷ r) ≡ xs ++ (c ∷ q) = cc in
    let same = same-digits ds xs r q b c these.1 those.1 not-b not-c rest in
    (cc, same.1, same.2)

-- ---- values

value-append : (n : ℕ) (xs ys : List ℕ) → digits_value_after 10 n (xs ++ ys) ≡ digits_value_after 10 (digits_value_after 10 n xs) ys
value-append n [] ys = refl
value-append n (x ∷ xs) ys = value-append (n * 10 + digit_value x) xs ys

value-least : (n : ℕ) (ds : List ℕ) → n ≤ digits_value_after 10 n ds
value-least n [] = omega arith
value-least n (c ∷ cs) =
    let more = value-least (n * 10 + digit_value c) cs in
    omega (arith, more)

-- a number whose text begins with another's and a digit behind it
pub number-begins : (m n b : ℕ) (more : List ℕ) → m < 2 ^ 64 → n < 2 ^ 64 → IsDigit b → decimal m ≡ decimal n ++ (b ∷ more) →
    with_digit n b ≤ m
number-begins m n b more small few digit e =
    let is : digits_value 10 (decimal m) ≡ m = (decimal_is_IsNumeral m small).1 in
    let front : digits_value 10 (decimal n) ≡ n = (decimal_is_IsNumeral n few).1 in
    let parts : m ≡ digits_value_after 10 (digits_value 10 (decimal n)) (b ∷ more) =
    sym is ∙ ap (λ ds. digits_value 10 ds) e ∙ value-append 0 (decimal n) (b ∷ more) in
    let goes : m ≡ digits_value_after 10 (n * 10 + digit_value b) more = parts ∙ ap (λ k. digits_value_after 10 k (b ∷ more)) front in
    let least = value-least (n * 10 + digit_value b) more in
    let digit-is = digit_value_digit b digit in
    omega (arith, goes, least, digit-is)

-- nothing follows a nought
pub number-some : (m n b : ℕ) (more : List ℕ) → m < 2 ^ 64 → decimal m ≡ decimal n ++ (b ∷ more) → 0 < n
number-some zero zero b more small e =
    let this = decimal_digit 0 (omega arith) in
    let none : 48 ∷ [] ≡ 48 ∷ (b ∷ more) = sym this ∙ e ∙ ap (λ ds. ds ++ (b ∷ more)) this in
    absurd cc
number-some (suc m) zero b more small e =
    let this = decimal_digit 0 (omega arith) in
    let is : decimal (suc m) ≡ 48 ∷ (b ∷ more) = e ∙ ap (λ ds. ds ++ (b ∷ more)) this in
    let above : 48 < get_or (decimal (suc m)) 0 0 = first_decimal (suc m) (omega arith) small in
    let least : 48 < 48 = rw is at above in
    absurd (omega arith)
number-some m (suc n) b more small e = omega arith

-- the text of a number with one digit more
pub number-more : (n b : ℕ) → 0 < n → n < 2 ^ 32 → IsDigit b → decimal (with_digit n b) ≡ decimal n ++ (b ∷ [])
number-more n b some small digit =
    let whole : (n * 10 + (b - 48)) / 10 ≡ n = omega arith in
    let last : 48 + (n * 10 + (b - 48)) % 10 ≡ b = omega arith in
    decimal_step (n * 10 + (b - 48)) (omega arith) (omega arith) ∙ ap (λ k. decimal k ++ ((48 + (n * 10 + (b - 48)) % 10) ∷ [])) whole
    ∙ ap (λ d. decimal n ++ (d ∷ [])) last

-- the text of a digit
pub number-one : (b : ℕ) → IsDigit b → decimal (b - 48) ≡ b ∷ []
number-one b digit =
    let is : 48 + (b - 48) ≡ b = omega arith in
    decimal_digit (b - 48) (omega arith) ∙ ap (λ d. d ∷ []) is

-- a number is at least its first digit
pub number-first : (m b : ℕ) (more : List ℕ) → m < 2 ^ 64 → IsDigit b → decimal m ≡ b ∷ more → b - 48 ≤ m
number-first m b more small digit e =
    let is : digits_value 10 (decimal m) ≡ m = (decimal_is_IsNumeral m small).1 in
    let parts : m ≡ digits_value_after 10 (0 * 10 + digit_value b) more = sym is ∙ ap (λ ds. digits_value 10 ds) e in
    let least = value-least (0 * 10 + digit_value b) more in
    let digit-is = digit_value_digit b digit in
    omega (arith, parts, least, digit-is)
