-- What the tests of characters tell, and which exclude one another.
use Rattle.std.proofs.Common.{◌≡◌, ℕ, ◌≤◌, ◌<◌, Bool, true, false, not, Option, Some, None, refl, ap, ◌∙◌, arith}
use Rattle.std.specs.Prelude.{if◌then◌else◌, ◌&&◌, ◌||◌, nat_le, ◌==◌, is_some}
use Rattle.std.proofs.lemmas.Bool.Decides.{nat_tests}
use Rattle.sc_text.specs.declared.token.Terminal.{Terminal}
use Rattle.sc_text.specs.Characters.{is_white_space, is_letter, is_digit, is_underscore, is_name_part, is_plain, ends_line, quote, percent, hyphen}
use Rattle.sc_text.specs.Words.{long_symbol, short_symbol}

pub choose_true : {A : Type 0} (b : Bool) (x y : A) → b ≡ true → (if b then x else y) ≡ x
choose_true b x y e = rw e refl

pub choose_false : {A : Type 0} (b : Bool) (x y : A) → b ≡ false → (if b then x else y) ≡ y
choose_false b x y e = rw e refl

-- what holds of both choices holds of what was chosen
pub chosen : {A : Type 0} (P : A → Type 0) (b : Bool) (x y : A) → (b ≡ true → P x) → (b ≡ false → P y) → P (if b then x else y)
chosen P true x y f g = f refl
chosen P false x y f g = g refl

pub and_true : (a b : Bool) → (a && b) ≡ true → (a ≡ true) × (b ≡ true)
and_true true b e = (refl, e)
and_true false b e = cc

pub and_false : (a : Bool) → (a && false) ≡ false
and_false true = refl
and_false false = refl

pub none_is : {A : Type 0} (o : Option A) → is_some o ≡ false → o ≡ None
none_is None e = refl
none_is (Some x) e = cc

pub or_false : (a b : Bool) → (a || b) ≡ false → (a ≡ false) × (b ≡ false)
or_false true b e = cc
or_false false b e = (refl, e)

pub or_true_left : (a b : Bool) → a ≡ true → (a || b) ≡ true
or_true_left a b e = rw e refl

pub not_true : (a : Bool) → not a ≡ true → a ≡ false
not_true true e = cc
not_true false e = refl

pub eq_true : (a b : ℕ) → (a == b) ≡ true → a ≡ b
eq_true a b e = grind (arith, nat_tests)

pub le_true : (a b : ℕ) → nat_le a b ≡ true → a ≤ b
le_true a b e = grind (arith, nat_tests)

pub le_false : (a b : ℕ) → nat_le a b ≡ false → b < a
le_false a b e = grind (arith, nat_tests)

pub true_le : (a b : ℕ) → a ≤ b → nat_le a b ≡ true
true_le a b h = grind (arith, nat_tests)

pub false_le : (a b : ℕ) → b < a → nat_le a b ≡ false
false_le a b h = grind (arith, nat_tests)

-- ---- classes

-- what begins no symbol
abbrev pub begins_other : ℕ → Bool
begins_other c = is_white_space c || is_letter c || is_digit c || c == quote

pub record IsOther (c : ℕ) : Type 0 where
  pub not_white_space : is_white_space c ≡ false
  pub not_letter : is_letter c ≡ false
  pub not_digit : is_digit c ≡ false
  pub not_quote : (c == quote) ≡ false

pub other_is : (c : ℕ) → begins_other c ≡ false → IsOther c
other_is c e =
    let q = or_false _ _ e in
    let d = or_false _ _ q.0 in
    let l = or_false _ _ d.0 in
    record { not_white_space = l.0; not_letter = l.1; not_digit = d.1; not_quote = q.1 }

pub is_other_from : (c : ℕ) → is_white_space c ≡ false → is_letter c ≡ false → is_digit c ≡ false → (c == quote) ≡ false → begins_other c ≡ false
is_other_from c w l d q = rw w (rw l (rw d (rw q refl)))

pub letter_not_white_space : (c : ℕ) → is_letter c ≡ true → is_white_space c ≡ false
letter_not_white_space c e = grind (arith, nat_tests)

pub letter_name_part : (c : ℕ) → is_letter c ≡ true → is_name_part c ≡ true
letter_name_part c e = grind (arith, nat_tests)

pub digit_not_white_space : (c : ℕ) → is_digit c ≡ true → is_white_space c ≡ false
digit_not_white_space c e = grind (arith, nat_tests)

pub digit_not_letter : (c : ℕ) → is_digit c ≡ true → is_letter c ≡ false
digit_not_letter c e = grind (arith, nat_tests)

pub digit_not_underscore : (c : ℕ) → is_digit c ≡ true → is_underscore c ≡ false
digit_not_underscore c e = grind (arith, nat_tests)

pub record IsPlain (c : ℕ) : Type 0 where
  pub not_quote : (c == quote) ≡ false
  pub not_percent : (c == percent) ≡ false
  pub in_line : ends_line c ≡ false

pub plain_is : (c : ℕ) → is_plain c ≡ true → IsPlain c
plain_is c e =
    let l = or_false _ _ (not_true _ e) in
    let q = or_false _ _ l.0 in
    record { not_quote = q.0; not_percent = q.1; in_line = l.1 }

pub is_plain_from : (c : ℕ) → (c == quote) ≡ false → (c == percent) ≡ false → ends_line c ≡ false → is_plain c ≡ true
is_plain_from c q p l = rw q (rw p (rw l refl))

-- ---- symbols

short_step : (a n : ℕ) (s t : Terminal) (o : Option Terminal) → (if a == n then Some s else o) ≡ Some t → begins_other n ≡ false →
    (o ≡ Some t → begins_other a ≡ false) → begins_other a ≡ false
short_step a n s t o e other more = by_test (a == n) refl e
  where
    by_test : (b : Bool) → (a == n) ≡ b → (if b then Some s else o) ≡ Some t → begins_other a ≡ false
    by_test true d e = ap begins_other (eq_true a n d) ∙ other
    by_test false d e = more e

-- a symbol begins with none of what other tokens and white space begin with
pub short_symbol_other : (a : ℕ) (t : Terminal) → short_symbol a ≡ Some t → begins_other a ≡ false
unfolding short_symbol
short_symbol_other a t e =
    short_step a 46 _ t _ e refl (λ e. short_step a 44 _ t _ e refl (λ e. short_step a 58 _ t _ e refl (λ e. short_step a 59 _ t _ e refl
    (λ e. short_step a 40 _ t _ e refl (λ e. short_step a 41 _ t _ e refl (λ e. short_step a 123 _ t _ e refl (λ e. short_step a 125 _ t _ e refl
    (λ e. short_step a 63 _ t _ e refl (λ e. short_step a 33 _ t _ e refl (λ e. short_step a 61 _ t _ e refl (λ e. short_step a 60 _ t _ e refl
    (λ e. short_step a 62 _ t _ e refl (λ e. short_step a 43 _ t _ e refl (λ e. short_step a 45 _ t _ e refl (λ e. short_step a 42 _ t _ e refl (λ e. cc))))))))))))))))

long_step : (a b n m : ℕ) (s t : Terminal) (o : Option Terminal) → (if a == n && b == m then Some s else o) ≡ Some t → begins_other n ≡ false → (n == hyphen) ≡ false → (0 == m) ≡ false →
    (o ≡ Some t → (begins_other a ≡ false) × ((a == hyphen) ≡ false) × ((b == 0) ≡ false)) → (begins_other a ≡ false) × ((a == hyphen) ≡ false) × ((b == 0) ≡ false)
long_step a b n m s t o e other hyphened zeroed more = by_test (a == n && b == m) refl e
  where
    by_test : (c : Bool) → (a == n && b == m) ≡ c → (if c then Some s else o) ≡ Some t → (begins_other a ≡ false) × ((a == hyphen) ≡ false) × ((b == 0) ≡ false)
    by_test true d e =
        let h = and_true _ _ d in
        let same = eq_true a n h.0 in
        (ap begins_other same ∙ other, ap (λ (x : ℕ). x == hyphen) same ∙ hyphened, grind (arith, nat_tests, eq_true b m h.1, zeroed))
    by_test false d e = more e

-- a long symbol does so too; it begins no comment, and its second character isn't NUL
pub long_symbol_other : (a b : ℕ) (t : Terminal) → long_symbol a b ≡ Some t → (begins_other a ≡ false) × ((a == hyphen) ≡ false) × ((b == 0) ≡ false)
unfolding long_symbol
long_symbol_other a b t e =
    long_step a b 58 61 _ t _ e refl refl refl (λ e. long_step a b 47 61 _ t _ e refl refl refl (λ e. long_step a b 60 61 _ t _ e refl refl refl
    (λ e. long_step a b 62 61 _ t _ e refl refl refl (λ e. long_step a b 47 47 _ t _ e refl refl refl (λ e. long_step a b 92 92 _ t _ e refl refl refl (λ e. cc))))))

pub long_symbol_none : (a : ℕ) → long_symbol a 0 ≡ None
long_symbol_none a = by_case (long_symbol a 0) refl
  where
    by_case : (o : Option Terminal) → long_symbol a 0 ≡ o → long_symbol a 0 ≡ None
    by_case None e = e
    by_case (Some t) e = let h = (long_symbol_other a 0 t e).2 in cc
