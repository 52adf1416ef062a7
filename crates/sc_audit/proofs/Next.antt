-- Which byte may come next in a record's text.
use Rattle.std.proofs.Common.{◌≡◌, ℕ, suc, zero, ◌+◌, ◌-◌, ◌^◌, ◌<◌, ◌≤◌, List, [], ◌∷◌, ◌++◌, ◌⊎◌, All, get_or, length, take, refl, sym, ap, ◌∙◌, inl, inr, arith, append_assoc, append-nil, length-append, subst, decimal, codes}
use Rattle.std.proofs.lemmas.Fmt.{decimal_digit, decimal_injective, first_decimal}
use Rattle.std.proofs.lemmas.List.Elements.{All-head, All-tail}
use Rattle.std.proofs.lemmas.List.Sums.{sum_by-append, sum_by-cons}
use Rattle.sc_lockpass.specs.declared.version.Version.{Version}
use Rattle.sc_lockpass.specs.declared.version.Version.TheVariants.{One, Two}
use Rattle.sc_lockpass.specs.Versions.{most_handlers}
use Rattle.sc_audit.specs.declared.line.RecordLine.{RecordLine}
use Rattle.sc_audit.specs.Records.{BeginsRecord, IsRecord, IsRecordText, first_line, last_line, line_text, most_lines, most_turns, text_of, turns_of, version_number}
use Rattle.sc_audit.specs.Internal.Parts.{IsDigit, head_of, rest_of, title, with_digit}
use Rattle.sc_audit.specs.Internal.Steps.{HasRoom}
use Rattle.sc_audit.proofs.Decimals.{AreDigits, decimal-digits, goes-on, number-begins, number-first, number-some, same-digits}
use Rattle.sc_audit.proofs.Lines.{AreSmall, IsSmall, first-digit, head-split, last-parts, line-or-last, line-parts, no-feed, no-letter, no-space, record-small, rest-next, small-more, text-head}

-- ---- a line of a record

all-behind : {X : Type 0} (P : X → Type 0) (xs : List X) (x : X) (ys : List X) → All P (xs ++ (x ∷ ys)) → P x
all-behind P [] x ys all = All-head P x ys all
all-behind P (y ∷ xs) x ys all = all-behind P xs x ys (All-tail P y (xs ++ (x ∷ ys)) all)

-- What is so of the line behind these.
pub record IsNext (version : Version) (lines : List RecordLine) (line : RecordLine) : Type 0 where
  pub handler : line.handler < most_handlers version
  pub some : 0 < line.turns
  pub few : length lines < most_lines
  pub short : turns_of lines + line.turns ≤ most_turns

pub is-next : (version : Version) (lines : List RecordLine) (line : RecordLine) (more : List RecordLine) →
    IsRecord version (lines ++ (line ∷ more)) → IsNext version lines line
is-next version lines line more is =
    let many = length-append lines (line ∷ more) in
    let fewest : length (lines ++ (line ∷ more)) ≤ most_lines = is.few in
    let total = sum_by-append (λ (line : RecordLine). line.turns) lines (line ∷ more) in
    let first = sum_by-cons (λ (line : RecordLine). line.turns) line more in
    let most : turns_of (lines ++ (line ∷ more)) ≤ most_turns = is.short in
    record {
      handler = all-behind (λ (line : RecordLine). line.handler < most_handlers version) lines line more is.handlers;
      some = all-behind (λ (line : RecordLine). 0 < line.turns) lines line more is.some;
      few = omega (arith, many, fewest);
      short = omega (arith, total, first, most);
    }

-- ---- what follows whole lines

-- What follows these lines, where their record goes on with these bytes.
pub record GoesBehind (version : Version) (lines : List RecordLine) (bytes : List ℕ) : Type 0 where
  pub more : List RecordLine
  pub rest : List ℕ
  pub limits : IsRecord version (lines ++ more)
  pub small : AreSmall more
  pub parts : bytes ++ rest ≡ rest_of more (length (lines ++ more))

goes-behind : (version other : Version) (lines others : List RecordLine) (bytes rest : List ℕ) → IsRecord version lines → IsRecord other others →
    (head_of version lines ++ bytes) ++ rest ≡ text_of other others → GoesBehind version lines bytes
goes-behind version other lines others bytes rest is that e =
    let split = head-split version other lines others (bytes ++ rest) (record-small version lines is) (record-small other others that)
    (sym (append_assoc (head_of version lines) bytes rest) ∙ e) in
    let P : Version → Type 0 = λ v. IsRecord v (lines ++ split.1.0) in
    let Q : List RecordLine → Type 0 = λ ls. IsRecord other ls in
    let limits : IsRecord version (lines ++ split.1.0) = subst P (sym split.0) (subst Q split.1.1 that) in
    record {
      more = split.1.0;
      rest = rest;
      limits = limits;
      small = small-more lines split.1.0 (record-small version (lines ++ split.1.0) limits);
      parts = split.1.2 ∙ ap (λ ls. rest_of split.1.0 (length ls)) split.1.1;
    }

pub behind : (version : Version) (lines : List RecordLine) (bytes : List ℕ) → IsRecord version lines →
    BeginsRecord (head_of version lines ++ bytes) → GoesBehind version lines bytes
behind version lines bytes is begins =
    goes-behind version begins.1.0 lines begins.1.1 bytes begins.0 is begins.1.2.0 begins.1.2.1

-- the same of two parts
pub behind-two : (version : Version) (lines : List RecordLine) (front bytes : List ℕ) → IsRecord version lines →
    BeginsRecord ((head_of version lines ++ front) ++ bytes) → GoesBehind version lines (front ++ bytes)
behind-two version lines front bytes is begins =
    let P : List ℕ → Type 0 = λ text. BeginsRecord text in
    behind version lines (front ++ bytes) is (subst P (append_assoc (head_of version lines) front bytes) begins)

-- ---- a digit within a number

digit-in : (ds more : List ℕ) (b : ℕ) → AreDigits (ds ++ (b ∷ more)) → IsDigit b
digit-in [] more b digits = digits.0
digit-in (d ∷ ds) more b digits = digit-in ds more b digits.1

-- a number that is read so far goes on with a digit, or ends
pub number-next : (number whole b c : ℕ) (rest after : List ℕ) → number < 2 ^ 32 → whole < 2 ^ 32 → ¬ IsDigit c →
    decimal number ++ (b ∷ rest) ≡ decimal whole ++ (c ∷ after) →
    ((b ≡ c) × (number ≡ whole) × (rest ≡ after)) ⊎ (IsDigit b × (0 < number) × (with_digit number b ≤ whole))
number-next number whole b c rest after small short other e =
    elim (goes-on (decimal number) (decimal whole) rest after b c (decimal-digits number (omega arith)) (decimal-digits whole (omega arith)) other e) [
      | inl same ↦ inl (same.1, decimal_injective number whole (omega arith) (omega arith) same.0, same.2)
      | inr more ↦
          let digits : AreDigits (decimal number ++ (b ∷ more.0)) = rw more.1 at (decimal-digits whole (omega arith)) in
          let digit = digit-in (decimal number) more.0 b digits in
          inr (digit, number-some whole number b more.0 (omega arith) more.1, number-begins whole number b more.0 (omega arith) (omega arith) digit more.1)
    ]

-- ---- behind whole lines

lines-next-of : (version : Version) (lines more : List RecordLine) (count b : ℕ) (rest : List ℕ) → IsRecord version (lines ++ more) → AreSmall more →
    b ∷ rest ≡ rest_of more count → (b ≡ 101) ⊎ (IsDigit b × HasRoom lines)
lines-next-of version lines [] count b rest is small e = inl cc
lines-next-of version lines (line ∷ more) count b rest is small e =
    let next = is-next version lines line more is in
    let first = first-digit line.handler b _ rest (omega arith) (sym (e ∙ rest-next line more count ∙ line-parts line (rest_of more count))) in
    inr (first.0, (next.few, omega (arith, next.some, next.short)))

pub lines-next : (version : Version) (lines : List RecordLine) (b : ℕ) → IsRecord version lines →
    BeginsRecord (head_of version lines ++ b ∷ []) → (b ≡ 101) ⊎ (IsDigit b × HasRoom lines)
lines-next version lines b is begins =
    let g = behind version lines (b ∷ []) is begins in
    lines-next-of version lines g.more (length (lines ++ g.more)) b g.rest g.limits g.small g.parts

-- ---- within a handler's number

-- a number isn't what the last line begins with
number-or-last : (number count : ℕ) (xs : List ℕ) → number < 2 ^ 32 → decimal number ++ xs ≡ rest_of [] count → ⊥
number-or-last number count xs small e = no-letter (first-digit number 101 xs _ (omega arith) e).0

handler-next-of : (version : Version) (lines more : List RecordLine) (count number b : ℕ) (rest : List ℕ) → IsRecord version (lines ++ more) →
    AreSmall more → number < 2 ^ 32 → decimal number ++ (b ∷ rest) ≡ rest_of more count →
    (b ≡ 32) ⊎ (IsDigit b × (0 < number) × (with_digit number b < most_handlers version))
handler-next-of version lines [] count number b rest is small short e = absurd (number-or-last number count (b ∷ rest) short e)
handler-next-of version lines (line ∷ more) count number b rest is small short e =
    let next = is-next version lines line more is in
    elim (number-next number line.handler b 32 rest _ short small.0.0 no-space (e ∙ rest-next line more count ∙ line-parts line (rest_of more count))) [
      | inl same ↦ inl same.0
      | inr digit ↦ inr (digit.0, digit.1, omega (arith, digit.2, next.handler))
    ]

pub handler-next : (version : Version) (lines : List RecordLine) (number b : ℕ) → IsRecord version lines → number < 2 ^ 32 →
    BeginsRecord ((head_of version lines ++ decimal number) ++ b ∷ []) →
    (b ≡ 32) ⊎ (IsDigit b × (0 < number) × (with_digit number b < most_handlers version))
handler-next version lines number b is short begins =
    let g = behind-two version lines (decimal number) (b ∷ []) is begins in
    handler-next-of version lines g.more (length (lines ++ g.more)) number b g.rest g.limits g.small short
    (sym (append_assoc (decimal number) (b ∷ []) g.rest) ∙ g.parts)

-- ---- behind the space

space-next-of : (version : Version) (lines more : List RecordLine) (count handler b : ℕ) (rest : List ℕ) → IsRecord version (lines ++ more) →
    AreSmall more → handler < 2 ^ 32 → decimal handler ++ (32 ∷ (b ∷ rest)) ≡ rest_of more count →
    IsDigit b × (48 < b) × (turns_of lines + (b - 48) ≤ most_turns)
space-next-of version lines [] count handler b rest is small short e = absurd (number-or-last handler count (32 ∷ (b ∷ rest)) short e)
space-next-of version lines (line ∷ more) count handler b rest is small short e =
    let next = is-next version lines line more is in
    let some : 0 < line.turns = next.some in
    let whole : line.turns < 2 ^ 32 = small.0.1 in
    let same = same-digits (decimal handler) (decimal line.handler) (b ∷ rest) (decimal line.turns ++ (10 ∷ rest_of more count)) 32 32
    (decimal-digits handler (omega arith)) (decimal-digits line.handler (omega arith)) no-space no-space
    (e ∙ rest-next line more count ∙ line-parts line (rest_of more count)) in
    let first = first-digit line.turns b _ rest (omega arith) (sym same.2) in
    let above : 48 < get_or (decimal line.turns) 0 0 = first_decimal line.turns some (omega arith) in
    let least = number-first line.turns b first.1.0 (omega arith) first.0 first.1.1 in
    (first.0, rw first.1.1 at above, omega (arith, least, next.short))

pub space-next : (version : Version) (lines : List RecordLine) (handler b : ℕ) → IsRecord version lines → handler < 2 ^ 32 →
    BeginsRecord ((head_of version lines ++ (decimal handler ++ codes " ")) ++ b ∷ []) →
    IsDigit b × (48 < b) × (turns_of lines + (b - 48) ≤ most_turns)
space-next version lines handler b is short begins =
    let g = behind-two version lines (decimal handler ++ codes " ") (b ∷ []) is begins in
    let parts : decimal handler ++ (32 ∷ (b ∷ g.rest)) ≡ ((decimal handler ++ codes " ") ++ b ∷ []) ++ g.rest = simp append_assoc in
    space-next-of version lines g.more (length (lines ++ g.more)) handler b g.rest g.limits g.small short (parts ∙ g.parts)

-- ---- within the number of turns

turns-next-of : (version : Version) (lines more : List RecordLine) (count handler number b : ℕ) (rest : List ℕ) → IsRecord version (lines ++ more) →
    AreSmall more → handler < 2 ^ 32 → number < 2 ^ 32 → decimal handler ++ (32 ∷ (decimal number ++ (b ∷ rest))) ≡ rest_of more count →
    (b ≡ 10) ⊎ (IsDigit b × (turns_of lines + with_digit number b ≤ most_turns))
turns-next-of version lines [] count handler number b rest is small short few e = absurd (number-or-last handler count _ short e)
turns-next-of version lines (line ∷ more) count handler number b rest is small short few e =
    let next = is-next version lines line more is in
    let same = same-digits (decimal handler) (decimal line.handler) (decimal number ++ (b ∷ rest)) (decimal line.turns ++ (10 ∷ rest_of more count)) 32 32
    (decimal-digits handler (omega arith)) (decimal-digits line.handler (omega (arith, small.0.0))) no-space no-space
    (e ∙ rest-next line more count ∙ line-parts line (rest_of more count)) in
    elim (number-next number line.turns b 10 rest (rest_of more count) few small.0.1 no-feed same.2) [
      | inl ends ↦ inl ends.0
      | inr digit ↦ inr (digit.0, omega (arith, digit.2, next.short))
    ]

pub turns-next : (version : Version) (lines : List RecordLine) (handler number b : ℕ) → IsRecord version lines → handler < 2 ^ 32 → number < 2 ^ 32 →
    BeginsRecord ((head_of version lines ++ (decimal handler ++ (codes " " ++ decimal number))) ++ b ∷ []) →
    (b ≡ 10) ⊎ (IsDigit b × (turns_of lines + with_digit number b ≤ most_turns))
turns-next version lines handler number b is short few begins =
    let g = behind-two version lines (decimal handler ++ (codes " " ++ decimal number)) (b ∷ []) is begins in
    let parts : decimal handler ++ (32 ∷ (decimal number ++ (b ∷ g.rest))) ≡ ((decimal handler ++ (codes " " ++ decimal number)) ++ b ∷ []) ++ g.rest = simp append_assoc in
    turns-next-of version lines g.more (length (lines ++ g.more)) handler number b g.rest g.limits g.small short few (parts ∙ g.parts)

-- ---- within the last line

-- a text of which a beginning was read goes on with its own byte
pub own-next : (read b : ℕ) (text rest after : List ℕ) → read < length text → take read text ++ (b ∷ rest) ≡ text ++ after → b ≡ get_or text read 0
own-next read b [] rest after within e = absurd (omega arith)
own-next zero b (x ∷ text) rest after within e = cc
own-next (suc read) b (x ∷ text) rest after within e =
    let tails : take read text ++ (b ∷ rest) ≡ text ++ after = cc in
    own-next read b text rest after (omega arith) tails

last-next-of : (more : List RecordLine) (n count read b : ℕ) (rest : List ℕ) → AreSmall more → read < length (last_line n) → 0 < read →
    (more ≡ [] → count ≡ n) → take read (last_line n) ++ (b ∷ rest) ≡ rest_of more count → b ≡ get_or (last_line n) read 0
last-next-of [] n count read b rest small within some same e =
    own-next read b (last_line n) rest [] within (e ∙ ap last_line (same refl) ∙ sym (append-nil (last_line n)))
last-next-of (line ∷ more) n count zero b rest small within some same e = absurd (omega arith)
last-next-of (line ∷ more) n count (suc read) b rest small within some same e =
    absurd (line-or-last line _ _ small.0 (sym (rest-next line more count) ∙ sym e))

pub last-next : (version : Version) (lines : List RecordLine) (read b : ℕ) → IsRecord version lines → read < length (last_line (length lines)) → 0 < read →
    BeginsRecord ((head_of version lines ++ take read (last_line (length lines))) ++ b ∷ []) → b ≡ get_or (last_line (length lines)) read 0
last-next version lines read b is within some begins =
    let g = behind-two version lines (take read (last_line (length lines))) (b ∷ []) is begins in
    last-next-of g.more (length lines) (length (lines ++ g.more)) read b g.rest g.small within some
    (λ none. ap (λ ls. length (lines ++ ls)) none ∙ ap length (append-nil lines))
    (sym (append_assoc (take read (last_line (length lines))) (b ∷ []) g.rest) ∙ g.parts)

-- ---- behind the last line

all-next-of : (more : List RecordLine) (n count b : ℕ) (rest : List ℕ) → AreSmall more → (more ≡ [] → count ≡ n) →
    last_line n ++ (b ∷ rest) ≡ rest_of more count → ⊥
all-next-of [] n count b rest small same e =
    let whole : last_line n ++ (b ∷ rest) ≡ last_line n = e ∙ ap last_line (same refl) in
    let size = length-append (last_line n) (b ∷ rest) in
    let sizes : length (last_line n ++ (b ∷ rest)) ≡ length (last_line n) = ap length whole in
    omega (arith, size, sizes)
all-next-of (line ∷ more) n count b rest small same e = line-or-last line _ _ small.0 (sym (rest-next line more count) ∙ sym e)

pub all-next : (version : Version) (lines : List RecordLine) (b : ℕ) → IsRecord version lines → BeginsRecord (text_of version lines ++ b ∷ []) → ⊥
all-next version lines b is begins =
    let P : List ℕ → Type 0 = λ text. BeginsRecord (text ++ b ∷ []) in
    let parted = subst P (text-head version lines) begins in
    let g = behind-two version lines (last_line (length lines)) (b ∷ []) is parted in
    all-next-of g.more (length lines) (length (lines ++ g.more)) b g.rest g.small
    (λ none. ap (λ ls. length (lines ++ ls)) none ∙ ap length (append-nil lines))
    (sym (append_assoc (last_line (length lines)) (b ∷ []) g.rest) ∙ g.parts)

-- ---- within the first line

pub title-next : (read b : ℕ) → read < length title → BeginsRecord (take read title ++ b ∷ []) → b ≡ get_or title read 0
title-next read b within begins =
    own-next read b title begins.0 _ within (sym (append_assoc (take read title) (b ∷ []) begins.0) ∙ begins.1.2.1)

version-next-of : (version : Version) (lines : List RecordLine) (b : ℕ) (rest : List ℕ) → title ++ (b ∷ rest) ≡ text_of version lines → (b ≡ 49) ⊎ (b ≡ 50)
version-next-of One lines b rest e =
    let one = decimal_digit 1 (omega arith) in
    let plain = rw one at e in
    inl cc
version-next-of Two lines b rest e =
    let two = decimal_digit 2 (omega arith) in
    let plain = rw two at e in
    inr cc

pub version-next : (b : ℕ) → BeginsRecord (title ++ b ∷ []) → (b ≡ 49) ⊎ (b ≡ 50)
version-next b begins = version-next-of begins.1.0 begins.1.1 b begins.0 begins.1.2.1

end-next-of : (version other : Version) (lines : List RecordLine) (b : ℕ) (rest : List ℕ) →
    title ++ (decimal (version_number version) ++ (b ∷ rest)) ≡ text_of other lines → b ≡ 10
end-next-of One One lines b rest e =
    let one = decimal_digit 1 (omega arith) in
    let plain = rw one at e in
    cc
end-next-of One Two lines b rest e =
    let one = decimal_digit 1 (omega arith) in
    let two = decimal_digit 2 (omega arith) in
    let plain = rw (one, two) at e in
    cc
end-next-of Two One lines b rest e =
    let one = decimal_digit 1 (omega arith) in
    let two = decimal_digit 2 (omega arith) in
    let plain = rw (one, two) at e in
    cc
end-next-of Two Two lines b rest e =
    let two = decimal_digit 2 (omega arith) in
    let plain = rw two at e in
    cc

pub end-next : (version : Version) (b : ℕ) → BeginsRecord ((title ++ decimal (version_number version)) ++ b ∷ []) → b ≡ 10
end-next version b begins =
    let parts : title ++ (decimal (version_number version) ++ (b ∷ begins.0)) ≡ ((title ++ decimal (version_number version)) ++ b ∷ []) ++ begins.0 = simp append_assoc in
    end-next-of version begins.1.0 begins.1.1 b begins.0 (parts ∙ begins.1.2.1)
